-- The winds of a loop's facets cancel: an edge at which a segment ends has the opposite amount where the next one starts.
use Rattle.std.proofs.Common.{◌≡◌, ℕ, Bool, true, false, cond, not, ◌&&◌, List, [], ◌∷◌, inl, inr, refl, sym, ◌∙◌, ap, subst, arith, Some, None, neg_ℤ}
use Rattle.std.specs.Prelude.{Option, ℤ, pos, ◌+ℤ◌, filter, find, int_le, slice_get}
use Rattle.std.specs.List.{AllByRecursion}
use Rattle.std.proofs.lemmas.Int.{ints}
use Rattle.std.proofs.lemmas.List.Elements.{All-from_recursion}
use Rattle.std.proofs.lemmas.Option.{get_or_from_slice_get, slice_get_within}
use Rattle.exact_int.proofs.lemmas.Laws.{neg_of_difference}
use Rattle.geometry.specs.Point.{Point, half_micrometres_of}
use Rattle.geometry.specs.Facet.{Facet, Edge, half_edges, twice}
use Rattle.geometry.specs.Winding.{hit, neg_ray_back, ray, total, turn, turn_of, wind}
use Rattle.mesh_weld.specs.Balance.{IsBalanced}
use Rattle.mesh_weld.specs.EdgeNumbers.{AreEdgeNumbers, HaveSameEnds, edge_of}
use Rattle.mesh_weld.specs.Solid.{facet_at}
use Rattle.mesh_weld.specs.Laws.{IsOpposite, round}
use Rattle.mesh_weld.proofs.lemmas.Sums.{total-difference, total-map}
use Rattle.exact_cut.proofs.lemmas.Turns.{turn-opposite}
use Rattle.plane_segments.specs.Node.{is_node}
use Rattle.plane_segments.specs.declared.segment.Segment.{Segment}
use Rattle.plane_segments.specs.Segment.{height, is_downward, is_upward, segments}
use Rattle.contour.specs.Loops.{Closes, IsCycle, follower, loop_facets, loops, rank_at_end}
use Rattle.geometry.specs.TieRule.{rises_through}
use Rattle.contour.proofs.lemmas.Balanced.{first_of, low_at, never_both, rises-is, same_ends}
use Rattle.contour.proofs.lemmas.LoopRays.{in_loop}
use Rattle.contour.proofs.lemmas.LoopsClose.{loops_close}
use Rattle.contour.proofs.lemmas.Runs.{Runs, segments_run}

total-both : {X : Type 0} (f g h : X → ℤ) → ((x : X) → f x ≡ g x +ℤ h x) → (xs : List X) → total f xs ≡ total g xs +ℤ total h xs
total-both f g h e [] = refl
total-both f g h e (x ∷ xs) = let here = e x in let rest = total-both f g h e xs in omega (arith, ints, here, rest)

-- ---- the amount of a facet's edges is that of its edge down and its edge up
abbrev along : (Point → Point → ℤ) → Option Edge → ℤ
along amount None = pos 0
along amount (Some e) = amount e.from e.to

by_flags : (a b c : Bool) (t : Facet) (amount : Point → Point → ℤ)
    → (a ≡ b → amount t.a t.b ≡ pos 0) → (b ≡ c → amount t.b t.c ≡ pos 0) → (c ≡ a → amount t.c t.a ≡ pos 0)
    → round amount t ≡ along amount (first_of (b && not a) (c && not b) (a && not c) t) +ℤ along amount (first_of (a && not b) (b && not c) (c && not a) t)
by_flags true true true t amount p q r = let x = p refl in let y = q refl in let w = r refl in omega (arith, ints, x, y, w)
by_flags true true false t amount p q r = let x = p refl in omega (arith, ints, x)
by_flags true false true t amount p q r = let w = r refl in omega (arith, ints, w)
by_flags true false false t amount p q r = let y = q refl in omega (arith, ints, y)
by_flags false true true t amount p q r = let y = q refl in omega (arith, ints, y)
by_flags false true false t amount p q r = let w = r refl in omega (arith, ints, w)
by_flags false false true t amount p q r = let x = p refl in omega (arith, ints, x)
by_flags false false false t amount p q r = let x = p refl in let y = q refl in let w = r refl in omega (arith, ints, x, y, w)

kept_pass : {X : Type 0} (p : X → Bool) (xs : List X) → AllByRecursion (λ x. p x ≡ true) (filter p xs)
kept_pass p [] = tt
kept_pass p (x ∷ xs) = by_test (p x) refl (kept_pass p xs)
  where
    by_test : (b : Bool) → p x ≡ b → AllByRecursion (λ x. p x ≡ true) (filter p xs) → AllByRecursion (λ x. p x ≡ true) (cond b (x ∷ filter p xs) (filter p xs))
    by_test true h rest = (h, rest)
    by_test false h rest = rest

pub at_node : (list : List Segment) (s t : Segment) → follower list s ≡ Some t → is_node t.from s.to ≡ true
at_node list s t e =
    subst (λ u. is_node u.from s.to ≡ true) (get_or_from_slice_get (filter (λ u. is_node u.from s.to) list) (rank_at_end list s) t t e)
    (All-from_recursion (λ u. is_node u.from s.to ≡ true) (filter (λ u. is_node u.from s.to) list) (kept_pass (λ u. is_node u.from s.to) list)
    (rank_at_end list s) t (slice_get_within (filter (λ u. is_node u.from s.to) list) (rank_at_end list s) t e))

-- ---- amounts that are opposite if an edge is taken back, and nothing if it is not cut
module _ (facets : List Facet) (z : ℤ) (amount : Point → Point → ℤ) (opposite : IsOpposite amount)
    (level : (u v : Point) → low_at z u ≡ low_at z v → amount u v ≡ pos 0) where
  abbrev down_of : Segment → ℤ
  down_of s = along amount (find (is_downward z) (half_edges (facet_at facets s.facet)))

  abbrev up_of : Segment → ℤ
  up_of s = along amount (find (is_upward z) (half_edges (facet_at facets s.facet)))

  cut_amount : (t : Facet) → round amount t ≡ along amount (find (is_downward z) (half_edges t)) +ℤ along amount (find (is_upward z) (half_edges t))
  cut_amount t =
      by_flags (low_at z t.a) (low_at z t.b) (low_at z t.c) t amount (level t.a t.b) (level t.b t.c) (level t.c t.a)
      ∙ sym (λ i. along amount (first_of (rises-is z t.b t.a i) (rises-is z t.c t.b i) (rises-is z t.a t.c i) t)
      +ℤ along amount (first_of (rises-is z t.a t.b i) (rises-is z t.b t.c i) (rises-is z t.c t.a i) t))

  joined : (s t : Segment) → Runs facets z s → Runs facets z t → is_node t.from s.to ≡ true → up_of s +ℤ down_of t ≡ pos 0
  joined s t r q h =
      (λ i. along amount (r.up_is i) +ℤ along amount (q.down_is i))
      ∙ by_ends (edge_of facets t.facet q.down) (edge_of facets s.facet r.up) q.falls r.rises
      (same_ends facets t.facet q.down s.facet r.up q.inside q.down_in r.inside r.up_in
      ((λ i. is_node (sym q.from_is i) (sym r.to_is i)) ∙ h))
    where
      nothing : (a : ℤ) → a +ℤ neg_ℤ a ≡ pos 0
      nothing a = omega (arith, ints)

      by_ends : (d u : Edge) → is_downward z d ≡ true → is_upward z u ≡ true → HaveSameEnds d u
          → amount u.from u.to +ℤ amount d.from d.to ≡ pos 0
      by_ends d u f r (inl e) =
          absurd (never_both z u.from u.to r ((λ i. rises_through (height (sym e.1 i)) (height (sym e.0 i)) z) ∙ f))
      by_ends d u f r (inr e) =
          (λ i. amount u.from u.to +ℤ amount (e.0 i) (e.1 i)) ∙ ap (λ a. amount u.from u.to +ℤ a) (opposite u.from u.to)
          ∙ nothing (amount u.from u.to)

  round_the_loop : (list : List Segment) (first s : Segment) (rest : List Segment) → Runs facets z first
      → AllByRecursion (Runs facets z) (s ∷ rest) → Closes list first (s ∷ rest)
      → total up_of (s ∷ rest) +ℤ (total down_of rest +ℤ down_of first) ≡ pos 0
  round_the_loop list first s [] f r h = let one = joined s first r.0 f (at_node list s first h) in omega (arith, ints, one)
  round_the_loop list first s (t ∷ rest) f r h =
      let one = joined s t r.0 r.1.0 (at_node list s t h.0) in
      let more = round_the_loop list first t rest f r.1 h.1 in omega (arith, ints, one, more)

  cycle_cancels : (list loop : List Segment) → AllByRecursion (Runs facets z) loop → IsCycle list loop
      → total (round amount) (loop_facets facets loop) ≡ pos 0
  cycle_cancels list [] r h = absurd h
  cycle_cancels list (s ∷ rest) r h =
      total-map (round amount) (λ x. facet_at facets x.facet) (s ∷ rest)
      ∙ total-both (λ x. round amount (facet_at facets x.facet)) down_of up_of (λ x. cut_amount (facet_at facets x.facet)) (s ∷ rest)
      ∙ (let cancels = round_the_loop list s s rest r.0 r h in omega (arith, ints, cancels))

turn_of-level : (u v z l : ℤ) → int_le u z ≡ int_le v z → turn_of u v z l ≡ pos 0
unfolding turn_of
turn_of-level u v z l e = grind (arith, ints)

pub cycle_winds-cancel : (facets : List Facet) (y z : ℤ) (list loop : List Segment) → AllByRecursion (Runs facets z) loop → IsCycle list loop
    → total (λ t. wind (twice t) y z) (loop_facets facets loop) ≡ pos 0
unfolding wind
cycle_winds-cancel facets y z list loop runs closes =
    cycle_cancels facets z (λ u v. turn (half_micrometres_of u) (half_micrometres_of v) y z) (λ u v. turn-opposite (half_micrometres_of u) (half_micrometres_of v) y z)
    (λ u v e. turn_of-level (height u) (height v) z _ e) list loop runs closes

module _ (facets : List Facet) (numbers : List (List ℕ)) (count : ℕ) (numbered : AreEdgeNumbers facets numbers count) (balanced : IsBalanced facets)
    (c : Point) (list : List Segment) (k : ℕ) (is : slice_get (loops (segments facets c.z)) k ≡ Some list) where
  closes : IsCycle (segments facets c.z) list
  closes =
      let all = loops_close facets numbers count numbered balanced c.z in
      subst (IsCycle (segments facets c.z)) (get_or_from_slice_get (loops (segments facets c.z)) k list list is)
      (All-from_recursion (IsCycle (segments facets c.z)) (loops (segments facets c.z)) all.cycles k list
      (slice_get_within (loops (segments facets c.z)) k list is))

  runs : AllByRecursion (Runs facets c.z) list
  runs = (in_loop (segments facets c.z) (Runs facets c.z) (segments_run facets c.z) k list is).0

  winds : total (λ t. wind (twice t) c.y c.z) (loop_facets facets list) ≡ pos 0
  winds = cycle_winds-cancel facets c.y c.z (segments facets c.z) list runs closes

  pub ray_from_back : neg_ray_back (loop_facets facets list) c ≡ ray (loop_facets facets list) c
  ray_from_back =
      neg_of_difference _ _ _ (total-difference (λ t. wind (twice t) c.y c.z) (λ t. hit (twice t) c) (loop_facets facets list)) winds
