-- The rays of a loop's facets, one after another.
use Rattle.std.proofs.Common.{◌≡◌, ℕ, zero, suc, ◌+◌, ◌<◌, ◌≤◌, Bool, true, false, List, [], ◌∷◌, refl, sym, ◌∙◌, ap, subst, length, take, get_or, map, arith, Some, None, to_z, of_z, w32, cond}
use Rattle.std.specs.Prelude.{All, Option, ℤ, ◌+ℤ◌, slice_get, filter}
use Rattle.std.specs.List.{AllByRecursion}
use Rattle.std.proofs.lemmas.List.Elements.{All-filter, All-from_recursion, recursion_from_All}
use Rattle.std.proofs.lemmas.Option.{get_or_from_slice_get, slice_get_within}
use Rattle.exact_int.specs.Bounds.{IsAtMost}
use Rattle.geometry.specs.Point.{Point}
use Rattle.geometry.specs.Facet.{Facet, twice}
use Rattle.geometry.specs.Winding.{hit, ray, total}
use Rattle.mesh_weld.specs.Solid.{facet_at}
use Rattle.mesh_weld.proofs.lemmas.Sums.{total-map}
use Rattle.mesh_weld.proofs.lemmas.Probing.{Summed, sum_more}
use Rattle.plane_segments.specs.Node.{is_node}
use Rattle.plane_segments.specs.declared.segment.Segment.{Segment}
use Rattle.plane_segments.specs.Segment.{segments, is_segment}
use Rattle.plane_segments.proofs.lemmas.Cutting.{facet_at-is}
use Rattle.plane_segments.proofs.lemmas.FacetOrder.{segments_below, segments_few}
use Rattle.contour.specs.Loops.{loop_facets, loops, cycle, run_from, follower, is_leader, rank_at_end}
use Rattle.geometry.specs.declared.limits.TheConstants.{FACET_LIMIT}

-- ---- a loop is of the list's segments, and at most one longer
module _ (list : List Segment) (P : Segment → Type 0) (all : All P list) where
  pub follower_in : (s t : Segment) → follower list s ≡ Some t → P t
  follower_in s t e =
      subst P (get_or_from_slice_get (filter (λ u. is_node u.from s.to) list) (rank_at_end list s) t t e)
      (All-filter (λ u. is_node u.from s.to) P list all (rank_at_end list s) t
      (slice_get_within (filter (λ u. is_node u.from s.to) list) (rank_at_end list s) t e))

  step_in : (first : Segment) (next : Option Segment) (more : Segment → List Segment) → ((t : Segment) → next ≡ Some t → P t)
      → ((t : Segment) → P t → AllByRecursion P (more t))
      → AllByRecursion P (elim next [ None ↦ [] | Some t ↦ cond (is_segment t first) [] (more t) ])
  step_in first None more h rest = tt
  step_in first (Some t) more h rest = by_test (is_segment t first)
    where
      by_test : (b : Bool) → AllByRecursion P (cond b [] (more t))
      by_test true = tt
      by_test false = rest t (h t refl)

  run_in : (first : Segment) (n : ℕ) (s : Segment) → P s → AllByRecursion P (run_from list first n s)
  run_in first zero s h = (h, tt)
  run_in first (suc n) s h =
      (h, step_in first (follower list s) (run_from list first n) (follower_in s) (λ t p. run_in first n t p))

run_length : (list : List Segment) (first : Segment) (n : ℕ) (s : Segment) → length (run_from list first n s) ≤ n + 1
run_length list first zero s = omega arith
run_length list first (suc n) s = by_next (run_length list first n) (follower list s)
  where
    by_test : (k : ℕ) (xs : List Segment) (b : Bool) → length xs ≤ k + 1 → length (cond b [] xs) ≤ k + 1
    by_test k xs true h = omega arith
    by_test k xs false h = h

    by_next : ((t : Segment) → length (run_from list first n t) ≤ n + 1) → (next : Option Segment)
        → length (s ∷ elim next [ None ↦ [] | Some t ↦ cond (is_segment t first) [] (run_from list first n t) ]) ≤ suc n + 1
    by_next h None = omega arith
    by_next h (Some t) =
        let le = by_test n (run_from list first n t) (is_segment t first) (h t) in
        omega arith

pub loops_in : (list : List Segment) (P : Segment → Type 0) (n : ℕ) → All P list → (kept : List Segment) → AllByRecursion P kept
    → AllByRecursion (λ loop. AllByRecursion P loop × (length loop ≤ length list + 1)) (map (cycle list) kept)
loops_in list P n all [] h = tt
loops_in list P n all (s ∷ kept) h =
    ((run_in list P all s (length list) s h.0, run_length list s (length list) s), loops_in list P n all kept h.1)

-- the segments of a loop are of the list
pub in_loop : (list : List Segment) (P : Segment → Type 0) → All P list → (k : ℕ) (loop : List Segment) → slice_get (loops list) k ≡ Some loop
    → AllByRecursion P loop × (length loop ≤ length list + 1)
in_loop list P all k loop e =
    let kept = recursion_from_All P (filter (is_leader list) list) (All-filter (is_leader list) P list all) in
    let each = All-from_recursion (λ loop. AllByRecursion P loop × (length loop ≤ length list + 1)) (loops list)
    (loops_in list P 0 all (filter (is_leader list) list) kept) in
    subst (λ loop. AllByRecursion P loop × (length loop ≤ length list + 1)) (get_or_from_slice_get (loops list) k loop loop e)
    (each k loop (slice_get_within (loops list) k loop e))

-- what a loop of the segments at a height has
pub record IsLoopOf (facets : List Facet) (list : List Segment) : Type 0 where
  pub within : All (λ s. s.facet < length facets) list
  pub few : length list ≤ length facets + 1

pub is_loop : (facets : List Facet) (z : ℤ) (list : List Segment) (k : ℕ) → slice_get (loops (segments facets z)) k ≡ Some list
    → IsLoopOf facets list
is_loop facets z list k e =
    let here = in_loop (segments facets z) (λ s. s.facet < length facets) (segments_below facets (segments facets z) (z, refl)) k list e in
    let few = segments_few facets (segments facets z) (z, refl) in
    let length_is = here.1 in
    record { within = All-from_recursion (λ s. s.facet < length facets) list here.0; few = omega arith }

-- ---- the sum
-- the hit of a segment's facet
abbrev pub hit_of : List Facet → Point → Segment → ℤ
hit_of facets c s = hit (twice (facet_at facets s.facet)) c

-- one more segment
pub segment_more : (facets : List Facet) (c : Point) (list : List Segment) (i : ℕ) (d : Segment) (t : Facet) (sum more : ℤ)
    → i < length list → i ≤ FACET_LIMIT → slice_get facets (get_or list i d).facet ≡ Some t → Summed (hit_of facets c) list i sum
    → more ≡ hit (twice t) c → IsAtMost 1 more
    → Summed (hit_of facets c) list (i + 1) (to_z w32 (of_z w32 (sum +ℤ to_z w32 (of_z w32 more))))
segment_more facets c list i d t sum more inside few at so_far more_is unit =
    sum_more (hit_of facets c) list i d sum more inside few so_far
    (more_is ∙ ap (λ u. hit (twice u) c) (sym (facet_at-is facets (get_or list i d).facet t at))) unit

-- the sum over all segments is the ray of the loop's facets
pub summed_all : (facets : List Facet) (c : Point) (list : List Segment) (i : ℕ) (sum : ℤ) → take i list ≡ list
    → Summed (hit_of facets c) list i sum → sum ≡ ray (loop_facets facets list) c
summed_all facets c list i sum all h =
    h.sum_is ∙ ap (total (hit_of facets c)) all ∙ sym (total-map (λ t. hit (twice t) c) (λ s. facet_at facets s.facet) list)
