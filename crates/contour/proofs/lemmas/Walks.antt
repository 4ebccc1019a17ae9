-- Walking along a loop, as `trace_loop` does: from follower to follower, past segments that are not visited, until the first
-- comes again.
use Rattle.std.proofs.Common.{◌≡◌, ℕ, zero, suc, ◌+◌, ◌<◌, ◌≤◌, Bool, true, false, cond, eqb, ◌&&◌, List, [], ◌∷◌, ◌++◌, ◌⊎◌, inl, inr, refl, sym, ◌∙◌, ap, subst, length, get_or, set, arith, Some, get_or-set_same, get_or-set_other}
use Rattle.std.specs.Prelude.{nat_le, ◌==◌}
use Rattle.std.specs.List.{list_all}
use Rattle.std.proofs.lemmas.List.{length-set}
use Rattle.std.proofs.lemmas.Bool.{both_ways, cases_eq, cases_lt, le-leb}
use Rattle.mesh_weld.proofs.lemmas.Edges.{count_by-cons}
use Rattle.plane_segments.specs.declared.segment.Segment.{Segment}
use Rattle.plane_segments.specs.Segment.{no_segment}
use Rattle.contour.specs.Loops.{Closes, IsCycle, count_of, first_facet, follower}
use Rattle.contour.specs.Linker.{AreLinks, IsTracedLoop, KeepsLoopsWhole, InFacetOrder, facet_number, is_visited, unvisited}
use Rattle.contour.specs.declared.linker.TheConstants.{NONE}
use Rattle.contour.proofs.lemmas.Counts.{count-append}

abbrev pub segment_in : List Segment → ℕ → Segment
segment_in list j = get_or list j no_segment

Closes-push : (list : List Segment) (t u : Segment) (part : List Segment) → Closes list t part → follower list t ≡ Some u → Closes list u (part ++ t ∷ [])
Closes-push list t u [] h k = absurd h
Closes-push list t u (s ∷ []) h k = (h, k)
Closes-push list t u (s ∷ r ∷ rest) h k = (h.0, Closes-push list t u (r ∷ rest) h.1 k)

head-push : (part : List Segment) (t : Segment) → 0 < length part → get_or (part ++ t ∷ []) 0 no_segment ≡ get_or part 0 no_segment
head-push [] t h = absurd (omega (arith, h))
head-push (s ∷ part) t h = refl

pub facet-head : (part : List Segment) → first_facet part ≡ (get_or part 0 no_segment).facet
facet-head [] = refl
facet-head (s ∷ part) = refl

all-push : (p : Segment → Bool) (part : List Segment) (t : Segment) → list_all p part ≡ true → p t ≡ true → list_all p (part ++ t ∷ []) ≡ true
all-push p [] t h k = ap (λ b. b && true) k
all-push p (s ∷ part) t h k = by_test (p s) h (all-push p part t)
  where
    by_test : (b : Bool) → (b && list_all p part) ≡ true → (list_all p part ≡ true → p t ≡ true → list_all p (part ++ t ∷ []) ≡ true) → (b && list_all p (part ++ t ∷ [])) ≡ true
    by_test true h r = r h k
    by_test false h r = absurd (cc)

-- a visit leaves one segment fewer unvisited
unvisited-pass : (n : ℕ) (visited : List Bool) (list : List Segment) (at : ℕ) → length visited ≡ length list → at < length list → get_or visited at true ≡ false
    → cond (eqb (segment_in list at).facet n) 1 0 + count_of n (unvisited (set visited at true) list) ≡ count_of n (unvisited visited list)
unvisited-pass n [] [] at e l h = absurd (omega (arith, l))
unvisited-pass n [] (x ∷ list) at e l h = absurd (omega (arith, e))
unvisited-pass n (b ∷ visited) [] at e l h = absurd (omega (arith, l))
unvisited-pass n (b ∷ visited) (x ∷ list) zero e l h =
    sym (count_by-cons (λ (s : Segment). s.facet == n) x (unvisited visited list)) ∙ ap (λ c. count_of n (cond c (unvisited visited list) (x ∷ unvisited visited list))) (sym h)
unvisited-pass n (true ∷ visited) (x ∷ list) (suc at) e l h = unvisited-pass n visited list at (omega (arith, e)) (omega (arith, l)) h
unvisited-pass n (false ∷ visited) (x ∷ list) (suc at) e l h =
    let rest = unvisited-pass n visited list at (omega (arith, e)) (omega (arith, l)) h in
    let a = count_by-cons (λ (s : Segment). s.facet == n) x (unvisited (set visited at true) list) in
    let b = count_by-cons (λ (s : Segment). s.facet == n) x (unvisited visited list) in
    omega (arith, rest, a, b)

-- the position of a walk: at its first slot, with no segment passed, or at the follower of the slot `prev`
abbrev Way : List Segment → List ℕ → ℕ → List Bool → ℕ → List Segment → Type 0
Way list next first visited at part =
    ((at ≡ first) × (part ≡ []) × (is_visited visited at ≡ false))
    ⊎ ((prev : ℕ) × (prev < length list) × (is_visited visited prev ≡ true) × (get_or next prev NONE ≡ at)
    × ((is_visited visited at ≡ false) ⊎ (at ≡ first)) × Closes list (segment_in list at) part × (0 < length part) × (get_or part 0 no_segment ≡ segment_in list first)
    × (is_visited visited first ≡ true))

pub record IsWalk (list : List Segment) (next : List ℕ) (first : ℕ) (before visited : List Bool) (at : ℕ) (part : List Segment) : Type 0 where
  pub inside : at < length list
  pub size : length visited ≡ length list
  pub way : Way list next first visited at part
  pub least : list_all (λ t. nat_le (facet_number list first) t.facet) part ≡ true
  pub once : (n : ℕ) → count_of n part + count_of n (unvisited visited list) ≡ count_of n (unvisited before list)
  pub kept : (j : ℕ) → is_visited before j ≡ true → is_visited visited j ≡ true
  pub fresh : (j : ℕ) → j < length list → is_visited visited j ≡ false
      → (is_visited visited (get_or next j NONE) ≡ false) ⊎ (get_or next j NONE ≡ first)

pub walk-begins : (list : List Segment) (next : List ℕ) (first : ℕ) (visited : List Bool) → first < length list → length visited ≡ length list
    → is_visited visited first ≡ false → KeepsLoopsWhole list next visited → IsWalk list next first visited visited first []
walk-begins list next first visited l e h whole = record {
  inside = l;
  size = e;
  way = inl (refl, refl, h);
  least = refl;
  once = λ n. plain (count_of n (unvisited visited list));
  kept = λ j k. k;
  fresh = λ j m k. inl (whole j m k);
}
  where
    plain : (k : ℕ) → 0 + k ≡ k
    plain k = omega arith

module _ (list : List Segment) (next : List ℕ) (links : AreLinks list next) (order : InFacetOrder list) (first : ℕ) (begins : first < length list) (before : List Bool)
    (earlier : (j : ℕ) → j < first → is_visited before j ≡ true)
    (visited : List Bool) (at : ℕ) (part : List Segment) (w : IsWalk list next first before visited at part) where
  -- a slot once visited stays visited
  stays_visited : (j : ℕ) → is_visited visited j ≡ true → is_visited (set visited at true) j ≡ true
  stays_visited j h = by_slot (cases_eq j at)
    where
      by_slot : (j ≡ at) ⊎ (j ≡ at → ⊥) → is_visited (set visited at true) j ≡ true
      by_slot (inl e) = ap (is_visited (set visited at true)) e ∙ get_or-set_same visited at true true (let s = w.size in let i = w.inside in omega (arith, s, i))
      by_slot (inr n) = get_or-set_other visited at j true true n ∙ h

  now : is_visited (set visited at true) at ≡ true
  now = get_or-set_same visited at true true (let s = w.size in let i = w.inside in omega (arith, s, i))

  was_unvisited : (j : ℕ) → is_visited (set visited at true) j ≡ false → (is_visited visited j ≡ false) × (j ≡ at → ⊥)
  was_unvisited j h = by_slot (cases_eq j at)
    where
      by_slot : (j ≡ at) ⊎ (j ≡ at → ⊥) → (is_visited visited j ≡ false) × (j ≡ at → ⊥)
      by_slot (inl e) = absurd (both_ways _ h (ap (is_visited (set visited at true)) e ∙ now))
      by_slot (inr n) = (sym (get_or-set_other visited at j true true n) ∙ h, n)

  -- only the first slot is entered from one that is not visited
  entered : (j : ℕ) → j < length list → is_visited visited j ≡ false → get_or next j NONE ≡ at → at ≡ first
  entered j l h e = by_way w.way
    where
      by_way : Way list next first visited at part → at ≡ first
      by_way (inl k) = k.0
      by_way (inr k) = absurd (both_ways _ h (ap (is_visited visited) (links.one j k.0 l k.1 (e ∙ sym k.3)) ∙ k.2))

  module _ (here : is_visited visited at ≡ false) where
    not_before : first ≤ at
    not_before = by_order (cases_lt at first)
      where
        by_order : (at < first) ⊎ (first ≤ at) → first ≤ at
        by_order (inl l) = absurd (both_ways _ here (w.kept at (earlier at l)))
        by_order (inr l) = l

    high : nat_le (facet_number list first) (segment_in list at).facet ≡ true
    high = by_slot (cases_eq first at)
      where
        by_slot : (first ≡ at) ⊎ (first ≡ at → ⊥) → nat_le (facet_number list first) (segment_in list at).facet ≡ true
        by_slot (inl e) = le-leb _ _ (let s = ap (facet_number list) e in omega (arith, s))
        by_slot (inr n) = le-leb _ _ (let m = not_before in let s = order first at (omega (arith, m, n)) w.inside in omega (arith, s))

    pub walk-goes : IsWalk list next first before (set visited at true) (get_or next at NONE) (part ++ segment_in list at ∷ [])
    walk-goes = record {
      inside = links.within at w.inside;
      size = length-set visited at true ∙ w.size;
      way = inr (at, w.inside, now, refl, onward (w.fresh at w.inside here), closes w.way, long part, heads w.way, firsts w.way);
      least = all-push (λ t. nat_le (facet_number list first) t.facet) part (segment_in list at) w.least high;
      once = λ n.
          let a = count-append (λ (s : Segment). s.facet == n) part (segment_in list at ∷ []) in
          let b = count_by-cons (λ (s : Segment). s.facet == n) (segment_in list at) [] in
          let c = unvisited-pass n visited list at w.size w.inside here in
          let d = w.once n in omega (arith, a, b, c, d);
      kept = λ j h. stays_visited j (w.kept j h);
      fresh = λ j l h. still j l (was_unvisited j h);
    }
      where
        long : (p : List Segment) → 0 < length (p ++ segment_in list at ∷ [])
        long [] = omega arith
        long (s ∷ p) = omega arith

        own_loop : get_or next at NONE ≡ at → at ≡ first
        own_loop e = entered at w.inside here e

        onward : (is_visited visited (get_or next at NONE) ≡ false) ⊎ (get_or next at NONE ≡ first)
            → (is_visited (set visited at true) (get_or next at NONE) ≡ false) ⊎ (get_or next at NONE ≡ first)
        onward (inr e) = inr e
        onward (inl h) = by_slot (cases_eq (get_or next at NONE) at)
          where
            by_slot : (get_or next at NONE ≡ at) ⊎ (get_or next at NONE ≡ at → ⊥)
                → (is_visited (set visited at true) (get_or next at NONE) ≡ false) ⊎ (get_or next at NONE ≡ first)
            by_slot (inl e) = inr (e ∙ own_loop e)
            by_slot (inr n) = inl (get_or-set_other visited at (get_or next at NONE) true true n ∙ h)

        follows : follower list (segment_in list at) ≡ Some (segment_in list (get_or next at NONE))
        follows = links.follows at no_segment w.inside

        closes : Way list next first visited at part → Closes list (segment_in list (get_or next at NONE)) (part ++ segment_in list at ∷ [])
        closes (inl k) = subst (λ p. Closes list (segment_in list (get_or next at NONE)) (p ++ segment_in list at ∷ [])) (sym k.1) follows
        closes (inr k) = Closes-push list (segment_in list at) (segment_in list (get_or next at NONE)) part k.5 follows

        heads : Way list next first visited at part → get_or (part ++ segment_in list at ∷ []) 0 no_segment ≡ segment_in list first
        heads (inl k) = subst (λ p. get_or (p ++ segment_in list at ∷ []) 0 no_segment ≡ segment_in list first) (sym k.1) (ap (segment_in list) k.0)
        heads (inr k) = head-push part (segment_in list at) k.6 ∙ k.7

        firsts : Way list next first visited at part → is_visited (set visited at true) first ≡ true
        firsts (inl k) = ap (is_visited (set visited at true)) (sym k.0) ∙ now
        firsts (inr k) = stays_visited first k.8

        still : (j : ℕ) → j < length list → (is_visited visited j ≡ false) × (j ≡ at → ⊥)
            → (is_visited (set visited at true) (get_or next j NONE) ≡ false) ⊎ (get_or next j NONE ≡ first)
        still j l h = by_slot (cases_eq (get_or next j NONE) at) (w.fresh j l h.0)
          where
            by_slot : (get_or next j NONE ≡ at) ⊎ (get_or next j NONE ≡ at → ⊥)
                → (is_visited visited (get_or next j NONE) ≡ false) ⊎ (get_or next j NONE ≡ first)
                → (is_visited (set visited at true) (get_or next j NONE) ≡ false) ⊎ (get_or next j NONE ≡ first)
            by_slot (inl e) f = inr (e ∙ entered j l h.0 e)
            by_slot (inr n) (inl f) = inl (get_or-set_other visited at (get_or next j NONE) true true n ∙ f)
            by_slot (inr n) (inr f) = inr f

  pub walk-ends : is_visited visited at ≡ true → IsTracedLoop list next first before visited part
  walk-ends done = by_way w.way
    where
      closed : (p : List Segment) → Closes list (segment_in list first) p → get_or p 0 no_segment ≡ segment_in list first → IsCycle list p
      closed [] h k = h
      closed (s ∷ p) h k = subst (λ x. Closes list x (s ∷ p)) (sym k) h

      by_way : Way list next first visited at part → IsTracedLoop list next first before visited part
      by_way (inl k) = absurd (both_ways _ k.2 done)
      by_way (inr k) = by_end k.4
        where
          by_end : (is_visited visited at ≡ false) ⊎ (at ≡ first) → IsTracedLoop list next first before visited part
          by_end (inl f) = absurd (both_ways _ f done)
          by_end (inr e) = record {
            cycle = closed part (subst (λ n. Closes list (segment_in list n) part) e k.5) k.7;
            head = facet-head part ∙ ap (λ (s : Segment). s.facet) k.7;
            least = w.least;
            once = w.once;
            whole = λ j l h. out j l h (w.fresh j l h);
            kept = w.kept;
            done = k.8;
          }
            where
              out : (j : ℕ) → j < length list → is_visited visited j ≡ false
                  → (is_visited visited (get_or next j NONE) ≡ false) ⊎ (get_or next j NONE ≡ first) → is_visited visited (get_or next j NONE) ≡ false
              out j l h (inl f) = f
              out j l h (inr f) = absurd (both_ways _ h (ap (is_visited visited) (links.one j k.0 l k.1 (f ∙ sym e ∙ sym k.3)) ∙ k.2))
