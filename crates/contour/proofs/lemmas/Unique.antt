-- Only one list of loops meets `AreLoops`: the cycles, each from its leader, in the order of the leaders.
use Rattle.std.proofs.Common.{◌≡◌, ℕ, zero, suc, ◌+◌, ◌<◌, ◌≤◌, Bool, true, false, eqb, cond, List, [], ◌∷◌, ◌⊎◌, inl, inr, refl, sym, ◌∙◌, ap, subst, length, get_or, map, arith, Some}
use Rattle.std.specs.Prelude.{ℤ, filter, flat_map, nat_le, slice_get, ◌==◌}
use Rattle.std.specs.List.{list_all, AllByRecursion}
use Rattle.std.specs.List.Sorted.{IsStrictlyIncreasing}
use Rattle.std.proofs.lemmas.Bool.{and_parts, cases_eq, eq-eqb, eqb-false, leb-true, ne_eqb}
use Rattle.geometry.specs.Facet.{Facet}
use Rattle.mesh_weld.proofs.lemmas.Edges.{count_by-cons}
use Rattle.mesh_weld.proofs.lemmas.HeightOrder.{eqb_flips}
use Rattle.plane_segments.specs.Node.{is_node}
use Rattle.plane_segments.specs.declared.segment.Segment.{Segment}
use Rattle.plane_segments.specs.Segment.{no_segment, segments}
use Rattle.plane_segments.proofs.lemmas.FacetOrder.{AreFrom, segments_ascend}
use Rattle.contour.specs.Loops.{AreLoops, Closes, IsCycle, count_of, cycle, first_facet, follower, is_from_least, is_leader, loops, run_from, rank_at_end}
use Rattle.contour.proofs.lemmas.Counts.{count-append}
use Rattle.contour.proofs.lemmas.Cycles.{NoneOf, onward, run-is}
use Rattle.contour.proofs.lemmas.Walks.{facet-head}

abbrev pub Has : Segment → List Segment → Type 0
Has s [] = ⊥
Has s (t ∷ list) = (s ≡ t) ⊎ Has s list

facets : (s t : Segment) → s ≡ t → s.facet ≡ t.facet
facets s t e = ap (λ (u : Segment). u.facet) e

-- ---- how many are of a facet
counted : (n : ℕ) (x : Segment) (xs : List Segment) → count_of n (x ∷ xs) ≡ cond (eqb x.facet n) 1 0 + count_of n xs
counted n x xs = count_by-cons (λ (s : Segment). s.facet == n) x xs

count-own : (n : ℕ) (x : Segment) (xs : List Segment) → x.facet ≡ n → count_of n (x ∷ xs) ≡ 1 + count_of n xs
count-own n x xs e = counted n x xs ∙ ap (λ b. cond b 1 0 + count_of n xs) (eq-eqb x.facet n e)

count-other : (n : ℕ) (x : Segment) (xs : List Segment) → (x.facet ≡ n → ⊥) → count_of n (x ∷ xs) ≡ count_of n xs
count-other n x xs d = counted n x xs ∙ ap (λ b. cond b 1 0 + count_of n xs) (ne_eqb x.facet n d) ∙ plain (count_of n xs)
  where
    plain : (k : ℕ) → 0 + k ≡ k
    plain k = omega arith

has-count : (s : Segment) (xs : List Segment) → Has s xs → 1 ≤ count_of s.facet xs
has-count s [] h = absurd h
has-count s (x ∷ xs) (inl e) = let c = count-own s.facet x xs (sym (facets s x e)) in omega (arith, c)
has-count s (x ∷ xs) (inr h) = let c = counted s.facet x xs in let r = has-count s xs h in omega (arith, c, r)

count-has : (n : ℕ) (xs : List Segment) → (count_of n xs ≡ 0 → ⊥) → (t : Segment) × Has t xs × (t.facet ≡ n)
count-has n [] h = absurd (h refl)
count-has n (x ∷ xs) h = by_facet (cases_eq x.facet n) (count-has n xs)
  where
    by_facet : (x.facet ≡ n) ⊎ (x.facet ≡ n → ⊥) → ((count_of n xs ≡ 0 → ⊥) → (t : Segment) × Has t xs × (t.facet ≡ n))
        → (t : Segment) × Has t (x ∷ xs) × (t.facet ≡ n)
    by_facet (inl e) rest = (x, inl refl, e)
    by_facet (inr d) rest = let r = rest (λ e. h (count-other n x xs d ∙ e)) in (r.0, inr r.1, r.2)

-- ---- in order of facets, from one on
abbrev From : ℕ → List Segment → Type 0
From a [] = Unit {0}
From a (s ∷ list) = (a ≤ s.facet) × From (s.facet + 1) list

From-lower : (a c : ℕ) (list : List Segment) → a ≤ c → From c list → From a list
From-lower a c [] l h = tt
From-lower a c (s ∷ list) l h = let low : c ≤ s.facet = h.0 in (omega (arith, l, low), h.1)

From-has : (a : ℕ) (list : List Segment) (s : Segment) → From a list → Has s list → a ≤ s.facet
From-has a [] s h k = absurd k
From-has a (x ∷ list) s h (inl e) = let low : a ≤ x.facet = h.0 in let f = facets s x e in omega (arith, low, f)
From-has a (x ∷ list) s h (inr k) = let low : a ≤ x.facet = h.0 in let r = From-has (x.facet + 1) list s h.1 k in omega (arith, low, r)

From-below : (a : ℕ) (list : List Segment) (n : ℕ) → From a list → n < a → count_of n list ≡ 0
From-below a [] n h l = refl
From-below a (x ∷ list) n h l =
    let low : a ≤ x.facet = h.0 in
    count-other n x list (λ e. omega (arith, low, l, e)) ∙ From-below (x.facet + 1) list n h.1 (omega (arith, low, l))

abbrev Single : List Segment → Type 0
Single xs = (n : ℕ) → count_of n xs ≤ 1

From-single : (a : ℕ) (list : List Segment) → From a list → Single list
From-single a [] h n = omega arith
From-single a (x ∷ list) h n = by_facet (cases_eq x.facet n) (From-single (x.facet + 1) list h.1 n)
  where
    by_facet : (x.facet ≡ n) ⊎ (x.facet ≡ n → ⊥) → count_of n list ≤ 1 → count_of n (x ∷ list) ≤ 1
    by_facet (inl e) rest =
        let c = count-own n x list e in let z = From-below (x.facet + 1) list n h.1 (omega (arith, e)) in omega (arith, c, z)
    by_facet (inr d) rest = let c = count-other n x list d in omega (arith, c, rest)

From-one : (a : ℕ) (list : List Segment) (s t : Segment) → From a list → Has s list → Has t list → s.facet ≡ t.facet → s ≡ t
From-one a [] s t h p q e = absurd p
From-one a (x ∷ list) s t h (inl p) (inl q) e = p ∙ sym q
From-one a (x ∷ list) s t h (inl p) (inr q) e =
    let up = From-has (x.facet + 1) list t h.1 q in let f = facets s x p in absurd (omega (arith, up, f, e))
From-one a (x ∷ list) s t h (inr p) (inl q) e =
    let up = From-has (x.facet + 1) list s h.1 p in let f = facets t x q in absurd (omega (arith, up, f, e))
From-one a (x ∷ list) s t h (inr p) (inr q) e = From-one (x.facet + 1) list s t h.1 p q e

later : (x y : Segment) (ys : List Segment) (s : Segment) → x ≡ y → x.facet + 1 ≤ s.facet → (s ≡ y) ⊎ Has s ys → Has s ys
later x y ys s e l (inl h) = let f = facets x y e in let g = facets s y h in absurd (omega (arith, f, g, l))
later x y ys s e l (inr h) = h

same-members : (a b : ℕ) (xs ys : List Segment) → From a xs → From b ys → ((s : Segment) → Has s xs → Has s ys)
    → ((s : Segment) → Has s ys → Has s xs) → xs ≡ ys
same-members a b [] [] h k f g = refl
same-members a b [] (y ∷ ys) h k f g = absurd (g y (inl refl))
same-members a b (x ∷ xs) [] h k f g = absurd (f x (inl refl))
same-members a b (x ∷ xs) (y ∷ ys) h k f g =
    let same : x ≡ y = by_places (f x (inl refl)) (g y (inl refl)) in
    let rest : xs ≡ ys = same-members (x.facet + 1) (y.facet + 1) xs ys h.1 k.1
    (λ s m. later x y ys s same (From-has (x.facet + 1) xs s h.1 m) (f s (inr m)))
    (λ s m. later y x xs s (sym same) (From-has (y.facet + 1) ys s k.1 m) (g s (inr m))) in
    λ i. same i ∷ rest i
  where
    by_places : (x ≡ y) ⊎ Has x ys → (y ≡ x) ⊎ Has y xs → x ≡ y
    by_places (inl e) q = e
    by_places (inr p) (inl e) = sym e
    by_places (inr p) (inr q) =
        let up = From-has (y.facet + 1) ys x k.1 p in let up' = From-has (x.facet + 1) xs y h.1 q in absurd (omega (arith, up, up'))

-- ---- filters
From-filter : (p : Segment → Bool) (a : ℕ) (list : List Segment) → From a list → From a (filter p list)
From-filter p a [] h = tt
From-filter p a (x ∷ list) h = by_test (p x) (From-filter p (x.facet + 1) list h.1)
  where
    by_test : (b : Bool) → From (x.facet + 1) (filter p list) → From a (cond b (x ∷ filter p list) (filter p list))
    by_test true r = (h.0, r)
    by_test false r = let low : a ≤ x.facet = h.0 in From-lower a (x.facet + 1) (filter p list) (omega (arith, low)) r

has-filter : (p : Segment → Bool) (list : List Segment) (s : Segment) → Has s list → p s ≡ true → Has s (filter p list)
has-filter p [] s h t = h
has-filter p (x ∷ list) s (inl e) t = by_test (p x) (ap p (sym e) ∙ t)
  where
    by_test : (b : Bool) → b ≡ true → Has s (cond b (x ∷ filter p list) (filter p list))
    by_test true q = inl e
    by_test false q = absurd (cc)
has-filter p (x ∷ list) s (inr h) t = by_test (p x) (has-filter p list s h t)
  where
    by_test : (b : Bool) → Has s (filter p list) → Has s (cond b (x ∷ filter p list) (filter p list))
    by_test true r = inr r
    by_test false r = r

filter-has : (p : Segment → Bool) (list : List Segment) (s : Segment) → Has s (filter p list) → Has s list × (p s ≡ true)
filter-has p [] s h = absurd h
filter-has p (x ∷ list) s h = by_test (p x) refl h (filter-has p list s)
  where
    by_test : (b : Bool) → p x ≡ b → Has s (cond b (x ∷ filter p list) (filter p list))
        → (Has s (filter p list) → Has s list × (p s ≡ true)) → Has s (x ∷ list) × (p s ≡ true)
    by_test true e (inl q) rest = (inl q, ap p q ∙ e)
    by_test true e (inr q) rest = let r = rest q in (inr r.0, r.1)
    by_test false e q rest = let r = rest q in (inr r.0, r.1)

all-has : (p : Segment → Bool) (xs : List Segment) (s : Segment) → list_all p xs ≡ true → Has s xs → p s ≡ true
all-has p [] s h k = absurd k
all-has p (x ∷ xs) s h (inl e) = ap p e ∙ (and_parts (p x) (list_all p xs) h).0
all-has p (x ∷ xs) s h (inr k) = all-has p xs s (and_parts (p x) (list_all p xs) h).1 k

-- ---- what closes is in the list
get-has : (xs : List Segment) (k : ℕ) (t : Segment) → slice_get xs k ≡ Some t → Has t xs
get-has [] k t e = absurd (cc)
get-has (x ∷ xs) zero t e = inl (cc)
get-has (x ∷ xs) (suc k) t e = inr (get-has xs k t e)

follower-has : (list : List Segment) (s t : Segment) → follower list s ≡ Some t → Has t list
follower-has list s t e =
    (filter-has (λ u. is_node u.from s.to) list t (get-has (filter (λ (u : Segment). is_node u.from s.to) list) (rank_at_end list s) t e)).0

closed-first : (list : List Segment) (first : Segment) (part : List Segment) → Closes list first part → Has first list
closed-first list first [] h = absurd h
closed-first list first (s ∷ []) h = follower-has list s first h
closed-first list first (s ∷ t ∷ rest) h = closed-first list first (t ∷ rest) h.1

closed-rest : (list : List Segment) (first s : Segment) (rest : List Segment) (t : Segment) → Closes list first (s ∷ rest) → Has t rest → Has t list
closed-rest list first s [] t h k = absurd k
closed-rest list first s (u ∷ rest) t h (inl e) = subst (λ v. Has v list) (sym e) (follower-has list s u h.0)
closed-rest list first s (u ∷ rest) t h (inr k) = closed-rest list first u rest t h.1 k

pub cycle-has : (list part : List Segment) (t : Segment) → IsCycle list part → Has t part → Has t list
cycle-has list [] t h k = absurd k
cycle-has list (s ∷ rest) t h (inl e) = subst (λ v. Has v list) (sym e) (closed-first list s (s ∷ rest) h)
cycle-has list (s ∷ rest) t h (inr k) = closed-rest list s s rest t h k

-- ---- none of a part is of another's facet
none-of : (n : ℕ) (xs : List Segment) → count_of n xs ≡ 0 → NoneOf n xs
none-of n [] e = tt
none-of n (x ∷ xs) e = by_facet (cases_eq x.facet n) (none-of n xs)
  where
    by_facet : (x.facet ≡ n) ⊎ (x.facet ≡ n → ⊥) → (count_of n xs ≡ 0 → NoneOf n xs) → NoneOf n (x ∷ xs)
    by_facet (inl q) rest = let c = count-own n x xs q in absurd (omega (arith, c, e))
    by_facet (inr d) rest = (ne_eqb x.facet n d, rest (sym (count-other n x xs d) ∙ e))

apart : (x : Segment) (xs : List Segment) → Single (x ∷ xs) → NoneOf x.facet xs
apart x xs h = none-of x.facet xs (let c = count-own x.facet x xs refl in let one = h x.facet in omega (arith, c, one))

single-rest : (x : Segment) (xs : List Segment) → Single (x ∷ xs) → Single xs
single-rest x xs h n = let c = counted n x xs in let one = h n in omega (arith, c, one)

none-has : (n : ℕ) (xs : List Segment) (s : Segment) → NoneOf n xs → Has s xs → eqb s.facet n ≡ false
none-has n [] s h k = absurd k
none-has n (x ∷ xs) s h (inl e) = ap (λ (t : Segment). eqb t.facet n) e ∙ h.0
none-has n (x ∷ xs) s h (inr k) = none-has n xs s h.1 k

-- ---- a list with no more of any facet is no longer
abbrev Without : ℕ → List Segment → Type 0
Without n ys = (zs : List Segment) × (length ys ≡ suc (length zs)) × ((m : ℕ) → count_of m ys ≡ cond (eqb n m) 1 0 + count_of m zs)

removed : (n : ℕ) (ys : List Segment) → 1 ≤ count_of n ys → Without n ys
removed n [] l = absurd (omega (arith, l))
removed n (y ∷ ys) l = by_facet (cases_eq y.facet n) (removed n ys)
  where
    moved : (a b c d e : ℕ) → b ≡ c + d → e ≡ a + d → a + b ≡ c + e
    moved a b c d e p q = omega (arith, p, q)

    by_facet : (y.facet ≡ n) ⊎ (y.facet ≡ n → ⊥) → (1 ≤ count_of n ys → Without n ys) → Without n (y ∷ ys)
    by_facet (inl e) rest = (ys, refl, λ m. counted m y ys ∙ ap (λ k. cond (eqb k m) 1 0 + count_of m ys) e)
    by_facet (inr d) rest =
        let r = rest (let c = count-other n y ys d in omega (arith, c, l)) in
        (y ∷ r.0, ap suc r.1, λ m. counted m y ys ∙ moved (cond (eqb y.facet m) 1 0) (count_of m ys) (cond (eqb n m) 1 0) (count_of m r.0) (count_of m (y ∷ r.0)) (r.2 m) (counted m y r.0))

fits : (xs ys : List Segment) → ((n : ℕ) → count_of n xs ≤ count_of n ys) → length xs ≤ length ys
fits [] ys h = omega arith
fits (x ∷ xs) ys h =
    let c = count-own x.facet x xs refl in let l = h x.facet in
    let r = removed x.facet ys (omega (arith, c, l)) in
    let long : length ys ≡ suc (length r.0) = r.1 in
    let rest : length xs ≤ length r.0 = fits xs r.0 (λ n. let a = counted n x xs in let b = r.2 n in let e = h n in omega (arith, a, b, e)) in
    omega (arith, rest, long)

-- ---- the cycle of any segment of a part comes to the part's first
begins : (list : List Segment) (first w : Segment) (fuel : ℕ) → Has w (run_from list first fuel w)
begins list first w zero = inl refl
begins list first w (suc more) = inl refl

reaches : (list : List Segment) (first w x : Segment) (rest : List Segment) (fuel : ℕ) → Closes list w (x ∷ rest) → NoneOf first.facet rest
    → eqb w.facet first.facet ≡ false → length rest < fuel → Has w (run_from list first fuel x)
reaches list first w x rest zero h n d l = absurd (omega (arith, l))
reaches list first w x [] (suc more) h n d l =
    inr (subst (Has w) (sym (ap (onward list first more) h ∙ ap (λ b. cond b [] (run_from list first more w)) d)) (begins list first w more))
reaches list first w x (t ∷ rest) (suc more) h n d l =
    inr (subst (Has w) (sym (ap (onward list first more) h.0 ∙ ap (λ b. cond b [] (run_from list first more t)) n.0))
    (reaches list first w t rest more h.1 n.1 d (omega (arith, l))))

passes : (list : List Segment) (s w x : Segment) (rest : List Segment) (fuel : ℕ) → Closes list w (x ∷ rest) → Single (x ∷ rest)
    → Has s (x ∷ rest) → eqb w.facet s.facet ≡ false → length rest < fuel → Has w (run_from list s fuel s)
passes list s w x rest fuel h u (inl e) d l =
    subst (λ y. Has w (run_from list y fuel y)) (sym e)
    (reaches list x w x rest fuel h (apart x rest u) (ap (λ (y : Segment). eqb w.facet y.facet) (sym e) ∙ d) l)
passes list s w x [] fuel h u (inr k) d l = absurd k
passes list s w x (t ∷ rest) fuel h u (inr k) d l =
    passes list s w t rest fuel h.1 (single-rest x (t ∷ rest) u) k d (omega (arith, l))

-- ---- parts
abbrev head_of : List Segment → Segment
head_of part = get_or part 0 no_segment

record IsPart (list part : List Segment) : Type 0 where
  closes : IsCycle list part
  least : is_from_least part ≡ true
  counts : (n : ℕ) → count_of n part ≤ count_of n list

module _ (a : ℕ) (list : List Segment) (ascends : From a list) where
  single : (part : List Segment) → IsPart list part → Single part
  single part g n = let l = g.counts n in let one = From-single a list ascends n in omega (arith, l, one)

  part-cycle : (part : List Segment) → IsPart list part → cycle list (head_of part) ≡ part
  part-cycle [] g = absurd g.closes
  part-cycle (w ∷ rest) g =
      run-is list w w rest (length list) g.closes (apart w rest (single (w ∷ rest) g))
      (let f = fits (w ∷ rest) list g.counts in omega (arith, f))

  part-leader : (part : List Segment) → IsPart list part → Has (head_of part) (filter (is_leader list) list)
  part-leader [] g = absurd g.closes
  part-leader (w ∷ rest) g =
      has-filter (is_leader list) list w (closed-first list w (w ∷ rest) g.closes)
      (ap (list_all (λ t. nat_le w.facet t.facet)) (part-cycle (w ∷ rest) g) ∙ g.least)

  part-only : (part : List Segment) (s : Segment) → IsPart list part → Has s part → is_leader list s ≡ true → s ≡ head_of part
  part-only [] s g h k = absurd h
  part-only (w ∷ rest) s g (inl e) k = e
  part-only (w ∷ rest) s g (inr h) k =
      let other : eqb s.facet w.facet ≡ false = none-has w.facet rest s (apart w rest (single (w ∷ rest) g)) h in
      let comes : Has w (cycle list s) =
      passes list s w w rest (length list) g.closes (single (w ∷ rest) g) (inr h) (eqb_flips w.facet s.facet ∙ other)
      (let f = fits (w ∷ rest) list g.counts in omega (arith, f)) in
      let high = leb-true s.facet w.facet (all-has (λ t. nat_le s.facet t.facet) (cycle list s) w k comes) in
      let low = leb-true w.facet s.facet (all-has (λ t. nat_le w.facet t.facet) (w ∷ rest) s g.least (inr h)) in
      absurd (eqb-false s.facet w.facet other (omega (arith, high, low)))

  abbrev flat : List (List Segment) → List Segment
  flat parts = flat_map (λ loop. loop) parts

  are-parts : (parts : List (List Segment)) → AllByRecursion (IsCycle list) parts → list_all is_from_least parts ≡ true
      → ((n : ℕ) → count_of n (flat parts) ≤ count_of n list) → AllByRecursion (IsPart list) parts
  are-parts [] h k l = tt
  are-parts (p ∷ parts) h k l = (
    record {
      closes = h.0;
      least = (and_parts (is_from_least p) (list_all is_from_least parts) k).0;
      counts = λ n. let c = count-append (λ (s : Segment). s.facet == n) p (flat parts) in let m = l n in omega (arith, c, m);
    },
    are-parts parts h.1 (and_parts (is_from_least p) (list_all is_from_least parts) k).1
        (λ n. let c = count-append (λ (s : Segment). s.facet == n) p (flat parts) in let m = l n in omega (arith, c, m)),
  )

  heads-cycles : (parts : List (List Segment)) → AllByRecursion (IsPart list) parts → map (cycle list) (map head_of parts) ≡ parts
  heads-cycles [] g = refl
  heads-cycles (p ∷ parts) g = let here = part-cycle p g.0 in let rest = heads-cycles parts g.1 in λ i. here i ∷ rest i

  heads-lead : (parts : List (List Segment)) (s : Segment) → AllByRecursion (IsPart list) parts → Has s (map head_of parts)
      → Has s (filter (is_leader list) list)
  heads-lead [] s g h = absurd h
  heads-lead (p ∷ parts) s g (inl e) = subst (λ t. Has t (filter (is_leader list) list)) (sym e) (part-leader p g.0)
  heads-lead (p ∷ parts) s g (inr h) = heads-lead parts s g.1 h

  leads-head : (parts : List (List Segment)) (s : Segment) → AllByRecursion (IsPart list) parts → Has s list → is_leader list s ≡ true
      → 1 ≤ count_of s.facet (flat parts) → Has s (map head_of parts)
  leads-head [] s g h k l = absurd (omega (arith, l))
  leads-head (p ∷ parts) s g h k l = by_count (cases_eq (count_of s.facet p) 0) (leads-head parts s g.1 h k)
    where
      by_count : (count_of s.facet p ≡ 0) ⊎ (count_of s.facet p ≡ 0 → ⊥) → (1 ≤ count_of s.facet (flat parts) → Has s (map head_of parts))
          → Has s (map head_of (p ∷ parts))
      by_count (inl z) rest =
          inr (rest (let c = count-append (λ (t : Segment). t.facet == s.facet) p (flat parts) in omega (arith, c, z, l)))
      by_count (inr d) rest =
          let r = count-has s.facet p d in
          let same : s ≡ r.0 = From-one a list s r.0 ascends h (cycle-has list p r.0 g.0.closes r.1) (sym r.2) in
          inl (part-only p s g.0 (subst (λ t. Has t p) (sym same) r.1) k)

heads-from : (a : ℕ) (p : List Segment) (parts : List (List Segment)) → a ≤ first_facet p → IsStrictlyIncreasing (map first_facet (p ∷ parts))
    → From a (map head_of (p ∷ parts))
heads-from a p [] l h = let f = facet-head p in (omega (arith, l, f), tt)
heads-from a p (q ∷ parts) l h =
    let f = facet-head p in let up : first_facet p < first_facet q = h 0 (omega arith) in
    (omega (arith, l, f), heads-from ((head_of p).facet + 1) q parts (omega (arith, f, up)) (λ k m. subst (λ j. get_or (map first_facet (q ∷ parts)) k 0 < get_or (map first_facet (p ∷ q ∷ parts)) j 0) (one_on k) (h (suc k) (omega (arith, m)))))
  where
    one_on : (k : ℕ) → suc k + 1 ≡ suc (k + 1)
    one_on k = omega arith

heads-ascend : (parts : List (List Segment)) → IsStrictlyIncreasing (map first_facet parts) → From 0 (map head_of parts)
heads-ascend [] h = tt
heads-ascend (p ∷ parts) h = heads-from 0 p parts (omega arith) h

found-are : (a : ℕ) (list : List Segment) (found : List (List Segment)) → From a list → AreLoops list found → found ≡ loops list
found-are a list found up h =
    let parts : AllByRecursion (IsPart list) found = are-parts a list up found h.cycles h.from_least (λ n. let e = h.once n in omega (arith, e)) in
    sym (heads-cycles a list up found parts)
    ∙ ap (map (cycle list))
    (same-members 0 a (map head_of found) (filter (is_leader list) list) (heads-ascend found h.in_order) (From-filter (is_leader list) a list up)
    (λ s m. heads-lead a list up found s parts m)
    (λ s m. let r = filter-has (is_leader list) list s m in
    leads-head a list up found s parts r.0 r.1 (let e = h.once s.facet in let one = has-count s list r.0 in omega (arith, e, one))))

From-of : (a b : ℕ) (list : List Segment) → AreFrom a b list → From a list
From-of a b [] h = tt
From-of a b (s ∷ list) h = (h.0, From-of (s.facet + 1) b list h.2)

pub loops-are : (facets : List Facet) (list : List Segment) → (z : ℤ) × (list ≡ segments facets z) → (found : List (List Segment))
    → AreLoops list found → found ≡ loops list
loops-are facets list e found h =
    found-are 0 list found (From-of 0 (length facets) list (subst (AreFrom 0 (length facets)) (sym e.1) (segments_ascend facets e.0))) h
