-- What half-edges between vertex numbers say of the edges between points.
use Rattle.std.proofs.Common.{◌≡◌, ◌≢◌, ℕ, zero, suc, ◌≤◌, ◌<◌, ◌+◌, ◌^◌, Bool, true, false, cond, not, ◌==◌, ◌&&◌, ◌||◌, List, [], ◌∷◌, length, map, get_or, count_by, refl, sym, ap, ◌∙◌, subst, inl, inr, ◌⊎◌, arith}
use Rattle.std.specs.List.{All, flat_map}
use Rattle.std.specs.List.Sorted.{IsPermutation}
use Rattle.std.proofs.lemmas.Bool.{cases_lt, cases_order, cases_Bool, or_left}
use Rattle.std.proofs.lemmas.Bool.Decides.{nat_tests}
use Rattle.std.proofs.lemmas.List.Elements.{All-head, All-tail, All-cons, All-weaker}
use Rattle.std.proofs.lemmas.List.Sorted.{sum_by-IsPermutation}
use Rattle.std.proofs.lemmas.List.Sums.{sum_by-cons, position_or_len_is}
use Rattle.geometry.specs.Point.{Point, origin, same, is_before}
use Rattle.geometry.specs.Facet.{Facet, Edge, edge, corners, edges}
use Rattle.mesh_weld.specs.declared.half_edge.HalfEdge.{HalfEdge}
use Rattle.mesh_weld.specs.Balance.{half_edge_count, IsBalanced, IsLeastOpen, is_edge_before}
use Rattle.mesh_weld.specs.HalfEdge.{half_edges_from, count_between, IsEven, IsLeastUneven}
use Rattle.mesh_weld.specs.Solid.{vertices, number_of, triples}
use Rattle.mesh_weld.proofs.lemmas.Edges.{same-is}
use Rattle.mesh_weld.proofs.lemmas.Order.{before-not_same, before-not_back, before-irreflexive, same-sym, same-self}
use Rattle.mesh_weld.proofs.lemmas.InOrder.{is_in, Ascends, Up, Above, Up-in_order, in_order-members}
use Rattle.mesh_weld.proofs.lemmas.HalfEdges.{count_none}

-- in order, by indices
Above-at : (p : Point) (qs : List Point) (k : ℕ) (d : Point) → Above p qs → k < length qs → is_before p (get_or qs k d) ≡ true
Above-at p [] k d a l = absurd (omega (arith, l))
Above-at p (q ∷ qs) zero d a l = a.0
Above-at p (q ∷ qs) (suc k) d a l = Above-at p qs k d a.1 (omega (arith, l))

pairs_from_Up : (ps : List Point) → Up ps → (i j : ℕ) (d : Point) → i < j → j < length ps → is_before (get_or ps i d) (get_or ps j d) ≡ true
pairs_from_Up [] u i j d l m = absurd (omega (arith, m))
pairs_from_Up (p ∷ ps) u i zero d l m = absurd (omega (arith, l))
pairs_from_Up (p ∷ ps) u zero (suc j) d l m = Above-at p ps j d u.0 (omega (arith, m))
pairs_from_Up (p ∷ ps) u (suc i) (suc j) d l m = pairs_from_Up ps u.1 i j d (omega (arith, l)) (omega (arith, m))

pub vertices-ascend : (fs : List Facet) → Ascends (vertices fs)
vertices-ascend fs i j d l m = pairs_from_Up (vertices fs) (Up-in_order (flat_map corners fs)) i j d l m

-- the number of a point that is there leads to it
pub number_found : (p : Point) (ps : List Point) → is_in p ps ≡ true → (number_of ps p < length ps) × (get_or ps (number_of ps p) origin ≡ p)
number_found p [] h = cc
number_found p (q ∷ qs) h = by_test (cases_Bool (same p q)) (number_found p qs)
  where
    Found : ℕ → Type 0
    Found n = (n < length (q ∷ qs)) × (get_or (q ∷ qs) n origin ≡ p)

    by_test : (same p q ≡ true) ⊎ (same p q ≡ false) → (is_in p qs ≡ true → (number_of qs p < length qs) × (get_or qs (number_of qs p) origin ≡ p)) → Found (number_of (q ∷ qs) p)
    by_test (inl t) rest =
        subst Found (ap (λ b. cond (not b) (1 + number_of qs p) 0) (sym t)) (omega arith, sym (same-is p q t))
    by_test (inr f) rest =
        let later : (number_of qs p < length qs) × (get_or qs (number_of qs p) origin ≡ p) = rest (ap (λ b. b || is_in p qs) (sym f) ∙ h) in
        subst Found (ap (λ b. cond (not b) (1 + number_of qs p) 0) (sym f))
        (subst Found (let e : suc (number_of qs p) ≡ 1 + number_of qs p = omega arith in e) (let l : number_of qs p < length qs = later.0 in omega (arith, l), later.1))

equal_true : (m n : ℕ) → m ≡ n → (m == n) ≡ true
equal_true m n e = grind (arith, nat_tests)

equal_false : (m n : ℕ) → (m ≡ n → ⊥) → (m == n) ≡ false
equal_false m n e = grind (arith, nat_tests)

module _ (ps : List Point) (up : Ascends ps) where
  pub number_at : (i : ℕ) → i < length ps → number_of ps (get_or ps i origin) ≡ i
  number_at i l =
      let p : Point = get_or ps i origin in
      position_or_len_is (same p) ps i origin (omega (arith, l))
      (λ k less. same-sym p (get_or ps k origin) ∙ before-not_same (get_or ps k origin) p (up k i origin less l))
      (λ _. same-self p)

  -- a point has number i exactly if it equals the point at index i
  number_tells : (p : Point) (i : ℕ) → is_in p ps ≡ true → i < length ps → (number_of ps p == i) ≡ same p (get_or ps i origin)
  number_tells p i h l = by_test (cases_Bool (same p (get_or ps i origin)))
    where
      by_test : (same p (get_or ps i origin) ≡ true) ⊎ (same p (get_or ps i origin) ≡ false) → (number_of ps p == i) ≡ same p (get_or ps i origin)
      by_test (inl t) =
          equal_true (number_of ps p) i (ap (number_of ps) (same-is p (get_or ps i origin) t) ∙ number_at i l) ∙ sym t
      by_test (inr f) =
          equal_false (number_of ps p) i (λ e. let here : get_or ps i origin ≡ p = ap (λ n. get_or ps n origin) (sym e) ∙ (number_found p ps h).1 in let s : same p (get_or ps i origin) ≡ true = ap (same p) here ∙ same-self p in cc) ∙ sym f

  -- of two vertices the one before the other has the lesser number
  pub index_less : (i j : ℕ) → i < length ps → j < length ps → is_before (get_or ps i origin) (get_or ps j origin) ≡ true → i < j
  index_less i j l m b = by_order (cases_order i j)
    where
      by_order : (i ≡ j) ⊎ ((i < j) ⊎ (j < i)) → i < j
      by_order (inl e) = absurd (before-irreflexive (get_or ps j origin) (ap (λ n. is_before (get_or ps n origin) (get_or ps j origin)) (sym e) ∙ b))
      by_order (inr (inl less)) = less
      by_order (inr (inr more)) = let back : is_before (get_or ps i origin) (get_or ps j origin) ≡ false = before-not_back (get_or ps j origin) (get_or ps i origin) (up j i origin more l) in cc

-- each edge's ends are among the corners
weaker_in : (p : Point) (a b c : Bool) (r : Bool) → r ≡ true → (a || (b || (c || r))) ≡ true
weaker_in p true b c r h = refl
weaker_in p false true c r h = refl
weaker_in p false false true r h = refl
weaker_in p false false false r h = h

or_second : (a b r : Bool) → b ≡ true → (a || (b || r)) ≡ true
or_second true b r h = refl
or_second false true r h = refl
or_second false false r h = cc

or_third : (a b c r : Bool) → c ≡ true → (a || (b || (c || r))) ≡ true
or_third true b c r h = refl
or_third false true c r h = refl
or_third false false true r h = refl
or_third false false false r h = cc

abbrev HasEnds : List Point → Edge → Type 0
HasEnds cs e = (is_in e.from cs ≡ true) × (is_in e.to cs ≡ true)

ends_among : (fs : List Facet) → All (HasEnds (flat_map corners fs)) (edges fs)
ends_among [] = λ k d l. absurd (omega (arith, l))
ends_among (t ∷ ts) =
    let cs : List Point = flat_map corners ts in
    let a : is_in t.a (flat_map corners (t ∷ ts)) ≡ true = or_left (same t.a t.a) _ (same-self t.a) in
    let b : is_in t.b (flat_map corners (t ∷ ts)) ≡ true = or_second (same t.b t.a) (same t.b t.b) _ (same-self t.b) in
    let c : is_in t.c (flat_map corners (t ∷ ts)) ≡ true = or_third (same t.c t.a) (same t.c t.b) (same t.c t.c) _ (same-self t.c) in
    let rest : All (HasEnds (flat_map corners (t ∷ ts))) (edges ts) = All-weaker (HasEnds cs) (HasEnds (flat_map corners (t ∷ ts))) (λ e h. (weaker_in e.from (same e.from t.a) (same e.from t.b) (same e.from t.c) (is_in e.from cs) h.0, weaker_in e.to (same e.to t.a) (same e.to t.b) (same e.to t.c) (is_in e.to cs) h.1)) (edges ts) (ends_among ts) in
    All-cons (HasEnds (flat_map corners (t ∷ ts))) (edge t.a t.b) (edge t.b t.c ∷ edge t.c t.a ∷ edges ts) (a, b)
    (All-cons (HasEnds (flat_map corners (t ∷ ts))) (edge t.b t.c) (edge t.c t.a ∷ edges ts) (b, c)
    (All-cons (HasEnds (flat_map corners (t ∷ ts))) (edge t.c t.a) (edges ts) (c, a) rest))

pub ends_are_vertices : (fs : List Facet) → All (HasEnds (vertices fs)) (edges fs)
ends_are_vertices fs =
    All-weaker (HasEnds (flat_map corners fs)) (HasEnds (vertices fs)) (λ e h. (in_order-members e.from (flat_map corners fs) ∙ h.0, in_order-members e.to (flat_map corners fs) ∙ h.1)) (edges fs) (ends_among fs)

-- two tests that agree at each element count alike
count_alike : {X : Type 0} (p q : X → Bool) (xs : List X) → All (λ x. p x ≡ q x) xs → count_by p xs ≡ count_by q xs
count_alike p q [] h = refl
count_alike p q (x ∷ xs) h =
    sum_by-cons (λ y. cond (p y) 1 0) x xs
    ∙ ap (λ b. cond b 1 0 + count_by p xs) (All-head (λ y. p y ≡ q y) x xs h)
    ∙ ap (λ n. cond (q x) 1 0 + n) (count_alike p q xs (All-tail (λ y. p y ≡ q y) x xs h))
    ∙ sym (sum_by-cons (λ y. cond (q y) 1 0) x xs)

-- the half-edges by number are the edges by number
abbrev pub numbered : (Point → ℕ) → Facet → List ℕ
numbered f t = map f (corners t)

three_more : {X : Type 0} (p : X → Bool) (a b c : X) (xs : List X) → count_by p (a ∷ b ∷ c ∷ xs) ≡ cond (p a) 1 0 + (cond (p b) 1 0 + (cond (p c) 1 0 + count_by p xs))
three_more p a b c xs =
    sum_by-cons (λ y. cond (p y) 1 0) a (b ∷ c ∷ xs)
    ∙ ap (λ n. cond (p a) 1 0 + n) (sum_by-cons (λ y. cond (p y) 1 0) b (c ∷ xs) ∙ ap (λ n. cond (p b) 1 0 + n) (sum_by-cons (λ y. cond (p y) 1 0) c xs))

between_numbers : (f : Point → ℕ) (i j n : ℕ) (fs : List Facet)
    → count_between i j (half_edges_from n (map (numbered f) fs)) ≡ count_by (λ (e : Edge). f e.from == i && f e.to == j) (edges fs)
between_numbers f i j n [] = refl
between_numbers f i j n (t ∷ ts) =
    three_more (λ (s : HalfEdge). s.from == i && s.to == j) (record { from = f t.a; to = f t.b; slot = n }) (record { from = f t.b; to = f t.c; slot = n + 1 }) (record { from = f t.c; to = f t.a; slot = n + 2 }) (half_edges_from (n + 3) (map (numbered f) ts))
    ∙ ap (λ m. cond (f t.a == i && f t.b == j) 1 0 + (cond (f t.b == i && f t.c == j) 1 0 + (cond (f t.c == i && f t.a == j) 1 0 + m))) (between_numbers f i j (n + 3) ts)
    ∙ sym (three_more (λ (e : Edge). f e.from == i && f e.to == j) (edge t.a t.b) (edge t.b t.c) (edge t.c t.a) (edges ts))

and_false_left : (a b : Bool) → a ≡ false → (a && b) ≡ false
and_false_left true b h = cc
and_false_left false b h = refl

and_false_right : (a b : Bool) → b ≡ false → (a && b) ≡ false
and_false_right true b h = h
and_false_right false b h = refl

module _ (fs : List Facet) where
  edges_between : (i j : ℕ) → i < length (vertices fs) → j < length (vertices fs)
      → count_between i j (half_edges_from 0 (triples fs)) ≡ half_edge_count fs (get_or (vertices fs) i origin) (get_or (vertices fs) j origin)
  edges_between i j l m =
      between_numbers (number_of (vertices fs)) i j 0 fs
      ∙ count_alike (λ (e : Edge). number_of (vertices fs) e.from == i && number_of (vertices fs) e.to == j) (λ (e : Edge). same e.from (get_or (vertices fs) i origin) && same e.to (get_or (vertices fs) j origin)) (edges fs)
      (All-weaker (HasEnds (vertices fs)) (λ (e : Edge). (number_of (vertices fs) e.from == i && number_of (vertices fs) e.to == j) ≡ (same e.from (get_or (vertices fs) i origin) && same e.to (get_or (vertices fs) j origin)))
      (λ e h. λ k. number_tells (vertices fs) (vertices-ascend fs) e.from i h.0 l k && number_tells (vertices fs) (vertices-ascend fs) e.to j h.1 m k) (edges fs) (ends_are_vertices fs))

  apart_from : (p q : Point) → is_in p (vertices fs) ≡ true → is_in q (vertices fs) ≡ false → same p q ≡ false
  apart_from p q h k = by_test (cases_Bool (same p q))
    where
      by_test : (same p q ≡ true) ⊎ (same p q ≡ false) → same p q ≡ false
      by_test (inl t) = let e : is_in p (vertices fs) ≡ is_in q (vertices fs) = ap (λ r. is_in r (vertices fs)) (same-is p q t) in cc
      by_test (inr f) = f

  -- no edge leaves or reaches a point that is no vertex
  none_from : (u v : Point) → is_in u (vertices fs) ≡ false → half_edge_count fs u v ≡ 0
  none_from u v h =
      count_none (λ (e : Edge). same e.from u && same e.to v) (edges fs)
      (All-weaker (HasEnds (vertices fs)) (λ (e : Edge). (same e.from u && same e.to v) ≡ false) (λ e k. and_false_left (same e.from u) (same e.to v) (apart_from e.from u k.0 h)) (edges fs) (ends_are_vertices fs))

  none_to : (u v : Point) → is_in v (vertices fs) ≡ false → half_edge_count fs u v ≡ 0
  none_to u v h =
      count_none (λ (e : Edge). same e.from u && same e.to v) (edges fs)
      (All-weaker (HasEnds (vertices fs)) (λ (e : Edge). (same e.from u && same e.to v) ≡ false) (λ e k. and_false_right (same e.from u) (same e.to v) (apart_from e.to v k.1 h)) (edges fs) (ends_are_vertices fs))

  abbrev Both : Point → Point → Type 0
  Both u v = (is_in u (vertices fs) ≡ true) × (is_in v (vertices fs) ≡ true)

  -- a pair of points has no edges either way, or both are vertices
  idle_or_both : (u v : Point) → ((half_edge_count fs u v ≡ 0) × (half_edge_count fs v u ≡ 0)) ⊎ Both u v
  idle_or_both u v = by_u (cases_Bool (is_in u (vertices fs)))
    where
      by_u : (is_in u (vertices fs) ≡ true) ⊎ (is_in u (vertices fs) ≡ false) → ((half_edge_count fs u v ≡ 0) × (half_edge_count fs v u ≡ 0)) ⊎ Both u v
      by_u (inr f) = inl (none_from u v f, none_to v u f)
      by_u (inl t) = by_v (cases_Bool (is_in v (vertices fs)))
        where
          by_v : (is_in v (vertices fs) ≡ true) ⊎ (is_in v (vertices fs) ≡ false) → ((half_edge_count fs u v ≡ 0) × (half_edge_count fs v u ≡ 0)) ⊎ Both u v
          by_v (inl s) = inr (t, s)
          by_v (inr f) = inl (none_to u v f, none_from v u f)

  -- by any ids that differ for different vertices, even half-edges are balanced edges
  pub balanced_by_ids : (f : Point → ℕ) → ((p q : Point) → is_in p (vertices fs) ≡ true → is_in q (vertices fs) ≡ true → f p ≡ f q → p ≡ q)
      → IsEven (half_edges_from 0 (map (numbered f) fs)) → IsBalanced fs
  balanced_by_ids f apart even u v = by_cases (idle_or_both u v)
    where
      tells : (p q : Point) → is_in p (vertices fs) ≡ true → is_in q (vertices fs) ≡ true → (f p == f q) ≡ same p q
      tells p q k l = by_test (cases_Bool (same p q))
        where
          by_test : (same p q ≡ true) ⊎ (same p q ≡ false) → (f p == f q) ≡ same p q
          by_test (inl t) = equal_true (f p) (f q) (ap f (same-is p q t)) ∙ sym t
          by_test (inr s) =
              equal_false (f p) (f q) (λ e. let here : same p q ≡ true = ap (same p) (sym (apart p q k l e)) ∙ same-self p in cc) ∙ sym s

      numbering : (p q : Point) → Both p q → count_between (f p) (f q) (half_edges_from 0 (map (numbered f) fs)) ≡ half_edge_count fs p q
      numbering p q h =
          between_numbers f (f p) (f q) 0 fs
          ∙ count_alike (λ (e : Edge). f e.from == f p && f e.to == f q) (λ (e : Edge). same e.from p && same e.to q) (edges fs)
          (All-weaker (HasEnds (vertices fs)) (λ (e : Edge). (f e.from == f p && f e.to == f q) ≡ (same e.from p && same e.to q))
          (λ e k. λ i. tells e.from p k.0 h.0 i && tells e.to q k.1 h.1 i) (edges fs) (ends_are_vertices fs))

      by_cases : ((half_edge_count fs u v ≡ 0) × (half_edge_count fs v u ≡ 0)) ⊎ Both u v → half_edge_count fs u v ≡ half_edge_count fs v u
      by_cases (inl h) = h.0 ∙ sym h.1
      by_cases (inr h) = sym (numbering u v h) ∙ even (f u) (f v) ∙ numbering v u (h.1, h.0)

  between_of : (u v : Point) → Both u v → count_between (number_of (vertices fs) u) (number_of (vertices fs) v) (half_edges_from 0 (triples fs)) ≡ half_edge_count fs u v
  between_of u v h =
      let a : (number_of (vertices fs) u < length (vertices fs)) × (get_or (vertices fs) (number_of (vertices fs) u) origin ≡ u) = number_found u (vertices fs) h.0 in
      let b : (number_of (vertices fs) v < length (vertices fs)) × (get_or (vertices fs) (number_of (vertices fs) v) origin ≡ v) = number_found v (vertices fs) h.1 in
      edges_between (number_of (vertices fs) u) (number_of (vertices fs) v) a.0 b.0
      ∙ (λ i. half_edge_count fs (a.1 i) (b.1 i))

  module _ (es : List HalfEdge) (all : IsPermutation (half_edges_from 0 (triples fs)) es) where
    sorted_between : (i j : ℕ) → count_between i j es ≡ count_between i j (half_edges_from 0 (triples fs))
    sorted_between i j = sum_by-IsPermutation (λ (s : HalfEdge). cond (s.from == i && s.to == j) 1 0) (half_edges_from 0 (triples fs)) es all

    pub balanced_from_even : IsEven es → IsBalanced fs
    balanced_from_even even u v = by_cases (idle_or_both u v)
      where
        by_cases : ((half_edge_count fs u v ≡ 0) × (half_edge_count fs v u ≡ 0)) ⊎ Both u v → half_edge_count fs u v ≡ half_edge_count fs v u
        by_cases (inl h) = h.0 ∙ sym h.1
        by_cases (inr h) =
            let i : ℕ = number_of (vertices fs) u in let j : ℕ = number_of (vertices fs) v in
            sym (between_of u v h) ∙ sym (sorted_between i j) ∙ even i j ∙ sorted_between j i ∙ between_of v u (h.1, h.0)

    -- all numbers are those of vertices
    idle_past : (i j : ℕ) → length (vertices fs) ≤ j → (count_between i j (half_edges_from 0 (triples fs)) ≡ 0) × (count_between j i (half_edges_from 0 (triples fs)) ≡ 0)
    idle_past i j past = (
      between_numbers (number_of (vertices fs)) i j 0 fs
          ∙ count_none (λ (e : Edge). number_of (vertices fs) e.from == i && number_of (vertices fs) e.to == j) (edges fs)
          (All-weaker (HasEnds (vertices fs)) (λ (e : Edge). (number_of (vertices fs) e.from == i && number_of (vertices fs) e.to == j) ≡ false)
          (λ e k. and_false_right (number_of (vertices fs) e.from == i) (number_of (vertices fs) e.to == j) (other (number_of (vertices fs) e.to) (number_found e.to (vertices fs) k.1).0)) (edges fs) (ends_are_vertices fs)),
      between_numbers (number_of (vertices fs)) j i 0 fs
          ∙ count_none (λ (e : Edge). number_of (vertices fs) e.from == j && number_of (vertices fs) e.to == i) (edges fs)
          (All-weaker (HasEnds (vertices fs)) (λ (e : Edge). (number_of (vertices fs) e.from == j && number_of (vertices fs) e.to == i) ≡ false)
          (λ e k. and_false_left (number_of (vertices fs) e.from == j) (number_of (vertices fs) e.to == i) (other (number_of (vertices fs) e.from) (number_found e.from (vertices fs) k.0).0)) (edges fs) (ends_are_vertices fs)),
    )
      where
        other : (n : ℕ) → n < length (vertices fs) → (n == j) ≡ false
        other n l = less_not_equal n j (omega (arith, l, past))
          where
            less_not_equal : (n j : ℕ) → n < j → (n == j) ≡ false
            less_not_equal n j l = grind (arith, nat_tests)

    module _ (low high : ℕ) (h : IsLeastUneven es low high) where
      pub high_inside : high < length (vertices fs)
      high_inside = by_size (cases_lt high (length (vertices fs)))
        where
          by_size : (high < length (vertices fs)) ⊎ (length (vertices fs) ≤ high) → high < length (vertices fs)
          by_size (inl l) = l
          by_size (inr m) = absurd (h.differ (sorted_between low high ∙ (idle_past low high m).0 ∙ sym (idle_past low high m).1 ∙ sym (sorted_between high low)))

      pub low_inside : low < length (vertices fs)
      low_inside = omega (arith, high_inside, h.in_order)

      pub least_open : length (vertices fs) ≤ 2 ^ 32
          → IsLeastOpen fs (get_or (vertices fs) low origin) (get_or (vertices fs) high origin) (half_edge_count fs (get_or (vertices fs) low origin) (get_or (vertices fs) high origin)) (half_edge_count fs (get_or (vertices fs) high origin) (get_or (vertices fs) low origin))
      least_open few =
          record {
            in_order = vertices-ascend fs low high origin h.in_order high_inside;
            there_is = refl;
            back_is = refl;
            differ = λ e. h.differ (sorted_between low high ∙ edges_between low high low_inside high_inside ∙ e ∙ sym (edges_between high low high_inside low_inside) ∙ sym (sorted_between high low));
            least = λ e up apart. by_test (cases_Bool (is_edge_before e (edge (get_or (vertices fs) low origin) (get_or (vertices fs) high origin)))) (settled e up apart);
          }
        where
          by_test : {b : Bool} → (b ≡ true) ⊎ (b ≡ false) → (b ≡ true → ⊥) → b ≡ false
          by_test (inl t) n = absurd (n t)
          by_test (inr f) n = f

          -- an edge before the least uneven pair is even
          settled : (e : Edge) → is_before e.from e.to ≡ true → half_edge_count fs e.from e.to ≢ half_edge_count fs e.to e.from
              → is_edge_before e (edge (get_or (vertices fs) low origin) (get_or (vertices fs) high origin)) ≡ true → ⊥
          settled e up apart before = by_cases (idle_or_both e.from e.to)
            where
              by_cases : ((half_edge_count fs e.from e.to ≡ 0) × (half_edge_count fs e.to e.from ≡ 0)) ⊎ Both e.from e.to → ⊥
              by_cases (inl k) = apart (k.0 ∙ sym k.1)
              by_cases (inr k) =
                  let i : ℕ = number_of (vertices fs) e.from in let j : ℕ = number_of (vertices fs) e.to in
                  let a : (i < length (vertices fs)) × (get_or (vertices fs) i origin ≡ e.from) = number_found e.from (vertices fs) k.0 in
                  let b : (j < length (vertices fs)) × (get_or (vertices fs) j origin ≡ e.to) = number_found e.to (vertices fs) k.1 in
                  let less : i < j = index_less (vertices fs) (vertices-ascend fs) i j a.0 b.0 ((λ i. is_before (a.1 i) (b.1 i)) ∙ up) in
                  let even : count_between i j es ≡ count_between j i es = h.least i j less (omega (arith, b.0, few)) (earlier i j a b (first_parts before)) in
                  apart (sym (between_of e.from e.to k) ∙ sym (sorted_between i j) ∙ even ∙ sorted_between j i ∙ between_of e.to e.from (k.1, k.0))
                where
                  First : Type 0
                  First = (is_before e.from (get_or (vertices fs) low origin) ≡ true)
                      ⊎ ((same e.from (get_or (vertices fs) low origin) ≡ true) × (is_before e.to (get_or (vertices fs) high origin) ≡ true))

                  first_by : (a b c : Bool) → (a || (b && c)) ≡ true → (a ≡ true) ⊎ ((b ≡ true) × (c ≡ true))
                  first_by true b c h = inl refl
                  first_by false true c h = inr (refl, h)
                  first_by false false c h = cc

                  first_parts : is_edge_before e (edge (get_or (vertices fs) low origin) (get_or (vertices fs) high origin)) ≡ true → First
                  first_parts t = first_by (is_before e.from (get_or (vertices fs) low origin)) (same e.from (get_or (vertices fs) low origin)) (is_before e.to (get_or (vertices fs) high origin)) t

                  earlier : (i j : ℕ) → (i < length (vertices fs)) × (get_or (vertices fs) i origin ≡ e.from) → (j < length (vertices fs)) × (get_or (vertices fs) j origin ≡ e.to) → First → (i < low) ⊎ ((i ≡ low) × (j < high))
                  earlier i j a b (inl t) = inl (index_less (vertices fs) (vertices-ascend fs) i low a.0 low_inside (ap (λ p. is_before p (get_or (vertices fs) low origin)) a.1 ∙ t))
                  earlier i j a b (inr t) =
                      inr (
                        sym (number_at (vertices fs) (vertices-ascend fs) i a.0)
                            ∙ ap (number_of (vertices fs)) (a.1 ∙ same-is e.from (get_or (vertices fs) low origin) t.0)
                            ∙ number_at (vertices fs) (vertices-ascend fs) low low_inside,
                        index_less (vertices fs) (vertices-ascend fs) j high b.0 high_inside (ap (λ p. is_before p (get_or (vertices fs) high origin)) b.1 ∙ t.1),
                      )
