-- The active facets of a rising plane: those that start at most at its height, a prefix of their order by least height,
-- without those that have ended.
use Rattle.std.proofs.Common.{◌≡◌, ℕ, zero, suc, ◌+◌, ◌<◌, Bool, true, false, cond, not, ◌&&◌, List, [], ◌∷◌, refl, sym, ◌∙◌, ap, subst, length, take, drop, get_or, arith, one-add, map}
use Rattle.std.specs.Prelude.{count_by, filter, ◌==◌, nat_lt, ◌||◌, IsPermutation, ℤ, pos, ◌*ℤ◌, ◌≤ℤ◌, int_lt}
use Rattle.std.specs.List.{range_with_len, prefix_len, AllPairs, AllByRecursion, enumerate_from, list_any}
use Rattle.std.specs.List.Sorted.{IsNonDecreasing}
use Rattle.std.specs.Ordering.{int_eq}
use Rattle.std.specs.Int.{int_min, int_max}
use Rattle.std.proofs.lemmas.List.Elements.{filter_agree}
use Rattle.std.proofs.lemmas.Int.{ints}
use Rattle.geometry.specs.Point.{origin}
use Rattle.geometry.specs.TieRule.{is_below, is_above}
use Rattle.geometry.specs.Facet.{Facet, facet_with, corners, greatest_z, least_z}
use Rattle.mesh_weld.specs.Solid.{facet_at, IsByHeight, is_lower, top_of}
use Rattle.mesh_weld.proofs.lemmas.Edges.{count_by-cons}
use Rattle.plane_segments.specs.Segment.{height}
use Rattle.contour.specs.Active.{is_between, active_facets, reached_count, starts_by, ends_above, merge}
use Rattle.contour.proofs.lemmas.Counts.{times, times-filter, times-merge, count-permutation, Ascends, Ascends-filter, Ascends-range, Ascends-merge, Ascends-from_sorted, same_from_counts}

-- ---- a test that fails for good
abbrev pub Fades : {X : Type 0} → (X → Bool) → List X → Type 0
Fades p [] = Unit {0}
Fades p (x ∷ xs) = (p x ≡ false → AllByRecursion (λ y. p y ≡ false) xs) × Fades p xs

fails_on : {X : Type 0} (R : X → X → Type 0) (p : X → Bool) → ((x y : X) → R x y → p x ≡ false → p y ≡ false)
    → (x : X) (xs : List X) → ((k : ℕ) (d : X) → k < length xs → R x (get_or xs k d)) → p x ≡ false → AllByRecursion (λ y. p y ≡ false) xs
fails_on R p step x [] h e = tt
fails_on R p step x (y ∷ ys) h e =
    (step x y (h 0 y (omega arith)) e, fails_on R p step x ys (λ k d l. h (suc k) d (omega arith)) e)

Fades-from_pairs : {X : Type 0} (R : X → X → Type 0) (p : X → Bool) → ((x y : X) → R x y → p x ≡ false → p y ≡ false)
    → (xs : List X) → AllPairs R xs → Fades p xs
Fades-from_pairs R p step [] h = tt
Fades-from_pairs R p step (x ∷ xs) h = (
  fails_on R p step x xs (λ k d l. h 0 (suc k) d (omega arith) (omega arith)),
  Fades-from_pairs R p step xs (λ i j d less l. h (suc i) (suc j) d (omega arith) (omega arith)),
)

Fades-drop : {X : Type 0} (p : X → Bool) (k : ℕ) (xs : List X) → Fades p xs → Fades p (drop k xs)
Fades-drop p zero xs h = h
Fades-drop p (suc k) [] h = tt
Fades-drop p (suc k) (x ∷ xs) h = Fades-drop p k xs h.1

pub none_pass : {X : Type 0} (p : X → Bool) (xs : List X) → AllByRecursion (λ y. p y ≡ false) xs → filter p xs ≡ []
none_pass p [] h = refl
none_pass p (x ∷ xs) h = rw h.0 (none_pass p xs h.1)

all_pass : {X : Type 0} (p : X → Bool) (xs : List X) → AllByRecursion (λ y. p y ≡ false) xs → filter (λ y. not (p y)) xs ≡ xs
all_pass p [] h = refl
all_pass p (x ∷ xs) h = rw h.0 (ap (λ ys. x ∷ ys) (all_pass p xs h.1))

-- then the front that passes is all that passes
front-is : {X : Type 0} (p : X → Bool) (xs : List X) → Fades p xs → take (prefix_len p xs) xs ≡ filter p xs
front-is p [] h = refl
front-is p (x ∷ xs) h = by_test (front-is p xs h.1) (p x) refl
  where
    by_test : take (prefix_len p xs) xs ≡ filter p xs → (b : Bool) → p x ≡ b
        → take (cond b (1 + prefix_len p xs) 0) (x ∷ xs) ≡ cond b (x ∷ filter p xs) (filter p xs)
    by_test rest true e = rw one-add (ap (λ ys. x ∷ ys) rest)
    by_test rest false e = sym (none_pass p xs (h.0 e))

rest-is : {X : Type 0} (p : X → Bool) (xs : List X) → Fades p xs → drop (prefix_len p xs) xs ≡ filter (λ y. not (p y)) xs
rest-is p [] h = refl
rest-is p (x ∷ xs) h = by_test (rest-is p xs h.1) (p x) refl
  where
    by_test : drop (prefix_len p xs) xs ≡ filter (λ y. not (p y)) xs → (b : Bool) → p x ≡ b
        → drop (cond b (1 + prefix_len p xs) 0) (x ∷ xs) ≡ cond (not b) (x ∷ filter (λ y. not (p y)) xs) (filter (λ y. not (p y)) xs)
    by_test rest true e = rw one-add rest
    by_test rest false e = ap (λ ys. x ∷ ys) (sym (all_pass p xs (h.0 e)))

none_counted : {X : Type 0} (p : X → Bool) (xs : List X) → AllByRecursion (λ y. p y ≡ false) xs → count_by p xs ≡ 0
none_counted p [] h = refl
none_counted p (x ∷ xs) h =
    count_by-cons p x xs ∙ (λ i. cond (h.0 i) 1 0 + none_counted p xs h.1 i)

front-counted : {X : Type 0} (p : X → Bool) (xs : List X) → Fades p xs → prefix_len p xs ≡ count_by p xs
front-counted p [] h = refl
front-counted p (x ∷ xs) h = by_test (front-counted p xs h.1) (p x) refl ∙ sym (count_by-cons p x xs)
  where
    by_test : prefix_len p xs ≡ count_by p xs → (b : Bool) → p x ≡ b
        → cond b (1 + prefix_len p xs) 0 ≡ cond b 1 0 + count_by p xs
    by_test rest true e = ap (λ n. 1 + n) rest
    by_test rest false e = ap (λ n. 0 + n) (sym (none_counted p xs (h.0 e)))

-- those that pass p, and those that pass q beyond
counted_beyond : {X : Type 0} (p q : X → Bool) → ((x : X) → p x ≡ true → q x ≡ true) → (xs : List X)
    → count_by p xs + count_by q (filter (λ y. not (p y)) xs) ≡ count_by q xs
counted_beyond p q wider [] = refl
counted_beyond p q wider (x ∷ xs) = by_test (counted_beyond p q wider xs) (p x) refl
  where
    by_test : count_by p xs + count_by q (filter (λ y. not (p y)) xs) ≡ count_by q xs → (b : Bool) → p x ≡ b
        → count_by p (x ∷ xs) + count_by q (cond (not b) (x ∷ filter (λ y. not (p y)) xs) (filter (λ y. not (p y)) xs)) ≡ count_by q (x ∷ xs)
    by_test rest true e =
        (let one : count_by p (x ∷ xs) ≡ 1 + count_by p xs = count_by-cons p x xs ∙ ap (λ b. cond b 1 0 + count_by p xs) e in
        let one' : count_by q (x ∷ xs) ≡ 1 + count_by q xs = count_by-cons q x xs ∙ ap (λ b. cond b 1 0 + count_by q xs) (wider x e) in
        omega arith)
    by_test rest false e =
        (let none : count_by p (x ∷ xs) ≡ 0 + count_by p xs = count_by-cons p x xs ∙ ap (λ b. cond b 1 0 + count_by p xs) e in
        let there : count_by q (x ∷ filter (λ y. not (p y)) xs) ≡ cond (q x) 1 0 + count_by q (filter (λ y. not (p y)) xs) = count_by-cons q x (filter (λ y. not (p y)) xs) in
        let here : count_by q (x ∷ xs) ≡ cond (q x) 1 0 + count_by q xs = count_by-cons q x xs in
        omega arith)

-- ---- facets by number
-- f gives the elements of xs from k on
abbrev pub Gives : {X : Type 0} → (ℕ → X) → ℕ → List X → Type 0
Gives f k [] = Unit {0}
Gives f k (x ∷ xs) = (f k ≡ x) × Gives f (k + 1) xs

Gives-shift : {X : Type 0} (f g : ℕ → X) (k m : ℕ) (xs : List X) → ((n : ℕ) → f (k + n) ≡ g (m + n)) → Gives g m xs → Gives f k xs
Gives-shift f g k m [] h t = tt
Gives-shift f g k m (x ∷ xs) h t =
    (here ∙ t.0, Gives-shift f g (k + 1) (m + 1) xs (λ n. ap f (moved k n) ∙ h (1 + n) ∙ ap g (sym (moved m n))) t.1)
  where
    moved : (k n : ℕ) → k + 1 + n ≡ k + (1 + n)
    moved k n = omega arith

    plain : (k : ℕ) → k ≡ k + 0
    plain k = omega arith

    here : f k ≡ g m
    here = ap f (plain k) ∙ h 0 ∙ ap g (sym (plain m))

pub Gives-get_or : {X : Type 0} (xs : List X) (d : X) → Gives (λ n. get_or xs n d) 0 xs
Gives-get_or [] d = tt
Gives-get_or (x ∷ xs) d =
    (refl, Gives-shift (λ n. get_or (x ∷ xs) n d) (λ n. get_or xs n d) (0 + 1) 0 xs shifted (Gives-get_or xs d))
  where
    shifted : (n : ℕ) → get_or (x ∷ xs) (0 + 1 + n) d ≡ get_or xs (0 + n) d
    shifted n =
        let later : 0 + 1 + n ≡ suc n = omega arith in
        let same : n ≡ 0 + n = omega arith in
        ap (λ m. get_or (x ∷ xs) m d) later ∙ ap (λ m. get_or xs m d) same

chosen : {X : Type 0} (f : ℕ → X) (q : X → Bool) (k : ℕ) (xs : List X) → Gives f k xs
    → map (λ e. e.0) (filter (λ e. q e.1) (enumerate_from k xs)) ≡ filter (λ n. q (f n)) (range_with_len k (length xs))
chosen f q k [] h = refl
chosen f q k (x ∷ xs) h = by_test (chosen f q (k + 1) xs h.1) (q x) (q (f k)) (ap q h.0)
  where
    by_test : map (λ e. e.0) (filter (λ e. q e.1) (enumerate_from (k + 1) xs)) ≡ filter (λ n. q (f n)) (range_with_len (k + 1) (length xs))
        → (a b : Bool) → b ≡ a
        → map (λ e. e.0) (cond a ((k, x) ∷ filter (λ e. q e.1) (enumerate_from (k + 1) xs)) (filter (λ e. q e.1) (enumerate_from (k + 1) xs)))
        ≡ cond b (k ∷ filter (λ n. q (f n)) (range_with_len (k + 1) (length xs))) (filter (λ n. q (f n)) (range_with_len (k + 1) (length xs)))
    by_test rest true true e = ap (λ ns. k ∷ ns) rest
    by_test rest true false e = cc
    by_test rest false true e = cc
    by_test rest false false e = rest

counted : {X : Type 0} (f : ℕ → X) (q : X → Bool) (k : ℕ) (xs : List X) → Gives f k xs
    → count_by q xs ≡ count_by (λ n. q (f n)) (range_with_len k (length xs))
counted f q k [] h = refl
counted f q k (x ∷ xs) h =
    count_by-cons q x xs
    ∙ (λ i. cond (q (sym h.0 i)) 1 0 + counted f q (k + 1) xs h.1 i)
    ∙ sym (count_by-cons (λ n. q (f n)) k (range_with_len (k + 1) (length xs)))

-- ---- heights of corners
le_least : (a b z : ℤ) → (is_below (pos 2 *ℤ a) z || is_below (pos 2 *ℤ b) z) ≡ is_below (pos 2 *ℤ int_min a b) z
le_least a b z = grind (arith, ints)

lt_greatest : (a b z : ℤ) → (is_above (pos 2 *ℤ a) z || is_above (pos 2 *ℤ b) z) ≡ is_above (pos 2 *ℤ int_max a b) z
lt_greatest a b z = grind (arith, ints)

either : (a b c d : Bool) → (a || b) ≡ d → (a || (b || (c || false))) ≡ (d || c)
either true b c d h = ap (λ e. e || c) h
either false true c d h = ap (λ e. e || c) h
either false false true d h = ap (λ e. e || true) h
either false false false d h = ap (λ e. e || false) h

pub starts_by-is : (t : Facet) (z : ℤ) → list_any (λ p. is_below (height p) z) (corners t) ≡ is_below (pos 2 *ℤ least_z t) z
starts_by-is t z =
    either (is_below (height t.a) z) (is_below (height t.b) z) (is_below (height t.c) z) _ (le_least t.a.z t.b.z z)
    ∙ le_least (int_min t.a.z t.b.z) t.c.z z

pub ends_above-is : (t : Facet) (z : ℤ) → list_any (λ p. is_above (height p) z) (corners t) ≡ is_above (pos 2 *ℤ greatest_z t) z
ends_above-is t z =
    either (is_above (height t.a) z) (is_above (height t.b) z) (is_above (height t.c) z) _ (lt_greatest t.a.z t.b.z z)
    ∙ lt_greatest (int_max t.a.z t.b.z) t.c.z z

-- ---- by number
pub active-is : (facets : List Facet) (z : ℤ)
    → active_facets facets z ≡ filter (λ n. starts_by facets z n && ends_above facets z n) (range_with_len 0 (length facets))
active-is facets z =
    chosen (facet_at facets) (is_between z) 0 facets (Gives-get_or facets (facet_with origin origin origin))
    ∙ filter_agree (λ n. is_between z (facet_at facets n)) (λ n. starts_by facets z n && ends_above facets z n)
    (λ n i. starts_by-is (facet_at facets n) z i && ends_above-is (facet_at facets n) z i) (range_with_len 0 (length facets))

passed-is : (facets : List Facet) (z : ℤ) → reached_count facets z ≡ count_by (starts_by facets z) (range_with_len 0 (length facets))
passed-is facets z =
    counted (facet_at facets) (λ t. list_any (λ p. is_below (height p) z) (corners t)) 0 facets
    (Gives-get_or facets (facet_with origin origin origin))
    ∙ count_agree (λ n. list_any (λ p. is_below (height p) z) (corners (facet_at facets n))) (starts_by facets z)
    (λ n. starts_by-is (facet_at facets n) z) (range_with_len 0 (length facets))
  where
    count_agree : (p q : ℕ → Bool) → ((n : ℕ) → p n ≡ q n) → (ns : List ℕ) → count_by p ns ≡ count_by q ns
    count_agree p q h ns = ap (λ r. count_by r ns) (λ i n. h n i)

-- ---- the order by height
lower_fades : (a b z : ℤ) (m n : ℕ) → (int_lt a b || (int_eq a b && nat_lt m n)) ≡ true → is_below (pos 2 *ℤ a) z ≡ false
    → is_below (pos 2 *ℤ b) z ≡ false
lower_fades a b z m n h e = grind (arith, ints)

pub order_fades : (facets : List Facet) (order : List ℕ) (z : ℤ) → AllPairs (λ m n. is_lower facets m n ≡ true) order
    → Fades (starts_by facets z) order
order_fades facets order z ordered =
    Fades-from_pairs (λ m n. is_lower facets m n ≡ true) (starts_by facets z)
    (λ m n. lower_fades (least_z (facet_at facets m)) (least_z (facet_at facets n)) z m n) order ordered

starts_by_fades : (facets : List Facet) (order : List ℕ) (z : ℤ) → IsByHeight facets order → Fades (starts_by facets z) order
starts_by_fades facets order z by_height = order_fades facets order z by_height.ordered

pub starts_by_wider : (a h z : ℤ) → h ≤ℤ z → is_below a h ≡ true → is_below a z ≡ true
starts_by_wider a h z l e = grind (arith, ints)

ends_above_wider : (a h z : ℤ) → h ≤ℤ z → is_above a z ≡ true → is_above a h ≡ true
ends_above_wider a h z l e = grind (arith, ints)

module _ (facets : List Facet) (order : List ℕ) (by_height : IsByHeight facets order) where
  abbrev pub all_numbers : List ℕ
  all_numbers = range_with_len 0 (length facets)

  order_times : (n : ℕ) → times n order ≡ times n all_numbers
  order_times n = count-permutation (λ m. m == n) all_numbers order by_height.all

  pub front_passed : (z : ℤ) → prefix_len (starts_by facets z) order ≡ reached_count facets z
  front_passed z =
      front-counted (starts_by facets z) order (starts_by_fades facets order z by_height)
      ∙ count-permutation (starts_by facets z) all_numbers order by_height.all ∙ sym (passed-is facets z)

  active_times : (z : ℤ) (n : ℕ)
      → times n (active_facets facets z) ≡ cond (starts_by facets z n && ends_above facets z n) (times n order) 0
  active_times z n =
      ap (times n) (active-is facets z)
      ∙ times-filter (λ m. starts_by facets z m && ends_above facets z m) n all_numbers
      ∙ ap (λ k. cond (starts_by facets z n && ends_above facets z n) k 0) (sym (order_times n))

  active_ascends : (z : ℤ) → Ascends (active_facets facets z)
  active_ascends z =
      subst Ascends (sym (active-is facets z))
      (Ascends-filter (λ n. starts_by facets z n && ends_above facets z n) all_numbers (Ascends-range 0 (length facets)))

  -- at the start
  module _ (z : ℤ) (numbers : List ℕ)
      (found : IsPermutation (filter (ends_above facets z) (take (prefix_len (starts_by facets z) order) order)) numbers)
      (sorted : IsNonDecreasing numbers) where
    two_tests : (a b : Bool) (k : ℕ) → cond b (cond a k 0) 0 ≡ cond (a && b) k 0
    two_tests true b k = refl
    two_tests false true k = refl
    two_tests false false k = refl

    first_times : (n : ℕ) → times n numbers ≡ times n (active_facets facets z)
    first_times n =
        count-permutation (λ m. m == n) _ numbers found
        ∙ times-filter (ends_above facets z) n (take (prefix_len (starts_by facets z) order) order)
        ∙ ap (λ ns. cond (ends_above facets z n) (times n ns) 0) (front-is (starts_by facets z) order (starts_by_fades facets order z by_height))
        ∙ ap (λ k. cond (ends_above facets z n) k 0) (times-filter (starts_by facets z) n order)
        ∙ two_tests (starts_by facets z n) (ends_above facets z n) (times n order)
        ∙ sym (active_times z n)

    pub first_active : numbers ≡ active_facets facets z
    first_active =
        same_from_counts numbers (active_facets facets z) (Ascends-from_sorted numbers sorted) (active_ascends z) first_times

  -- and higher
  module _ (h z : ℤ) (up : h ≤ℤ z) where
    abbrev pub rest : List ℕ
    rest = drop (prefix_len (starts_by facets h) order) order

    beyond : (n : ℕ) → starts_by facets h n ≡ true → starts_by facets z n ≡ true
    beyond n = starts_by_wider (pos 2 *ℤ least_z (facet_at facets n)) h z up

    rest_times : (n : ℕ) → times n (take (prefix_len (starts_by facets z) rest) rest)
        ≡ cond (starts_by facets z n) (cond (not (starts_by facets h n)) (times n order) 0) 0
    rest_times n =
        ap (times n) (front-is (starts_by facets z) rest (Fades-drop (starts_by facets z) (prefix_len (starts_by facets h) order) order (starts_by_fades facets order z by_height)))
        ∙ times-filter (starts_by facets z) n rest
        ∙ ap (λ ns. cond (starts_by facets z n) (times n ns) 0) (rest-is (starts_by facets h) order (starts_by_fades facets order h by_height))
        ∙ ap (λ k. cond (starts_by facets z n) k 0) (times-filter (λ m. not (starts_by facets h m)) n order)

    pub next_passed : reached_count facets h + prefix_len (starts_by facets z) rest ≡ reached_count facets z
    next_passed =
        (λ i. sym (front_passed h) i + front-counted (starts_by facets z) rest (Fades-drop (starts_by facets z) (prefix_len (starts_by facets h) order) order (starts_by_fades facets order z by_height)) i)
        ∙ (λ i. front-counted (starts_by facets h) order (starts_by_fades facets order h by_height) i
        + count_by (starts_by facets z) (rest-is (starts_by facets h) order (starts_by_fades facets order h by_height) i))
        ∙ counted_beyond (starts_by facets h) (starts_by facets z) beyond order
        ∙ sym (front-counted (starts_by facets z) order (starts_by_fades facets order z by_height))
        ∙ front_passed z

    module _ (fresh : List ℕ)
        (found : IsPermutation (filter (ends_above facets z) (take (prefix_len (starts_by facets z) rest) rest)) fresh)
        (sorted : IsNonDecreasing fresh) where
      abbrev pub kept : List ℕ
      kept = filter (ends_above facets z) (active_facets facets h)

      four_tests : (b b' t t' : Bool) (k : ℕ) → (b ≡ true → b' ≡ true) → (t' ≡ true → t ≡ true)
          → cond t' (cond (b && t) k 0) 0 + cond t' (cond b' (cond (not b) k 0) 0) 0 ≡ cond (b' && t') k 0
      four_tests true true true true k p q = omega arith
      four_tests true true true false k p q = refl
      four_tests true true false true k p q = absurd (cc (q refl))
      four_tests true true false false k p q = refl
      four_tests true false t t' k p q = absurd (cc (p refl))
      four_tests false true t true k p q = omega arith
      four_tests false true t false k p q = refl
      four_tests false false t true k p q = refl
      four_tests false false t false k p q = refl

      next_times : (n : ℕ) → times n (merge kept fresh) ≡ times n (active_facets facets z)
      next_times n =
          times-merge n kept fresh
          ∙ (λ i. times-filter (ends_above facets z) n (active_facets facets h) i
          + (count-permutation (λ m. m == n) _ fresh found ∙ times-filter (ends_above facets z) n (take (prefix_len (starts_by facets z) rest) rest)) i)
          ∙ (λ i. cond (ends_above facets z n) (active_times h n i) 0 + cond (ends_above facets z n) (rest_times n i) 0)
          ∙ four_tests (starts_by facets h n) (starts_by facets z n) (ends_above facets h n) (ends_above facets z n) (times n order)
          (beyond n) (ends_above_wider (pos 2 *ℤ top_of facets n) h z up)
          ∙ sym (active_times z n)

      pub next_active : merge kept fresh ≡ active_facets facets z
      next_active =
          same_from_counts (merge kept fresh) (active_facets facets z)
          (Ascends-merge kept fresh (Ascends-filter (ends_above facets z) (active_facets facets h) (active_ascends h)) (Ascends-from_sorted fresh sorted))
          (active_ascends z) next_times
