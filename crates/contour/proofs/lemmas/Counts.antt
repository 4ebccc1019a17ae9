-- How often a number is in a list. Two ascending lists with the same numbers, each as often, are equal.
use Rattle.std.proofs.Common.{◌≡◌, ℕ, zero, suc, ◌+◌, ◌<◌, ◌≤◌, Bool, true, false, cond, eqb, List, [], ◌∷◌, ◌++◌, refl, sym, ◌∙◌, ap, length, take, drop, get_or, arith, one-add}
use Rattle.std.proofs.lemmas.List.{take-append-drop}
use Rattle.std.specs.Prelude.{count_by, filter, IsPermutation, nat_lt, ◌==◌}
use Rattle.std.specs.List.{range_with_len, prefix_len}
use Rattle.std.specs.List.Sorted.{IsNonDecreasing}
use Rattle.std.proofs.lemmas.List.Sums.{sum_by-append}
use Rattle.std.proofs.lemmas.List.Sorted.{sum_by-IsPermutation}
use Rattle.std.proofs.lemmas.Bool.{eq-eqb, eqb-true, ne_eqb}
use Rattle.std.proofs.lemmas.Bool.Decides.{nat_tests}
use Rattle.mesh_weld.proofs.lemmas.Edges.{count_by-cons}
use Rattle.contour.specs.Active.{merge}

-- ---- counts
pub count-append : {X : Type 0} (p : X → Bool) (xs ys : List X) → count_by p (xs ++ ys) ≡ count_by p xs + count_by p ys
count-append p xs ys = sum_by-append (λ y. cond (p y) 1 0) xs ys

pub count-permutation : {X : Type 0} (p : X → Bool) (xs ys : List X) → IsPermutation xs ys → count_by p ys ≡ count_by p xs
count-permutation p xs ys h = sum_by-IsPermutation (λ y. cond (p y) 1 0) xs ys h

abbrev pub times : ℕ → List ℕ → ℕ
times n xs = count_by (λ m. m == n) xs

-- each edge starts as often as it finishes
abbrev pub AreEven : List ℕ → List ℕ → Type 0
AreEven starts finishes = (e : ℕ) → times e starts ≡ times e finishes

pub times-own : (x : ℕ) (xs : List ℕ) → times x (x ∷ xs) ≡ 1 + times x xs
times-own x xs = count_by-cons (λ m. m == x) x xs ∙ ap (λ b. cond b 1 0 + times x xs) (eq-eqb x x refl)

pub times-other : (n x : ℕ) (xs : List ℕ) → eqb x n ≡ false → times n (x ∷ xs) ≡ times n xs
times-other n x xs h = count_by-cons (λ m. m == n) x xs ∙ ap (λ b. cond b 1 0 + times n xs) h ∙ plain (times n xs)
  where
    plain : (k : ℕ) → 0 + k ≡ k
    plain k = omega arith

-- a filter keeps the numbers that pass
module _ (p : ℕ → Bool) (n x : ℕ) (xs kept : List ℕ) (rest : times n kept ≡ cond (p n) (times n xs) 0) where
  own : (ys : List ℕ) → eqb x n ≡ true → times n (x ∷ ys) ≡ 1 + times n ys
  own ys e = count_by-cons (λ m. m == n) x ys ∙ ap (λ b. cond b 1 0 + times n ys) e

  same : (b : Bool) → eqb x n ≡ true → p x ≡ b → p n ≡ b
  same b e h = ap p (sym (eqb-true x n e)) ∙ h

  counted : (b : Bool) (k m : ℕ) → b ≡ true → m ≡ cond b k 0 → 1 + m ≡ cond b (1 + k) 0
  counted true k m h e = ap (λ j. 1 + j) e
  counted false k m h e = cc

  uncounted : (b : Bool) (k m j : ℕ) → b ≡ false → m ≡ cond b k 0 → m ≡ cond b j 0
  uncounted true k m j h e = cc
  uncounted false k m j h e = e

  times-filter_more : (b e : Bool) → p x ≡ b → eqb x n ≡ e
      → times n (cond b (x ∷ kept) kept) ≡ cond (p n) (times n (x ∷ xs)) 0
  times-filter_more true true h e =
      own kept e ∙ counted (p n) (times n xs) (times n kept) (same true e h) rest ∙ ap (λ k. cond (p n) k 0) (sym (own xs e))
  times-filter_more true false h e =
      times-other n x kept e ∙ rest ∙ ap (λ k. cond (p n) k 0) (sym (times-other n x xs e))
  times-filter_more false true h e = uncounted (p n) (times n xs) (times n kept) (times n (x ∷ xs)) (same false e h) rest
  times-filter_more false false h e = rest ∙ ap (λ k. cond (p n) k 0) (sym (times-other n x xs e))

none_either_way : (b : Bool) → times 0 [] ≡ cond b 0 0
none_either_way true = refl
none_either_way false = refl

pub times-filter : (p : ℕ → Bool) (n : ℕ) (xs : List ℕ) → times n (filter p xs) ≡ cond (p n) (times n xs) 0
times-filter p n [] = none_either_way (p n)
times-filter p n (x ∷ xs) = times-filter_more p n x xs (filter p xs) (times-filter p n xs) (p x) (eqb x n) refl refl

-- ---- ascending lists
abbrev NotBelow : ℕ → List ℕ → Type 0
NotBelow x [] = Unit {0}
NotBelow x (y ∷ ys) = (x ≤ y) × NotBelow x ys

abbrev pub Ascends : List ℕ → Type 0
Ascends [] = Unit {0}
Ascends (x ∷ xs) = NotBelow x xs × Ascends xs

NotBelow-lower : (m x : ℕ) (ys : List ℕ) → m ≤ x → NotBelow x ys → NotBelow m ys
NotBelow-lower m x [] h k = tt
NotBelow-lower m x (y ∷ ys) h k = let le = k.0 in (omega arith, NotBelow-lower m x ys h k.1)

times-below : (n x : ℕ) (ys : List ℕ) → n < x → NotBelow x ys → times n ys ≡ 0
times-below n x [] h k = refl
times-below n x (y ∷ ys) h k =
    let le = k.0 in times-other n y ys (ne_eqb y n (λ e. omega (arith, e, le))) ∙ times-below n x ys h k.1

none_or_more : (n : ℕ) → 0 ≡ 1 + n → ⊥
none_or_more n e = omega arith

not_before : (x : ℕ) (xs : List ℕ) (y : ℕ) (ys : List ℕ) → NotBelow y ys → times x (x ∷ xs) ≡ times x (y ∷ ys) → x < y → ⊥
not_before x xs y ys up e l =
    none_or_more (times x xs)
    (sym (times-other x y ys (ne_eqb y x (λ q. omega (arith, q, l))) ∙ times-below x y ys l up) ∙ sym e ∙ times-own x xs)

heads_agree : (x : ℕ) (xs : List ℕ) (y : ℕ) (ys : List ℕ) → NotBelow x xs → NotBelow y ys
    → ((n : ℕ) → times n (x ∷ xs) ≡ times n (y ∷ ys)) → x ≡ y
heads_agree x xs y ys up up' h =
    grind (arith, not_before x xs y ys up' (h x), not_before y ys x xs up (sym (h y)))

less : (a b c : ℕ) → a + b ≡ a + c → b ≡ c
less a b c e = omega arith

tails_agree : (x : ℕ) (xs : List ℕ) (y : ℕ) (ys : List ℕ) → x ≡ y
    → ((n : ℕ) → times n (x ∷ xs) ≡ times n (y ∷ ys)) → (n : ℕ) → times n xs ≡ times n ys
tails_agree x xs y ys heads h n =
    less (cond (eqb x n) 1 0) (times n xs) (times n ys)
    (sym (count_by-cons (λ m. m == n) x xs) ∙ h n ∙ count_by-cons (λ m. m == n) y ys ∙ ap (λ z. cond (eqb z n) 1 0 + times n ys) (sym heads))

pub same_from_counts : (xs ys : List ℕ) → Ascends xs → Ascends ys → ((n : ℕ) → times n xs ≡ times n ys) → xs ≡ ys
same_from_counts [] [] h k e = refl
same_from_counts [] (y ∷ ys) h k e = absurd (none_or_more (times y ys) (e y ∙ times-own y ys))
same_from_counts (x ∷ xs) [] h k e = absurd (none_or_more (times x xs) (sym (e x) ∙ times-own x xs))
same_from_counts (x ∷ xs) (y ∷ ys) h k e =
    let heads : x ≡ y = heads_agree x xs y ys h.0 k.0 e in
    let rest : xs ≡ ys = same_from_counts xs ys h.1 k.1 (tails_agree x xs y ys heads e) in
    λ i. heads i ∷ rest i

NotBelow-from_get_or : (x : ℕ) (ys : List ℕ) → ((k : ℕ) → k < length ys → x ≤ get_or ys k 0) → NotBelow x ys
NotBelow-from_get_or x [] h = tt
NotBelow-from_get_or x (y ∷ ys) h =
    (h 0 (omega arith), NotBelow-from_get_or x ys (λ k l. h (suc k) (omega arith)))

pub Ascends-from_sorted : (xs : List ℕ) → IsNonDecreasing xs → Ascends xs
Ascends-from_sorted [] h = tt
Ascends-from_sorted (x ∷ xs) h = (
  NotBelow-from_get_or x xs (λ k l. h 0 (suc k) 0 (omega arith) (omega arith)),
  Ascends-from_sorted xs (λ i j d le l. h (suc i) (suc j) d (omega arith) (omega arith)),
)

NotBelow-filter : (p : ℕ → Bool) (x : ℕ) (ys : List ℕ) → NotBelow x ys → NotBelow x (filter p ys)
NotBelow-filter p x [] h = tt
NotBelow-filter p x (y ∷ ys) h = by_test (NotBelow-filter p x ys h.1) (p y)
  where
    by_test : NotBelow x (filter p ys) → (b : Bool) → NotBelow x (cond b (y ∷ filter p ys) (filter p ys))
    by_test rest true = (h.0, rest)
    by_test rest false = rest

pub Ascends-filter : (p : ℕ → Bool) (xs : List ℕ) → Ascends xs → Ascends (filter p xs)
Ascends-filter p [] h = tt
Ascends-filter p (x ∷ xs) h = by_test (Ascends-filter p xs h.1) (p x)
  where
    by_test : Ascends (filter p xs) → (b : Bool) → Ascends (cond b (x ∷ filter p xs) (filter p xs))
    by_test rest true = (NotBelow-filter p x xs h.0, rest)
    by_test rest false = rest

NotBelow-range : (x a n : ℕ) → x ≤ a → NotBelow x (range_with_len a n)
NotBelow-range x a zero h = tt
NotBelow-range x a (suc n) h = (h, NotBelow-range x (a + 1) n (omega arith))

pub Ascends-range : (a n : ℕ) → Ascends (range_with_len a n)
Ascends-range a zero = tt
Ascends-range a (suc n) = (NotBelow-range a (a + 1) n (omega arith), Ascends-range (a + 1) n)

-- ---- two ascending lists as one
NotBelow-append : (x : ℕ) (xs ys : List ℕ) → NotBelow x xs → NotBelow x ys → NotBelow x (xs ++ ys)
NotBelow-append x [] ys h k = k
NotBelow-append x (z ∷ zs) ys h k = (h.0, NotBelow-append x zs ys h.1 k)

NotBelow-take : (x k : ℕ) (ys : List ℕ) → NotBelow x ys → NotBelow x (take k ys)
NotBelow-take x zero ys h = tt
NotBelow-take x (suc k) [] h = tt
NotBelow-take x (suc k) (y ∷ ys) h = (h.0, NotBelow-take x k ys h.1)

NotBelow-drop : (x k : ℕ) (ys : List ℕ) → NotBelow x ys → NotBelow x (drop k ys)
NotBelow-drop x zero ys h = h
NotBelow-drop x (suc k) [] h = tt
NotBelow-drop x (suc k) (y ∷ ys) h = NotBelow-drop x k ys h.1

Ascends-take : (k : ℕ) (xs : List ℕ) → Ascends xs → Ascends (take k xs)
Ascends-take zero xs h = tt
Ascends-take (suc k) [] h = tt
Ascends-take (suc k) (x ∷ xs) h = (NotBelow-take x k xs h.0, Ascends-take k xs h.1)

Ascends-drop : (k : ℕ) (xs : List ℕ) → Ascends xs → Ascends (drop k xs)
Ascends-drop zero xs h = h
Ascends-drop (suc k) [] h = tt
Ascends-drop (suc k) (x ∷ xs) h = Ascends-drop k xs h.1

times-take_drop : (n k : ℕ) (xs : List ℕ) → times n (take k xs) + times n (drop k xs) ≡ times n xs
times-take_drop n k xs = sym (count-append (λ m. m == n) (take k xs) (drop k xs)) ∙ ap (times n) (take-append-drop k xs)

pub times-merge : (n : ℕ) (ns ms : List ℕ) → times n (merge ns ms) ≡ times n ns + times n ms
times-merge n [] ms = plain (times n ms)
  where
    plain : (k : ℕ) → k ≡ 0 + k
    plain k = omega arith
times-merge n (x ∷ ns) ms = by_parts (times-merge n ns (drop (prefix_len (λ m. nat_lt m x) ms) ms))
  where
    k : ℕ
    k = prefix_len (λ m. nat_lt m x) ms

    sums : (a b c d e f g : ℕ) → a ≡ b + c → c ≡ d + e → e ≡ f + g → a ≡ b + (d + (f + g))
    sums a b c d e f g p q r = omega arith

    moved : (a b c d e : ℕ) → b + e ≡ d → b + (a + (c + e)) ≡ (a + c) + d
    moved a b c d e h = omega arith

    by_parts : times n (merge ns (drop k ms)) ≡ times n ns + times n (drop k ms)
        → times n (take k ms ++ x ∷ merge ns (drop k ms)) ≡ times n (x ∷ ns) + times n ms
    by_parts rest =
        sums _ _ _ _ _ _ _ (count-append (λ m. m == n) (take k ms) (x ∷ merge ns (drop k ms)))
        (count_by-cons (λ m. m == n) x (merge ns (drop k ms))) rest
        ∙ moved (cond (eqb x n) 1 0) _ _ _ _ (times-take_drop n k ms)
        ∙ ap (λ j. j + times n ms) (sym (count_by-cons (λ m. m == n) x ns))

-- each of xs is at most x
abbrev NotAbove : ℕ → List ℕ → Type 0
NotAbove x [] = Unit {0}
NotAbove x (y ∷ ys) = (y ≤ x) × NotAbove x ys

Ascends-join : (xs : List ℕ) (x : ℕ) (ys : List ℕ) → Ascends xs → NotAbove x xs → NotBelow x ys → Ascends ys → Ascends (xs ++ x ∷ ys)
Ascends-join [] x ys h k l m = (l, m)
Ascends-join (z ∷ zs) x ys h k l m =
    (NotBelow-append z zs (x ∷ ys) h.0 (k.0, NotBelow-lower z x ys k.0 l), Ascends-join zs x ys h.1 k.1 l m)

front_not_above : (x : ℕ) (ms : List ℕ) → NotAbove x (take (prefix_len (λ m. nat_lt m x) ms) ms)
front_not_above x [] = tt
front_not_above x (m ∷ ms) = by_test (front_not_above x ms) (nat_lt m x) refl
  where
    by_test : NotAbove x (take (prefix_len (λ m. nat_lt m x) ms) ms) → (b : Bool) → nat_lt m x ≡ b
        → NotAbove x (take (cond b (1 + prefix_len (λ m. nat_lt m x) ms) 0) (m ∷ ms))
    by_test rest true h = rw one-add ((grind (arith, nat_tests), rest))
    by_test rest false h = tt

rest_not_below : (x : ℕ) (ms : List ℕ) → Ascends ms → NotBelow x (drop (prefix_len (λ m. nat_lt m x) ms) ms)
rest_not_below x [] h = tt
rest_not_below x (m ∷ ms) h = by_test (rest_not_below x ms h.1) (nat_lt m x) refl
  where
    by_test : NotBelow x (drop (prefix_len (λ m. nat_lt m x) ms) ms) → (b : Bool) → nat_lt m x ≡ b
        → NotBelow x (drop (cond b (1 + prefix_len (λ m. nat_lt m x) ms) 0) (m ∷ ms))
    by_test rest true e = rw one-add rest
    by_test rest false e =
        let up : x ≤ m = grind (arith, nat_tests) in
        (up, NotBelow-lower x m ms up h.0)

NotBelow-merge : (x : ℕ) (ns ms : List ℕ) → NotBelow x ns → NotBelow x ms → NotBelow x (merge ns ms)
NotBelow-merge x [] ms h k = k
NotBelow-merge x (n ∷ ns) ms h k =
    NotBelow-append x (take (prefix_len (λ m. nat_lt m n) ms) ms) _
    (NotBelow-take x (prefix_len (λ m. nat_lt m n) ms) ms k)
    (h.0, NotBelow-merge x ns (drop (prefix_len (λ m. nat_lt m n) ms) ms) h.1 (NotBelow-drop x (prefix_len (λ m. nat_lt m n) ms) ms k))

pub Ascends-merge : (ns ms : List ℕ) → Ascends ns → Ascends ms → Ascends (merge ns ms)
Ascends-merge [] ms h k = k
Ascends-merge (n ∷ ns) ms h k =
    Ascends-join (take (prefix_len (λ m. nat_lt m n) ms) ms) n (merge ns (drop (prefix_len (λ m. nat_lt m n) ms) ms))
    (Ascends-take (prefix_len (λ m. nat_lt m n) ms) ms k) (front_not_above n ms)
    (NotBelow-merge n ns (drop (prefix_len (λ m. nat_lt m n) ms) ms) h.0 (rest_not_below n ms k))
    (Ascends-merge ns (drop (prefix_len (λ m. nat_lt m n) ms) ms) h.1 (Ascends-drop (prefix_len (λ m. nat_lt m n) ms) ms k))
