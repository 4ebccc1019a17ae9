-- Counting over lists, and over the lists of all passes.
use Rattle.std.proofs.Common.{◌≡◌, ◌≢◌, ◌⊎◌, ℕ, zero, suc, ◌+◌, ◌<◌, ◌≤◌, Bool, true, false, cond, List, [], ◌∷◌, length, set, get_or, sum_by, All, nat_lt, nat_le, refl, sym, ap, ◌∙◌, arith, inl, inr, leb-true, length-append}
use Rattle.std.specs.Prelude.{◌==◌, flat_map}
use Rattle.std.proofs.lemmas.List.Sums.{sum_by-cons, sum_by-append}
use Rattle.std.proofs.lemmas.Bool.{cases_Bool, cases_lt}
use mathlib.Core.Option.{some, some-ne-none, some-injective}
use lib.ListN.{get_elem?}
use Rattle.std.proofs.lemmas.Bool.Decides.{nat_tests}
use Rattle.stripe_claims.specs.declared.machine.Hand.{Hand}
use Rattle.stripe_claims.specs.Machine.{one_if, times, once_below, IsEachOnce, beyond, given, all_found}

-- the sum after a change of one element
pub sum_by-set : {X : Type 0} (f : X → ℕ) (xs : List X) (i : ℕ) (x y : X) → get_elem? xs i ≡ some x → sum_by f (set xs i y) + f x ≡ sum_by f xs + f y
sum_by-set f [] i x y at = absurd (some-ne-none x (sym at))
sum_by-set f (z ∷ zs) zero x y at =
    let same : f z ≡ f x = ap f (some-injective z x at) in
    omega (arith, sum_by-cons f z zs, sum_by-cons f y zs, same)
sum_by-set f (z ∷ zs) (suc i) x y at =
    omega (arith, sum_by-cons f z zs, sum_by-cons f z (set zs i y), sum_by-set f zs i x y at)

-- one element is no more than all
pub sum_by-one-le : {X : Type 0} (f : X → ℕ) (xs : List X) (i : ℕ) (x : X) → get_elem? xs i ≡ some x → f x ≤ sum_by f xs
sum_by-one-le f [] i x at = absurd (some-ne-none x (sym at))
sum_by-one-le f (z ∷ zs) zero x at =
    let same : f z ≡ f x = ap f (some-injective z x at) in
    omega (arith, sum_by-cons f z zs, same)
sum_by-one-le f (z ∷ zs) (suc i) x at = omega (arith, sum_by-cons f z zs, sum_by-one-le f zs i x at)

-- lists put together, summed list by list
pub sum_by-flat : {X Y : Type 0} (f : Y → ℕ) (g : X → List Y) (xs : List X) → sum_by f (flat_map g xs) ≡ sum_by (λ x. sum_by f (g x)) xs
sum_by-flat f g [] = refl
sum_by-flat f g (x ∷ xs) = omega (arith, sum_by-append f (g x) (flat_map g xs), sum_by-cons (λ y. sum_by f (g y)) x xs, sum_by-flat f g xs)

pub length-flat : {X Y : Type 0} (g : X → List Y) (xs : List X) → length (flat_map g xs) ≡ sum_by (λ x. length (g x)) xs
length-flat g [] = refl
length-flat g (x ∷ xs) = omega (arith, length-append (g x) (flat_map g xs), sum_by-cons (λ y. length (g y)) x xs, length-flat g xs)

pub sum_by-all : (f : ℕ → ℕ) (hands : List Hand) → sum_by f (all_found hands) ≡ sum_by (λ (h : Hand). sum_by f h.found) hands
sum_by-all f hands = sum_by-flat f (λ (h : Hand). h.found) hands

pub length-all : (hands : List Hand) → length (all_found hands) ≡ sum_by (λ (h : Hand). length h.found) hands
length-all hands = length-flat (λ (h : Hand). h.found) hands

-- what is at a place of the list is counted
times-at : (xs : List ℕ) (k d : ℕ) → k < length xs → 0 < times (get_or xs k d) xs
times-at [] k d h = absurd (omega arith)
times-at (x ∷ xs) zero d h =
    let c = sum_by-cons (λ y. one_if (y == x)) x xs in
    let one : one_if (x == x) ≡ 1 = grind (arith, nat_tests) in
    omega (arith, c, one)
times-at (x ∷ xs) (suc k) d h =
    let c = sum_by-cons (λ y. one_if (y == get_or xs k d)) x xs in
    omega (arith, c, times-at xs k d (omega arith))

below_bound : (x n t : ℕ) → 0 < t → t ≤ once_below x n → x < n
below_bound x n t some_time bound = grind (arith, nat_tests)

-- the numbers of a list, each at most once and below n
pub below-all : (n : ℕ) (xs : List ℕ) → ((x : ℕ) → times x xs ≤ once_below x n) → All (λ y. y < n) xs
below-all n xs h k d lt = below_bound (get_or xs k d) n (times (get_or xs k d) xs) (times-at xs k d lt) (h (get_or xs k d))

pub once_more : (x n : ℕ) → once_below x n + one_if (n == x) ≡ once_below x (n + 1)
once_more x n = grind (arith, nat_tests)

-- the sums of two measures, one of which is nowhere above the other
pub sum_by-below : {X : Type 0} (f g : X → ℕ) (xs : List X) → ((i : ℕ) (x : X) → get_elem? xs i ≡ some x → f x ≤ g x) → sum_by f xs ≤ sum_by g xs
sum_by-below f g [] h = omega arith
sum_by-below f g (x ∷ xs) h =
    omega (arith, sum_by-cons f x xs, sum_by-cons g x xs, h zero x refl, sum_by-below f g xs (λ i. h (suc i)))

-- if p adds up to nothing, so does g
sum_by-none : {X : Type 0} (g p : X → ℕ) (xs : List X) → ((i : ℕ) (x : X) → get_elem? xs i ≡ some x → p x ≡ 0 → g x ≡ 0) → sum_by p xs ≡ 0 → sum_by g xs ≡ 0
sum_by-none g p [] h none = refl
sum_by-none g p (x ∷ xs) h none =
    let c = sum_by-cons p x xs in
    let here : g x ≡ 0 = h zero x refl (omega arith) in
    omega (arith, sum_by-cons g x xs, here, sum_by-none g p xs (λ i. h (suc i)) (omega arith))

-- if one element has all of p, it has all of g
pub sum_by-only : {X : Type 0} (g p : X → ℕ) (xs : List X) (i : ℕ) (x : X) → get_elem? xs i ≡ some x → ((j : ℕ) (y : X) → get_elem? xs j ≡ some y → p y ≡ 0 → g y ≡ 0) → sum_by p xs ≡ p x → sum_by g xs ≡ g x
sum_by-only g p [] i x at h whole = absurd (some-ne-none x (sym at))
sum_by-only g p (z ∷ zs) zero x at h whole =
    let same : z ≡ x = some-injective z x at in
    let pz : p z ≡ p x = ap p same in
    let gz : g z ≡ g x = ap g same in
    let c = sum_by-cons p z zs in
    omega (arith, sum_by-cons g z zs, gz, sum_by-none g p zs (λ j. h (suc j)) (omega arith))
sum_by-only g p (z ∷ zs) (suc i) x at h whole =
    let c = sum_by-cons p z zs in
    let mine = sum_by-one-le p zs i x at in
    let here : g z ≡ 0 = h zero z refl (omega arith) in
    omega (arith, sum_by-cons g z zs, here, sum_by-only g p zs i x at (λ j. h (suc j)) (omega arith))

-- if a list below w has a number that is n or more, w is above n
pub beyond_below : (n w : ℕ) (xs : List ℕ) → All (λ y. y < w) xs → 0 < beyond n xs → n < w
beyond_below n w [] h some_beyond = absurd (omega arith)
beyond_below n w (x ∷ xs) h some_beyond = go (cases_Bool (nat_le n x)) (beyond_below n w xs (λ k d lt. h (suc k) d (omega arith)))
  where
    go : (nat_le n x ≡ true) ⊎ (nat_le n x ≡ false) → (0 < beyond n xs → n < w) → n < w
    go (inl is) _ = let a = leb-true n x is in let b : x < w = h 0 0 (omega arith) in omega arith
    go (inr is) later =
        let c = sum_by-cons (λ y. one_if (nat_le n y)) x xs in
        let z : one_if (nat_le n x) ≡ 0 = ap one_if is in
        later (omega arith)

-- the numbers given out are those that were found and are below n
times-given : (n x : ℕ) (xs : List ℕ) → x < n → times x (given n xs) ≡ times x xs
times-given n x [] lt = refl
times-given n x (y ∷ ys) lt = go (nat_lt y n) refl (times-given n x ys lt)
  where
    go : (b : Bool) → nat_lt y n ≡ b → times x (given n ys) ≡ times x ys → times x (cond b (y ∷ given n ys) (given n ys)) ≡ times x (y ∷ ys)
    go true is rest = omega (arith, sum_by-cons (λ z. one_if (z == x)) y ys, sum_by-cons (λ z. one_if (z == x)) y (given n ys), rest)
    go false is rest =
        let far : one_if (y == x) ≡ 0 = grind (arith, nat_tests) in
        omega (arith, sum_by-cons (λ z. one_if (z == x)) y ys, rest, far)

times-not_given : (n x : ℕ) (xs : List ℕ) → n ≤ x → times x (given n xs) ≡ 0
times-not_given n x [] le = refl
times-not_given n x (y ∷ ys) le = go (nat_lt y n) refl (times-not_given n x ys le)
  where
    go : (b : Bool) → nat_lt y n ≡ b → times x (given n ys) ≡ 0 → times x (cond b (y ∷ given n ys) (given n ys)) ≡ 0
    go true is rest =
        let far : one_if (y == x) ≡ 0 = grind (arith, nat_tests) in
        omega (arith, sum_by-cons (λ z. one_if (z == x)) y (given n ys), rest, far)
    go false is rest = rest

-- if the numbers below some w above n were found each once, those given out are the numbers below n, each once
pub each-given : (n w : ℕ) (xs : List ℕ) → n < w → IsEachOnce w xs → IsEachOnce n (given n xs)
each-given n w xs lt each x = go (cases_lt x n)
  where
    go : (x < n) ⊎ (n ≤ x) → times x (given n xs) ≡ once_below x n
    go (inl below) = times-given n x xs below ∙ each x ∙ (let a : once_below x w ≡ once_below x n = grind (arith, nat_tests) in a)
    go (inr above) = times-not_given n x xs above ∙ (let a : 0 ≡ once_below x n = grind (arith, nat_tests) in a)

-- two elements are no more than all
pub sum_by-two-le : {X : Type 0} (f : X → ℕ) (xs : List X) (i j : ℕ) (x y : X) → i ≢ j → get_elem? xs i ≡ some x → get_elem? xs j ≡ some y → f x + f y ≤ sum_by f xs
sum_by-two-le f [] i j x y apart at there = absurd (some-ne-none x (sym at))
sum_by-two-le f (z ∷ zs) zero zero x y apart at there = absurd (apart refl)
sum_by-two-le f (z ∷ zs) zero (suc j) x y apart at there =
    let same : f z ≡ f x = ap f (some-injective z x at) in
    omega (arith, sum_by-cons f z zs, same, sum_by-one-le f zs j y there)
sum_by-two-le f (z ∷ zs) (suc i) zero x y apart at there =
    let same : f z ≡ f y = ap f (some-injective z y there) in
    omega (arith, sum_by-cons f z zs, same, sum_by-one-le f zs i x at)
sum_by-two-le f (z ∷ zs) (suc i) (suc j) x y apart at there =
    omega (arith, sum_by-cons f z zs, sum_by-two-le f zs i j x y (λ e. apart (ap suc e)) at there)

pub once_at_most : (x n : ℕ) → once_below x n ≤ 1
once_at_most x n = grind (arith, nat_tests)

pub once_when : (x n : ℕ) → x < n → once_below x n ≡ 1
once_when x n lt = grind (arith, nat_tests)
