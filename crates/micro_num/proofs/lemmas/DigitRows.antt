-- The value of a row of digits that is cut in two.
use Rattle.std.proofs.Common.{◌≡◌, ◌⊎◌, inl, inr, ℕ, suc, ◌+◌, ◌*◌, ◌-◌, ◌/◌, ◌^◌, ◌<◌, ◌≤◌, true, List, [], ◌∷◌, ◌++◌, length, drop, get_or, arith, ap, subst, ◌∙◌, lit≤}
use Rattle.std.specs.Char.{is_ascii_digit}
use Rattle.std.specs.List.{list_all}
use Rattle.std.proofs.lemmas.List.{length-drop}
use Rattle.std.proofs.lemmas.List.Sums.{fold-append}
use Rattle.std.proofs.lemmas.Bool.{and_parts, cases_lt}
use Rattle.std.proofs.lemmas.Nat.{pow-add}
use Rattle.std.proofs.Math.Nat.{pow-succ', mul-le-mul_right, lt_of_mul-lt-mul_right, one-le-pow, mul-le-mul_left}
use Rattle.std.proofs.Math.Seq.{drop-cons}
use Rattle.micro_num.specs.Scan.{IsLeading, IsCarry, digits_after}
use Rattle.micro_num.proofs.lemmas.Grammar.{bounds}
use Rattle.micro_num.specs.declared.limits.TheConstants.{INCH_FACTOR, LEADING_ROOM}

digits_after-more : (n : ℕ) (ds : List ℕ) → digits_after n ds ≡ n * 10 ^ length ds + digits_after 0 ds
digits_after-more n [] = omega arith
digits_after-more n (d ∷ ds) =
    let e : ℕ = d - 48 in
    let p : ℕ = 10 ^ length ds in
    let left : digits_after n (d ∷ ds) ≡ (10 * n + e) * p + digits_after 0 ds = digits_after-more (10 * n + e) ds in
    let right : digits_after 0 (d ∷ ds) ≡ (10 * 0 + e) * p + digits_after 0 ds = digits_after-more (10 * 0 + e) ds in
    let next : n * 10 ^ length (d ∷ ds) ≡ n * (10 * p) = ap (λ q. n * q) (pow-succ' 10 (length ds)) in
    left ∙ (let whole : (10 * n + e) * p + digits_after 0 ds ≡ n * 10 ^ length (d ∷ ds) + digits_after 0 (d ∷ ds) = omega arith in whole)

pub digits_after-append : (xs ys : List ℕ) → digits_after 0 (xs ++ ys) ≡ digits_after 0 xs * 10 ^ length ys + digits_after 0 ys
digits_after-append xs ys = fold-append (λ n d. 10 * n + (d - 48)) 0 xs ys ∙ digits_after-more (digits_after 0 xs) ys

digits_after-cons : (d : ℕ) (ds : List ℕ) → digits_after 0 (d ∷ ds) ≡ (d - 48) * 10 ^ length ds + digits_after 0 ds
digits_after-cons d ds = digits_after-more (10 * 0 + (d - 48)) ds ∙ omega arith

-- a row of n digits is less than ten to the power n
pub digits_below : (ds : List ℕ) → list_all is_ascii_digit ds ≡ true → digits_after 0 ds < 10 ^ length ds
digits_below [] h = omega arith
digits_below (d ∷ ds) h =
    let parts : (is_ascii_digit d ≡ true) × (list_all is_ascii_digit ds ≡ true) = and_parts _ _ h in
    let inside = bounds d parts.0 in
    let nine : d - 48 ≤ 9 = omega arith in
    omega (arith, digits_after-cons d ds, digits_below ds parts.1, pow-succ' 10 (length ds), mul-le-mul_right (10 ^ length ds) nine)

-- One more digit before those whose carry is known.
IsCarry_more : (c t n e : ℕ) → IsCarry c t n → IsCarry ((INCH_FACTOR * e + c) / 10) (suc t) (e * 10 ^ t + n)
IsCarry_more c t n e h =
    let p : ℕ = 10 ^ t in
    let q : ℕ = (INCH_FACTOR * e + c) / 10 in
    let low : 10 * q ≤ INCH_FACTOR * e + c = omega arith in
    let high : INCH_FACTOR * e + c + 1 ≤ 10 * (q + 1) = omega arith in
    let next : 10 ^ suc t ≡ 10 * p = pow-succ' 10 t in
    let lower : q * 10 ^ suc t ≡ q * (10 * p) = ap (λ r. q * r) next in
    let upper : (q + 1) * 10 ^ suc t ≡ (q + 1) * (10 * p) = ap (λ r. (q + 1) * r) next in
    record {
      low = omega (arith, h.low, lower, mul-le-mul_right p low);
      high = omega (arith, h.high, upper, mul-le-mul_right p high);
    }

pub IsCarry-none : IsCarry 0 0 0
IsCarry-none = record { low = omega arith; high = omega arith }

-- the list with one more digit, taken from its end
pub IsCarry_step : (ds : List ℕ) (i c count n : ℕ) → i < length ds
    → IsCarry c (i + count) (digits_after 0 (drop (length ds - i) ds) * 10 ^ count + n)
    → IsCarry ((INCH_FACTOR * (get_or ds (length ds - 1 - i) 0 - 48) + c) / 10) (i + 1 + count) (digits_after 0 (drop (length ds - (i + 1)) ds) * 10 ^ count + n)
IsCarry_step ds i c count n inside h =
    let at : ℕ = length ds - 1 - i in
    let e : ℕ = get_or ds at 0 - 48 in
    let rest : List ℕ = drop (length ds - i) ds in
    let size : length rest ≡ i = omega (arith, length-drop (length ds - i) ds) in
    let first : length ds - (i + 1) ≡ at = omega arith in
    let others : suc at ≡ length ds - i = omega arith in
    let front : drop (length ds - (i + 1)) ds ≡ get_or ds at 0 ∷ rest =
    ap (λ k. drop k ds) first ∙ drop-cons ds at 0 (omega arith) ∙ ap {B = List ℕ} (λ k. get_or ds at 0 ∷ drop k ds) others in
    let value : digits_after 0 (drop (length ds - (i + 1)) ds) ≡ e * 10 ^ i + digits_after 0 rest =
    ap (digits_after 0) front ∙ digits_after-cons (get_or ds at 0) rest ∙ ap (λ k. e * 10 ^ k + digits_after 0 rest) size in
    let power : 10 ^ (i + count) ≡ 10 ^ i * 10 ^ count = pow-add 10 i count in
    let times : e * 10 ^ (i + count) ≡ e * (10 ^ i * 10 ^ count) = ap (λ p. e * p) power in
    let whole : e * 10 ^ (i + count) + (digits_after 0 rest * 10 ^ count + n) ≡ digits_after 0 (drop (length ds - (i + 1)) ds) * 10 ^ count + n =
    omega (arith, ap (λ v. v * 10 ^ count) value) in
    let many : suc (i + count) ≡ i + 1 + count = omega arith in
    subst (λ m. IsCarry ((INCH_FACTOR * e + c) / 10) (i + 1 + count) m) whole
    (subst (λ k. IsCarry ((INCH_FACTOR * e + c) / 10) k (e * 10 ^ (i + count) + (digits_after 0 rest * 10 ^ count + n))) many
    (IsCarry_more c (i + count) (digits_after 0 rest * 10 ^ count + n) e h))

-- INCH_FACTOR times the leading digits, with the carry of the others, is INCH_FACTOR times the number
pub IsCarry-all : (xs ys : List ℕ) (v c : ℕ) → IsLeading v (length ys) (digits_after 0 (xs ++ ys))
    → list_all is_ascii_digit ys ≡ true → IsCarry c (length ys) (digits_after 0 ys)
    → IsCarry (INCH_FACTOR * v + c) (length ys) (digits_after 0 (xs ++ ys))
IsCarry-all xs ys v c leading digits carry =
    let p : ℕ = 10 ^ length ys in
    let x : ℕ = digits_after 0 xs in
    let y : ℕ = digits_after 0 ys in
    let all : digits_after 0 (xs ++ ys) ≡ x * p + y = digits_after-append xs ys in
    let below : y < p = digits_below ys digits in
    let under : x * p < (v + 1) * p = omega (arith, leading.high) in
    let over : v * p < (x + 1) * p = omega (arith, leading.low) in
    let first : x < v + 1 = lt_of_mul-lt-mul_right p under in
    let second : v < x + 1 = lt_of_mul-lt-mul_right p over in
    let equal : v ≡ x = omega arith in
    let same : v * p ≡ x * p = ap (λ v. v * p) equal in
    record {
      low = omega (arith, carry.low);
      high = omega (arith, carry.high);
    }

-- the leading digits of a number without dropped digits are the number
pub near : (v j n : ℕ) → IsLeading v j n → (v ≡ n) ⊎ ((LEADING_ROOM ≤ v) × (LEADING_ROOM ≤ n))
near v j n h = by_cases (cases_lt 0 j)
  where
    by_cases : (0 < j) ⊎ (j ≤ 0) → (v ≡ n) ⊎ ((LEADING_ROOM ≤ v) × (LEADING_ROOM ≤ n))
    by_cases (inl some) = inr (h.long some, omega (arith, h.long some, h.low, mul-le-mul_left v (one-le-pow j 10 (lit≤ tt))))
    by_cases (inr none) =
        let zeroth : j ≡ 0 = omega arith in
        let one : 10 ^ j ≡ 1 = ap (λ j. 10 ^ j) zeroth in
        let low = ap (λ p. v * p) one in
        let high = ap (λ p. (v + 1) * p) one in
        inl (omega (arith, h.low, h.high))
