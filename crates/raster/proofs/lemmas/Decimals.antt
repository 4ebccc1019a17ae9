-- Lengths of decimal texts.
use Rattle.std.proofs.Common.{◌≡◌, ℕ, zero, suc, ◌+◌, ◌*◌, ◌/◌, ◌%◌, ◌^◌, ◌<◌, ◌≤◌, List, [], ◌∷◌, ◌++◌, length, length-append, ap, ◌∙◌, arith}
use Rattle.std.specs.Prelude.{decimal}
use Rattle.std.proofs.lemmas.Fmt.{decimal_digit, decimal_step, length-decimal-le}
use Rattle.geometry.specs.declared.limits.TheConstants.{COLUMN_LIMIT}

pub length-step : (n : ℕ) → 10 ≤ n → n < 2 ^ 64 → length (decimal n) ≡ length (decimal (n / 10)) + 1
length-step n h small =
    ap (λ (l : List ℕ). length l) (decimal_step n h small) ∙ length-append (decimal (n / 10)) ((48 + n % 10) ∷ [])

-- a number from a power of ten up to the next has one digit more than the power's exponent
ten-power : (k : ℕ) → 1 ≤ 10 ^ k
ten-power zero = omega arith
ten-power (suc k) = omega (arith, ten-power k)

pub length-between : (k n : ℕ) → 10 ^ k ≤ n → n < 10 * 10 ^ k → n < 2 ^ 64 → length (decimal n) ≡ k + 1
length-between zero n low high small = ap (λ (l : List ℕ). length l) (decimal_digit n (omega (arith, high)))
length-between (suc k) n low high small =
    let ten : 10 ≤ n = omega (arith, low, ten-power k) in
    let rest : length (decimal (n / 10)) ≡ k + 1 = length-between k (n / 10) (omega (arith, low)) (omega (arith, high)) (omega (arith, small)) in
    omega (arith, length-step n ten small, rest)

pub length-five : (n : ℕ) → n ≤ COLUMN_LIMIT → length (decimal n) ≤ 5
length-five n h = length-decimal-le 5 n (omega arith) (omega arith) (omega arith)

pub longer : (xs ys zs : List ℕ) → zs ≡ xs ++ ys → length zs ≡ length xs + length ys
longer xs ys zs h = ap (λ (l : List ℕ). length l) h ∙ length-append xs ys
