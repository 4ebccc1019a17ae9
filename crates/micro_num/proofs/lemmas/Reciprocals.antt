-- Division by a power of ten, made by multiplying with a reciprocal from a table.
use Rattle.std.proofs.Common.{◌≡◌, inl, inr, ℕ, zero, suc, ◌+◌, ◌*◌, ◌-◌, ◌/◌, ◌^◌, ◌<◌, ◌≤◌, Bool, true, ◌&&◌, List, [], ◌∷◌, get_or, leb, arith, refl, ap, subst, ◌∙◌}
use Rattle.std.proofs.Math.Nat.{mul-le-mul_right, mul-le-mul_left, div-mul-le_self, lt-div-mul-add, div-eq_of_lt-le, div-div-eq-div-mul, le_of_mul-le-mul_left, lt_of_mul-lt-mul_left}
use Rattle.std.proofs.lemmas.Bool.{and_parts, leb-true, cases_lt}
use Rattle.micro_num.proofs.lemmas.Powers.{power_above}
use Rattle.micro_num.specs.declared.limits.TheConstants.{DIVIDEND_LIMIT, POWER_COUNT}

-- m is k divided by d, or so little more that no number below the limit shows it
abbrev is_reciprocal : ℕ → ℕ → ℕ → Bool
is_reciprocal d m k = leb k (d * m) && leb (DIVIDEND_LIMIT * (d * m - k) + 1) k

quotient_is : (n d m k : ℕ) → 0 < d → n < DIVIDEND_LIMIT → is_reciprocal d m k ≡ true → n * m / k ≡ n / d
quotient_is n d m k some small is =
    let parts = and_parts _ _ is in
    let over : k ≤ d * m = leb-true _ _ parts.0 in
    let q : ℕ = n / d in
    let e : ℕ = d * m - k in
    let little : DIVIDEND_LIMIT * e + 1 ≤ k = leb-true _ _ parts.1 in
    let low : q * d ≤ n = div-mul-le_self n d in
    let high : n + 1 ≤ q * d + d = omega (arith, lt-div-mul-add {a = n} {b = d} some) in
    let split : d * m ≡ k + e = omega arith in
    let lower : d * (q * k) ≤ d * (n * m) = omega (arith, mul-le-mul_right k low, mul-le-mul_left n over) in
    let whole : n * (d * m) ≡ n * (k + e) = ap (λ x. n * x) split in
    let rest : n * e ≤ DIVIDEND_LIMIT * e = mul-le-mul_right e (omega arith) in
    let upper : d * (n * m) < d * ((q + 1) * k) = omega (arith, whole, rest, little, mul-le-mul_right k high) in
    div-eq_of_lt-le {k = q} k (le_of_mul-le-mul_left lower some) (lt_of_mul-lt-mul_left d upper)

abbrev each_below : (ℕ → Bool) → ℕ → Bool
each_below p zero = true
each_below p (suc n) = p n && each_below p n

each_is : (p : ℕ → Bool) (n k : ℕ) → each_below p n ≡ true → k < n → p k ≡ true
each_is p zero k each inside = absurd (omega arith)
each_is p (suc n) k each inside = elim (cases_lt k n) [
  | inl before ↦ each_is p n k (and_parts _ _ each).1 before
  | inr last ↦ let same : n ≡ k = omega arith in subst (λ k. p k ≡ true) same (and_parts _ _ each).0
]

-- the two tables, which begin at 10
abbrev shifts : List ℕ
shifts = 3 ∷ 6 ∷ 9 ∷ 13 ∷ 16 ∷ 19 ∷ 23 ∷ 26 ∷ 29 ∷ 33 ∷ 36 ∷ 39 ∷ 43 ∷ 46 ∷ 49 ∷ 53 ∷ 56 ∷ 59 ∷ 63 ∷ []

abbrev reciprocals : ℕ → List ℕ → List ℕ
reciprocals d [] = []
reciprocals d (s ∷ ss) = (2 ^ 64 * 2 ^ s / d + 1) ∷ reciprocals (10 * d) ss

abbrev is_entry : ℕ → Bool
is_entry k = is_reciprocal (10 ^ (k + 1)) (get_or (reciprocals 10 shifts) k 0) (2 ^ 64 * 2 ^ get_or shifts k 0)

table : each_below is_entry (POWER_COUNT - 1) ≡ true
table = refl

-- the quotient as it is computed
pub divided_is : (n power : ℕ) → 0 < power → power < POWER_COUNT → n < DIVIDEND_LIMIT
    → n * get_or (reciprocals 10 shifts) (power - 1) 0 / 2 ^ 64 / 2 ^ get_or shifts (power - 1) 0 ≡ n / 10 ^ power
divided_is n power some few small =
    let m : ℕ = get_or (reciprocals 10 shifts) (power - 1) 0 in
    let s : ℕ = get_or shifts (power - 1) 0 in
    let same : power - 1 + 1 ≡ power = omega arith in
    let entry : is_entry (power - 1) ≡ true = each_is is_entry (POWER_COUNT - 1) (power - 1) table (omega arith) in
    div-div-eq-div-mul (n * m) (2 ^ 64) (2 ^ s)
    ∙ quotient_is n (10 ^ power) m (2 ^ 64 * 2 ^ s) (power_above power) small
    (subst (λ p. is_reciprocal (10 ^ p) m (2 ^ 64 * 2 ^ s) ≡ true) same entry)
