-- Quotients by powers of 2, rounded to the nearest whole number, as they are computed: by a sum and a shift.
use Rattle.std.proofs.Common.{◌≡◌, ◌⊎◌, inl, inr, ℕ, ◌+◌, ◌*◌, ◌-◌, ◌/◌, ◌^◌, ◌<◌, ◌≤◌, arith, ap, sym, ◌∙◌, lit≤, lit<}
use Rattle.std.specs.Prelude.{◌==◌, min, max}
use Rattle.std.proofs.lemmas.Bool.{cases_lt, cond-true, cond-false, eq-eqb, ne_eqb}
use Rattle.std.proofs.lemmas.Nat.{mul-lt, pow-add, pow_pos}
use Rattle.std.proofs.Math.Nat.{div-eq_of_lt, mul-div-mul_left, pow-le-pow_right, pow-succ'}
use Rattle.micro_num.specs.Micrometres.{nearest}
use Rattle.micro_num.specs.declared.unit.Unit.{Unit as LengthUnit}
use Rattle.micro_num.specs.declared.unit.Unit.TheVariants.{Millimetre, Inch, Centimetre, Metre}
use Rattle.binary_stl.specs.Single.{micrometres_in, multiple}

-- a factor of numerator and denominator
pub nearest-factor : (c n d : ℕ) → 0 < c → nearest (c * n) (c * d) ≡ nearest n d
nearest-factor c n d some =
    ap (λ x. x / (2 * (c * d))) (omega arith) ∙ ap (λ x. (c * (2 * n + d)) / x) (omega arith) ∙ mul-div-mul_left (2 * n + d) (2 * d) some

nearest-even : (n h : ℕ) → (n + h) / (2 * h) ≡ nearest n (2 * h)
nearest-even n h =
    sym (ap (λ x. x / (2 * (2 * h))) (omega arith) ∙ mul-div-mul_left (n + h) (2 * h) (lit< tt))

pub nearest-small : (n d : ℕ) → 2 * n < d → nearest n d ≡ 0
nearest-small n d small = div-eq_of_lt (omega (arith, small))

-- a sum and a shift by k bits
shifted-nearest : (n k : ℕ) → 1 ≤ k → (n + 2 ^ (k - 1)) / 2 ^ k ≡ nearest n (2 ^ k)
shifted-nearest n k some =
    let even : 2 ^ k ≡ 2 * 2 ^ (k - 1) = ap (λ j. 2 ^ j) (omega arith) ∙ pow-succ' 2 (k - 1) in
    ap (λ d. (n + 2 ^ (k - 1)) / d) even ∙ nearest-even n (2 ^ (k - 1)) ∙ sym (ap (nearest n) even)

-- shifts by more bits than `limit` give 0, as does the one by `limit`
shifted : (n k limit : ℕ) → 1 ≤ k → 1 ≤ limit → 2 * n < 2 ^ limit → (n + 2 ^ (min k limit - 1)) / 2 ^ min k limit ≡ nearest n (2 ^ k)
shifted n k limit some one small = by (cases_lt limit k)
  where
    by : (limit < k) ⊎ (k ≤ limit) → (n + 2 ^ (min k limit - 1)) / 2 ^ min k limit ≡ nearest n (2 ^ k)
    by (inr few) = ap (λ m. (n + 2 ^ (m - 1)) / 2 ^ m) (omega (arith, few)) ∙ shifted-nearest n k some
    by (inl many) =
        let more : 2 ^ limit ≤ 2 ^ k = pow-le-pow_right {n = 2} (lit≤ tt) {i = limit} {j = k} (omega (arith, many)) in
        ap (λ m. (n + 2 ^ (m - 1)) / 2 ^ m) (omega (arith, many)) ∙ shifted-nearest n limit one
        ∙ nearest-small n (2 ^ limit) small ∙ sym (nearest-small n (2 ^ k) (omega (arith, small, more)))

-- s times 2 to the power t - 1, in parts of 2 to the power 149
pub shifted_magnitude : (s f t k m : ℕ) → s < 2 ^ 24 → f < 2 ^ 20 → 1 ≤ t → 1 ≤ k → (t - 1) + k ≡ 149 → m ≡ min k 63
    → (s * f + 2 ^ (m - 1)) / 2 ^ m ≡ nearest ((2 ^ (t - 1) * s) * f) (2 ^ 149)
shifted_magnitude s f t k m few less one some all is =
    let small : s * f < 2 ^ 44 = mul-lt s f (2 ^ 24) (2 ^ 20) few less in
    ap (λ m. (s * f + 2 ^ (m - 1)) / 2 ^ m) is
    ∙ shifted (s * f) k 63 some (lit≤ tt) (omega (arith, small))
    ∙ sym (nearest-factor (2 ^ (t - 1)) (s * f) (2 ^ k) (pow_pos (t - 1)))
    ∙ (λ i. nearest (regroup i) (powers i))
  where
    regroup : 2 ^ (t - 1) * (s * f) ≡ (2 ^ (t - 1) * s) * f
    regroup = omega arith

    powers : 2 ^ (t - 1) * 2 ^ k ≡ 2 ^ 149
    powers = sym (pow-add 2 (t - 1) k) ∙ ap (λ j. 2 ^ j) all

pub micrometres_few : (unit : LengthUnit) → micrometres_in unit < 2 ^ 20
micrometres_few Millimetre = lit< tt
micrometres_few Inch = lit< tt
micrometres_few Centimetre = lit< tt
micrometres_few Metre = lit< tt

-- the significand, which the least exponent but 0 does not shift
pub subnormal : (e f s t : ℕ) → e ≡ 0 → s ≡ f → t ≡ max e 1 → 2 ^ (t - 1) * s ≡ multiple e f
subnormal e f s t none is greater =
    let one : t ≡ 1 = omega arith in
    ap (λ t. 2 ^ (t - 1) * s) one ∙ (omega arith) ∙ sym (cond-true (e == 0) f (2 ^ (e - 1) * (2 ^ 23 + f)) (eq-eqb e 0 none))

pub normal : (e f s t : ℕ) → (e ≡ 0 → ⊥) → s ≡ 2 ^ 23 + f → t ≡ max e 1 → 2 ^ (t - 1) * s ≡ multiple e f
normal e f s t some is greater =
    let same : t ≡ e = omega arith in
    ap (λ t. 2 ^ (t - 1) * s) same ∙ ap (λ s. 2 ^ (e - 1) * s) is
    ∙ sym (cond-false (e == 0) f (2 ^ (e - 1) * (2 ^ 23 + f)) (ne_eqb e 0 some))
