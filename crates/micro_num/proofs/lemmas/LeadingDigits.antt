-- The leading digits of a number.
use Rattle.std.proofs.Common.{◌≡◌, ◌⊎◌, inl, inr, ℕ, ◌+◌, ◌*◌, ◌^◌, ◌<◌, ◌≤◌, arith, ap, ◌∙◌, add-one}
use Rattle.std.proofs.lemmas.Bool.{cases_lt}
use Rattle.std.proofs.Math.Nat.{pow-succ'}
use Rattle.micro_num.specs.Scan.{IsLeading}
use Rattle.micro_num.specs.declared.limits.TheConstants.{LEADING_ROOM}

pub power_more : (j : ℕ) → 10 ^ (j + 1) ≡ 10 * 10 ^ j
power_more j = ap (λ k. 10 ^ k) (add-one j) ∙ pow-succ' 10 j

pub IsLeading-none : IsLeading 0 0 0
IsLeading-none = record { low = omega arith; high = omega arith; short = omega arith; long = λ h. omega arith }

-- a digit that still fits
pub IsLeading_extended : (v j n d : ℕ) → IsLeading v j n → v < LEADING_ROOM → d < 10 → IsLeading (10 * v + d) j (10 * n + d)
IsLeading_extended v j n d h room digit = by_cases (cases_lt 0 j)
  where
    by_cases : (0 < j) ⊎ (j ≤ 0) → IsLeading (10 * v + d) j (10 * n + d)
    by_cases (inl some) = absurd (omega (arith, h.long some))
    by_cases (inr none) =
        let zeroth : j ≡ 0 = omega arith in
        let one : 10 ^ j ≡ 1 = ap (λ j. 10 ^ j) zeroth in
        let low = ap (λ p. v * p) one in
        let high = ap (λ p. (v + 1) * p) one in
        let lower = ap (λ p. (10 * v + d) * p) one in
        let upper = ap (λ p. (10 * v + d + 1) * p) one in
        record {
          low = omega (arith, h.low);
          high = omega (arith, h.high);
          short = omega arith;
          long = λ some. absurd (omega arith);
        }

-- a digit that is dropped
pub IsLeading_dropped : (v j n d : ℕ) → IsLeading v j n → LEADING_ROOM ≤ v → d < 10 → IsLeading v (j + 1) (10 * n + d)
IsLeading_dropped v j n d h long digit =
    let e : 10 ^ (j + 1) ≡ 10 * 10 ^ j = power_more j in
    let lower : v * 10 ^ (j + 1) ≡ 10 * (v * 10 ^ j) = ap (λ p. v * p) e ∙ omega arith in
    let upper : (v + 1) * 10 ^ (j + 1) ≡ 10 * ((v + 1) * 10 ^ j) = ap (λ p. (v + 1) * p) e ∙ omega arith in
    record {
      low = omega (arith, h.low);
      high = omega (arith, h.high);
      short = h.short;
      long = λ _. long;
    }
