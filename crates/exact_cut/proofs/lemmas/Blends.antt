-- Bounds on the numerators and denominators of cut points.
use Rattle.std.proofs.Common.{ℕ, ◌+◌, ◌*◌, ◌≤◌, ℤ, pos, ◌+ℤ◌, ◌-ℤ◌, ◌*ℤ◌, ◌≤ℤ◌, ◌<ℤ◌, unsigned_abs, arith}
use Rattle.std.proofs.lemmas.Int.{ints, unsigned_abs-mul}
use Rattle.std.proofs.Math.Nat.{mul-le-mul_left, mul-le-mul_right}
use Rattle.exact_int.specs.Bounds.{IsAtMost}

-- a height between two ends
pub height_in : {m : ℕ} (l h z : ℤ) → IsAtMost m l → IsAtMost m h → l ≤ℤ z → z <ℤ h → IsAtMost m z
height_in l h z a b p q = record { at_most = omega (arith, ints, a.at_most, b.at_most) }

-- the difference of two ends
pub span_in : {m : ℕ} (l h z : ℤ) → IsAtMost m l → IsAtMost m h → IsAtMost (2 * m) ((h -ℤ z) +ℤ (z -ℤ l))
span_in l h z a b = record { at_most = omega (arith, ints, a.at_most, b.at_most) }

sum_abs : (a b : ℤ) → unsigned_abs (a +ℤ b) ≤ unsigned_abs a + unsigned_abs b
sum_abs a b = omega (arith, ints)

span_abs : (s t : ℤ) (k : ℕ) → pos 0 ≤ℤ s → pos 0 ≤ℤ t → unsigned_abs (s +ℤ t) ≤ k → unsigned_abs s + unsigned_abs t ≤ k
span_abs s t k hs ht h = omega (arith, ints)

-- a * s + b * t, for s and t not below 0
pub blend_in : (a b s t : ℤ) (m k : ℕ) → IsAtMost m a → IsAtMost m b → pos 0 ≤ℤ s → pos 0 ≤ℤ t → IsAtMost k (s +ℤ t) → IsAtMost (m * k) (a *ℤ s +ℤ b *ℤ t)
blend_in a b s t m k ha hb hs ht hk =
    let first = mul-le-mul_right (unsigned_abs s) ha.at_most in
    let second = mul-le-mul_right (unsigned_abs t) hb.at_most in
    let span = mul-le-mul_left m (span_abs s t k hs ht hk.at_most) in
    record { at_most = omega (arith, sum_abs (a *ℤ s) (b *ℤ t), unsigned_abs-mul a s, unsigned_abs-mul b t, first, second, span) }
