-- Magnitudes with extreme exponents: 0 stays 0, a high exponent gives no coordinate, and a low one gives 0.
use Rattle.std.proofs.Common.{◌≡◌, ℕ, suc, ◌*◌, ◌^◌, ◌<◌, ◌≤◌, arith, refl, lit≤}
use Rattle.std.specs.Prelude.{pos, negsuc, ℤ, Err, false}
use Rattle.std.proofs.Math.Nat.{zero-mul, div-eq_of_lt, pow-le-pow_right, mul-le-mul_right}
use Rattle.std.proofs.lemmas.Bool.{lt-leb}
use Rattle.micro_num.proofs.lemmas.Powers.{power_above}
use Rattle.micro_num.specs.declared.num_fault.NumFault.TheVariants.{OutOfRange}
use Rattle.micro_num.specs.Micrometres.{magnitude, rounded_quotient, coordinate_or_fault, is_coordinate}
use Rattle.geometry.specs.declared.limits.TheConstants.{COORDINATE_LIMIT}

pub rounded_quotient-small : (m k : ℕ) → 2 * m < 10 ^ k → rounded_quotient m k ≡ 0
rounded_quotient-small m k below = div-eq_of_lt (omega (arith, below))

pub magnitude-zero : (s : ℤ) → magnitude 0 s ≡ 0
unfolding magnitude
magnitude-zero (pos k) = zero-mul (10 ^ k)
magnitude-zero (negsuc k) = rounded_quotient-small 0 (suc k) (power_above (suc k))

-- a number below 5, divided by 10 or a higher power of ten, rounds to 0
pub magnitude-near : (m k : ℕ) → 2 * m < 10 → 1 ≤ suc k → magnitude m (negsuc k) ≡ 0
unfolding magnitude
magnitude-near m k below one =
    rounded_quotient-small m (suc k) (omega (arith, below, pow-le-pow_right {n = 10} (lit≤ tt) one))

pub magnitude_far : (m k : ℕ) → 1 ≤ m → 9 ≤ k → coordinate_or_fault (pos (magnitude m (pos k))) ≡ Err OutOfRange
unfolding magnitude
magnitude_far m k one nine = rw test refl
  where
    grown : 10 ^ 9 ≤ 10 ^ k
    grown = pow-le-pow_right {n = 10} (lit≤ tt) nine

    above : 10 ^ k ≤ m * 10 ^ k
    above = omega (arith, mul-le-mul_right (10 ^ k) one)

    test : is_coordinate (pos (m * 10 ^ k)) ≡ false
    test = lt-leb (m * 10 ^ k) COORDINATE_LIMIT (omega (arith, grown, above))
