-- A text that has the value of a number of single precision has its coordinate.
use Rattle.std.proofs.Common.{◌≡◌, ◌∙◌, ◌⊎◌, inl, inr, ℕ, suc, ◌+◌, ◌*◌, ◌-◌, ◌^◌, ◌<◌, ◌≤◌, Bool, true, false, ap, arith, lit<, sym}
use Rattle.std.specs.Prelude.{◌↔◌, Err, Ok, Result, Some, ℤ, ◌+ℤ◌, if◌then◌else◌, negsuc, pos}
use Rattle.std.proofs.lemmas.Bool.{cases_lt}
use Rattle.std.proofs.lemmas.Int.{ints}
use Rattle.std.proofs.lemmas.Nat.{pow-add}
use Rattle.std.proofs.Math.Nat.{div-eq_of_lt-le}
use Rattle.micro_num.proofs.lemmas.Powers.{power_above}
use Rattle.micro_num.specs.Micrometres.{digits_value, is_coordinate, magnitude, micro as text_micro, nearest, numeral_coordinate, unit_factor, unit_power, with_sign}
use Rattle.micro_num.specs.Numeral.{Numeral, Sign, mantissa_digits, minus, plus, unsigned}
use Rattle.micro_num.specs.declared.num_fault.NumFault.{NumFault}
use Rattle.micro_num.specs.declared.num_fault.NumFault.TheVariants as text_fault
use Rattle.micro_num.specs.declared.unit.Unit.{Unit as LengthUnit}
use Rattle.binary_stl.specs.Decimal.{IsDecimalOf, IsFraction, decimal_power}
use Rattle.binary_stl.specs.Single.{coordinate_of, finite, micro, micrometres_in, single_coordinate, single_of}
use Rattle.binary_stl.specs.declared.binary_fault.CoordinateFault.{CoordinateFault}
use Rattle.binary_stl.specs.declared.binary_fault.CoordinateFault.TheVariants.{OutOfRange}
use Rattle.binary_stl.proofs.lemmas.Coordinates.{micro-signed}
use Rattle.binary_stl.proofs.lemmas.Rounding.{nearest-factor}

-- a whole number
nearest-whole : (c d : ℕ) → 0 < d → nearest (c * d) d ≡ c
nearest-whole c d some = div-eq_of_lt-le {k = c} (2 * d) (omega arith) (omega (arith, some))

-- f times m is in a unit of ten to the power u
module _ (f m u w d : ℕ) (some : 0 < d) where
  powered : (k : ℕ) → m * 10 ^ k * d ≡ w → (f * m) * 10 ^ (k + u) ≡ nearest (w * (f * 10 ^ u)) d
  powered k is =
      let times : w * (f * 10 ^ u) ≡ ((f * m) * 10 ^ (k + u)) * d =
      ap (λ w. w * (f * 10 ^ u)) (sym is) ∙ omega arith ∙ ap (λ p. ((f * m) * p) * d) (sym (pow-add 10 k u)) in
      sym (ap (λ n. nearest n d) times ∙ nearest-whole ((f * m) * 10 ^ (k + u)) d some)

  -- the power of the unit is at least that of the fraction
  whole : (k j : ℕ) → k + j ≡ u → m * d ≡ w * 10 ^ k → (f * m) * 10 ^ j ≡ nearest (w * (f * 10 ^ u)) d
  whole k j all is =
      let power : 10 ^ u ≡ 10 ^ k * 10 ^ j = ap (λ u. 10 ^ u) (sym all) ∙ pow-add 10 k j in
      let times : w * (f * 10 ^ u) ≡ ((f * m) * 10 ^ j) * d =
      ap (λ p. w * (f * p)) power ∙ regroup (10 ^ k) (10 ^ j) is in
      sym (ap (λ n. nearest n d) times ∙ nearest-whole ((f * m) * 10 ^ j) d some)
    where
      regroup : (p q : ℕ) → m * d ≡ w * p → w * (f * (p * q)) ≡ ((f * m) * q) * d
      regroup p q same = omega arith ∙ ap (λ x. x * (f * q)) (sym same) ∙ omega arith

  rounded : (k j : ℕ) → u + j ≡ k → m * d ≡ w * 10 ^ k → nearest (f * m) (10 ^ j) ≡ nearest (w * (f * 10 ^ u)) d
  rounded k j all is =
      let power : 10 ^ k ≡ 10 ^ u * 10 ^ j = ap (λ k. 10 ^ k) (sym all) ∙ pow-add 10 u j in
      sym (
      sym (nearest-factor (10 ^ j) (w * (f * 10 ^ u)) d (power_above j))
      ∙ (λ i. nearest (regroup (10 ^ u) (10 ^ j) (is ∙ ap (λ p. w * p) power) i) (turned (10 ^ j) i))
      ∙ nearest-factor d (f * m) (10 ^ j) some
      )
    where
      regroup : (p q : ℕ) → m * d ≡ w * (p * q) → q * (w * (f * p)) ≡ d * (f * m)
      regroup p q same = omega arith ∙ ap (λ x. x * f) (sym same) ∙ omega arith

      turned : (q : ℕ) → q * d ≡ d * q
      turned q = omega arith

  magnitude-is : (s : ℤ) → IsFraction m s w d → magnitude (f * m) (s +ℤ pos u) ≡ nearest (w * (f * 10 ^ u)) d
  unfolding magnitude
  magnitude-is (pos k) is = powered k is
  magnitude-is (negsuc k) is = by (cases_lt u (suc k))
    where
      by : (u < suc k) ⊎ (suc k ≤ u) → magnitude (f * m) (negsuc k +ℤ pos u) ≡ nearest (w * (f * 10 ^ u)) d
      by (inl low) =
          let power : negsuc k +ℤ pos u ≡ negsuc (k - u) = omega (arith, ints, low) in
          ap (magnitude (f * m)) power ∙ rounded (suc k) (suc (k - u)) (omega (arith, low)) is
      by (inr high) =
          let power : negsuc k +ℤ pos u ≡ pos (u - suc k) = omega (arith, ints, high) in
          ap (magnitude (f * m)) power ∙ whole (suc k) (u - suc k) (omega (arith, high)) is

micro-with_sign : (unit : LengthUnit) (s : Sign) (w : ℕ) → micro unit (with_sign s w) ≡ with_sign s (nearest (w * micrometres_in unit) (2 ^ 149))
micro-with_sign unit unsigned w = micro-signed unit false w
micro-with_sign unit plus w = micro-signed unit false w
micro-with_sign unit minus w = micro-signed unit true w

same_micro : (unit : LengthUnit) (z : ℤ) (n : Numeral) → IsDecimalOf z n → micro unit z ≡ text_micro unit n
same_micro unit z n is =
    ap (micro unit) is.signed
    ∙ micro-with_sign unit n.sign is.multiple
    ∙ sym (ap (with_sign n.sign)
    (magnitude-is (unit_factor unit) (digits_value (mantissa_digits n)) (unit_power unit) is.multiple (2 ^ 149) (lit< tt) (decimal_power n) is.same))

abbrev binary_result : Bool → ℤ → Result ℤ CoordinateFault
binary_result b z = if b then Ok z else Err OutOfRange

abbrev text_result : Bool → ℤ → Result ℤ NumFault
text_result b z = if b then Ok z else Err text_fault.OutOfRange

to_text : (b : Bool) (y x : ℤ) → binary_result b y ≡ Ok x → text_result b y ≡ Ok x
to_text true y x e = let same : y ≡ x = cc in ap (λ (y : ℤ). Ok y) same
to_text false y x e = cc

from_text : (b : Bool) (y x : ℤ) → text_result b y ≡ Ok x → binary_result b y ≡ Ok x
from_text true y x e = let same : y ≡ x = cc in ap (λ (y : ℤ). Ok y) same
from_text false y x e = cc

pub same_coordinate : (unit : LengthUnit) (bits : ℕ) (z : ℤ) (n : Numeral) → single_of bits ≡ finite z → IsDecimalOf z n
    → (x : ℤ) → (coordinate_of unit bits ≡ Ok x) ↔ (numeral_coordinate unit (Some n) ≡ Ok x)
same_coordinate unit bits z n is decimal x =
    let y : ℤ = micro unit z in
    let same : y ≡ text_micro unit n = same_micro unit z n decimal in
    let binary : coordinate_of unit bits ≡ binary_result (is_coordinate y) y = ap (single_coordinate unit) is in
    let text : text_result (is_coordinate y) y ≡ numeral_coordinate unit (Some n) = ap (λ y. text_result (is_coordinate y) y) same in
    ((λ e. sym text ∙ to_text (is_coordinate y) y x (sym binary ∙ e)), (λ e. binary ∙ from_text (is_coordinate y) y x (text ∙ e)))
