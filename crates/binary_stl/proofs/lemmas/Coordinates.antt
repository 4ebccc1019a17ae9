-- The coordinate of a finite number by its sign and its magnitude.
use Rattle.std.proofs.Common.{◌≡◌, ◌∙◌, ℕ, zero, suc, ◌+◌, ◌*◌, ◌-◌, ◌/◌, ◌^◌, ◌<◌, ◌≤◌, Bool, true, false, ap, arith, lit≤, lit<, refl, subst, sym, to_z, of_z, w32}
use Rattle.std.specs.Prelude.{◌==◌, bit_and, Err, IfSome, MatchOption, None, Ok, Option, Result, Some, ℤ, if◌then◌else◌, nat_abs, nat_le, neg_ℤ, pos, ◌*ℤ◌}
use Rattle.std.specs.Option.{ok_or}
use Rattle.std.proofs.lemmas.Bool.{cond-false, le-leb, leb-true, lt-leb, ne_eqb}
use Rattle.std.proofs.lemmas.Nat.{and_mask, le-div, mul-le}
use Rattle.std.proofs.Math.IntN.{negsuc-*ℤ-pos, pos-*ℤ-pos}
use Rattle.std.proofs.Math.Nat.{pow-le-pow_right, zero-mul}
use Rattle.exact_int.specs.Bounds.{IsAtMost}
use Rattle.exact_int.proofs.lemmas.Sizes.{back_of}
use Rattle.geometry.specs.declared.limits.TheConstants.{COORDINATE_LIMIT}
use Rattle.micro_num.specs.Micrometres.{is_coordinate, nearest}
use Rattle.micro_num.specs.declared.unit.Unit.{Unit as LengthUnit}
use Rattle.micro_num.specs.declared.unit.Unit.TheVariants.{Millimetre, Inch, Centimetre, Metre}
use Rattle.binary_stl.specs.Single.{Single, coordinate_of, coordinate_or_fault, exponent_field, finite, fraction_field, infinite, is_negative, micro, micrometres_in, multiple, nearest_to, not_a_number, signed, single_coordinate, single_of}
use Rattle.binary_stl.specs.declared.binary_fault.CoordinateFault.{CoordinateFault}
use Rattle.binary_stl.specs.declared.binary_fault.CoordinateFault.TheVariants.{OutOfRange}
use Rattle.binary_stl.proofs.lemmas.Rounding.{nearest-small}

nearest_to-neg : (n d : ℕ) → 0 < d → nearest_to (neg_ℤ (pos n)) d ≡ neg_ℤ (pos (nearest n d))
nearest_to-neg zero d some =
    let none : nearest 0 d ≡ 0 = nearest-small 0 d some in
    ap (λ k. pos k) none ∙ sym (ap (λ k. neg_ℤ (pos k)) none)
nearest_to-neg (suc n) d some = refl

neg-times : (n k : ℕ) → neg_ℤ (pos n) *ℤ pos k ≡ neg_ℤ (pos (n * k))
neg-times zero k = pos-*ℤ-pos 0 k ∙ ap (λ n. pos n) (zero-mul k) ∙ sym (ap (λ n. neg_ℤ (pos n)) (zero-mul k))
neg-times (suc n) k = negsuc-*ℤ-pos n k

-- rounding keeps the sign
pub micro-signed : (unit : LengthUnit) (negative : Bool) (n : ℕ) → micro unit (signed negative n) ≡ signed negative (nearest (n * micrometres_in unit) (2 ^ 149))
micro-signed unit true n = ap (λ z. nearest_to z (2 ^ 149)) (neg-times n (micrometres_in unit)) ∙ nearest_to-neg (n * micrometres_in unit) (2 ^ 149) (lit< tt)
micro-signed unit false n = ap (λ z. nearest_to z (2 ^ 149)) (pos-*ℤ-pos n (micrometres_in unit))

nat_abs-signed : (negative : Bool) (n : ℕ) → nat_abs (signed negative n) ≡ n
nat_abs-signed true zero = refl
nat_abs-signed true (suc n) = refl
nat_abs-signed false n = refl

-- in range or not, by the magnitude in micrometres
abbrev by_magnitude : Bool → ℕ → Result ℤ CoordinateFault
by_magnitude negative m = if nat_le m COORDINATE_LIMIT then Ok (signed negative m) else Err OutOfRange

by-magnitude : (negative : Bool) (m : ℕ) → coordinate_or_fault (signed negative m) ≡ by_magnitude negative m
by-magnitude negative m = ap (λ k. if nat_le k COORDINATE_LIMIT then Ok (signed negative m) else Err OutOfRange) (nat_abs-signed negative m)

-- a magnitude, in micrometres
abbrev rounded : LengthUnit → ℕ → ℕ
rounded unit bits = nearest (multiple (exponent_field bits) (fraction_field bits) * micrometres_in unit) (2 ^ 149)

coordinate-finite : (unit : LengthUnit) (bits : ℕ) → exponent_field bits < 255 → coordinate_of unit bits ≡ by_magnitude (is_negative bits) (rounded unit bits)
coordinate-finite unit bits is =
    let e : ℕ = exponent_field bits in
    let n : ℕ = multiple e (fraction_field bits) in
    let other : e ≡ 255 → ⊥ = λ same. omega (arith, same, is) in
    ap (single_coordinate unit)
    (cond-false (e == 255) (if fraction_field bits == 0 then infinite else not_a_number) (finite (signed (is_negative bits) n)) (ne_eqb e 255 other))
    ∙ ap coordinate_or_fault (micro-signed unit (is_negative bits) n)
    ∙ by-magnitude (is_negative bits) (rounded unit bits)

-- the coordinate as it is computed
pub coordinate_is : (unit : LengthUnit) (bits m : ℕ) (found : Option ℤ) → exponent_field bits < 255 → m ≡ rounded unit bits
    → MatchOption found (COORDINATE_LIMIT < m) (λ _. m ≤ COORDINATE_LIMIT) → IfSome found (λ z. z ≡ signed (is_negative bits) m)
    → ok_or found OutOfRange ≡ coordinate_of unit bits
coordinate_is unit bits m None is same beyond value =
    sym (coordinate-finite unit bits is ∙ ap (by_magnitude (is_negative bits)) (sym same)
    ∙ ap (λ b. if b then Ok (signed (is_negative bits) m) else Err OutOfRange) (lt-leb m COORDINATE_LIMIT beyond))
coordinate_is unit bits m (Some z) is same within value =
    ap (λ (z : ℤ). Ok z) value
    ∙ sym (coordinate-finite unit bits is ∙ ap (by_magnitude (is_negative bits)) (sym same)
    ∙ ap (λ b. if b then Ok (signed (is_negative bits) m) else Err OutOfRange) (le-leb m COORDINATE_LIMIT within))

-- ---- numbers of at least 2 ^ 23 in a unit
thousand : (unit : LengthUnit) → 1000 ≤ micrometres_in unit
thousand Millimetre = lit≤ tt
thousand Inch = lit≤ tt
thousand Centimetre = lit≤ tt
thousand Metre = lit≤ tt

multiple-far : (e f : ℕ) → 150 ≤ e → 2 ^ 149 * 2 ^ 23 ≤ multiple e f
multiple-far e f far =
    let some : e ≡ 0 → ⊥ = λ none. omega (arith, none, far) in
    let power : 2 ^ 149 ≤ 2 ^ (e - 1) = pow-le-pow_right {n = 2} (lit≤ tt) {i = 149} {j = e - 1} (omega (arith, far)) in
    rw (cond-false (e == 0) f (2 ^ (e - 1) * (2 ^ 23 + f)) (ne_eqb e 0 some)) (mul-le (2 ^ 149) (2 ^ 23) (2 ^ (e - 1)) (2 ^ 23 + f) power (omega arith))

rounded-far : (unit : LengthUnit) (bits : ℕ) → 150 ≤ exponent_field bits → COORDINATE_LIMIT < rounded unit bits
rounded-far unit bits far =
    let e : ℕ = exponent_field bits in
    let n : ℕ = multiple e (fraction_field bits) * micrometres_in unit in
    let high : 2 ^ 149 * 2 ^ 23 * 1000 ≤ n =
    mul-le (2 ^ 149 * 2 ^ 23) 1000 (multiple e (fraction_field bits)) (micrometres_in unit) (multiple-far e (fraction_field bits) far) (thousand unit) in
    le-div (COORDINATE_LIMIT + 1) (2 * n + 2 ^ 149) (2 * 2 ^ 149) (lit< tt) (above n high)
  where
    above : (n : ℕ) → 2 ^ 149 * 2 ^ 23 * 1000 ≤ n → (COORDINATE_LIMIT + 1) * (2 * 2 ^ 149) ≤ 2 * n + 2 ^ 149
    above n high = omega (arith, high)

pub coordinate_far : (unit : LengthUnit) (bits : ℕ) → 150 ≤ exponent_field bits → exponent_field bits < 255 → coordinate_of unit bits ≡ Err OutOfRange
coordinate_far unit bits far is =
    coordinate-finite unit bits is
    ∙ ap (λ b. if b then Ok (signed (is_negative bits) (rounded unit bits)) else Err OutOfRange)
    (lt-leb (rounded unit bits) COORDINATE_LIMIT (rounded-far unit bits far))

-- the exponent field, as it is computed
pub exponent-masked : (bits : ℕ) → bit_and (bits / 2 ^ 23) 255 ≡ exponent_field bits
exponent-masked bits = and_mask (bits / 2 ^ 23) 8

pub fraction-masked : (bits : ℕ) → bit_and bits (2 ^ 23 - 1) ≡ fraction_field bits
fraction-masked bits = and_mask bits 23

-- ---- coordinates are in range
coordinate-within : (unit : LengthUnit) (bits : ℕ) (z : ℤ) → coordinate_of unit bits ≡ Ok z → IsAtMost COORDINATE_LIMIT z
coordinate-within unit bits z e = by_number (single_of bits) e
  where
    by_range : (x : ℤ) (b : Bool) → is_coordinate x ≡ b → ◌≡◌ {A = Result ℤ CoordinateFault} (if b then Ok x else Err OutOfRange) (Ok z) → IsAtMost COORDINATE_LIMIT z
    by_range x true within h =
        let same : x ≡ z = cc in
        subst (IsAtMost COORDINATE_LIMIT) same (record { at_most = leb-true _ _ within })
    by_range x false within h = cc

    by_number : (n : Single) → single_coordinate unit n ≡ Ok z → IsAtMost COORDINATE_LIMIT z
    by_number not_a_number h = cc
    by_number infinite h = cc
    by_number (finite n) h = by_range (micro unit n) (is_coordinate (micro unit n)) refl h

-- the same for the number in the bits of its type
pub coordinate-within-bits : (unit : LengthUnit) (bits : ℕ) (z : ℤ) → coordinate_of unit bits ≡ Ok z → IsAtMost COORDINATE_LIMIT (to_z w32 (of_z w32 z))
coordinate-within-bits unit bits z e =
    let within : IsAtMost COORDINATE_LIMIT z = coordinate-within unit bits z e in
    record { at_most = omega (arith, back_of w32 z, within.at_most) }
