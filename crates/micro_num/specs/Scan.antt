-- What the reader of numbers has read between the parts of a word, and what this says of the number.
-- - `scanned`: the parts of a text after its sign, read from the left
-- - `text_magnitude`: the coordinate that such a text stands for, or its fault
-- - `IsLeading`: the value of the leading digits of a number, and how many digits were dropped
-- - `IsMantissa`: the digits of a number, with their leading digits
-- - `IsCarry`: what dropped digits add to INCH_FACTOR times the leading ones
-- - `IsCapped`: the same number, or both above the limit of coordinates
-- - `IsLeadingInUnit`: the leading digits times the factor of a unit
-- - `IsNear`: the same exponent, or both far beyond those of coordinates, on the same side
-- - `IsExponentFront`: a text begins with an exponent, or with none
-- - `IsNumberFront`: a text begins with a number that has no sign
-- - `IsEnded`: a text that does not begin with a byte of a number
use Rattle.std.specs.Prelude.{◌≡◌, ℕ, ◌+◌, ◌*◌, ◌^◌, ◌-◌, ◌<◌, ◌≤◌, ◌==◌, Bool, true, false, ◌&&◌, List, [], ◌∷◌, ◌++◌, length, Option, Some, None, Result, Ok, Err, not, fold, nat_le, if◌then◌else◌, ℤ, pos, neg_ℤ, ◌≤ℤ◌, ◌⊎◌}
use Rattle.std.specs.Char.{is_ascii_digit}
use Rattle.std.specs.List.{before_first, list_all}
use Rattle.micro_num.specs.declared.unit.Unit.{Unit as LengthUnit}
use Rattle.micro_num.specs.declared.num_fault.NumFault.{NumFault}
use Rattle.micro_num.specs.declared.num_fault.NumFault.TheVariants.{NotNumber, OutOfRange}
use Rattle.micro_num.specs.Numeral.{Sign, unsigned, Exponent, Numeral, IsNumeral, is_point, is_exponent_mark, exponent_text, numeral_text, from_first, exponent_of, mantissa_digits, are_digits, is_exponent}
use Rattle.micro_num.specs.Micrometres.{digits_value, exponent_value, magnitude, unit_factor, power_of}
use Rattle.geometry.specs.declared.limits.TheConstants.{COORDINATE_LIMIT}
use Rattle.micro_num.specs.declared.limits.TheConstants.{INCH_FACTOR, LEADING_LIMIT, LEADING_ROOM, SCALE_LIMIT, WORD_LIMIT}

abbrev pub is_other : ℕ → Bool
is_other byte = not (is_ascii_digit byte)

-- the digits after the point, if the text begins with a point
abbrev pub digits_after_point : List ℕ → Option (List ℕ)
digits_after_point [] = None
digits_after_point (byte ∷ bytes) = if byte == 46 then Some (before_first is_other bytes) else None

-- the text after the point and its digits
abbrev pub rest_after_point : List ℕ → List ℕ
rest_after_point [] = []
rest_after_point (byte ∷ bytes) = if byte == 46 then from_first is_other bytes else byte ∷ bytes

-- The digits at the front are the whole part, a point after them begins the fraction, and the rest is the exponent.
abbrev pub scanned : Sign → List ℕ → Numeral
scanned s text = record {
  sign = s;
  whole = before_first is_other text;
  fraction = digits_after_point (from_first is_other text);
  exponent = exponent_of (rest_after_point (from_first is_other text));
}

abbrev pub is_numeral : Numeral → Bool
is_numeral n = are_digits (mantissa_digits n) && is_exponent n.exponent

-- the value of a number without its sign
abbrev pub magnitude_of : LengthUnit → Numeral → ℕ
magnitude_of unit n = magnitude (unit_factor unit * digits_value (mantissa_digits n)) (power_of unit n)

abbrev pub magnitude_or_fault : ℕ → Result ℤ NumFault
magnitude_or_fault m = if nat_le m COORDINATE_LIMIT then Ok (pos m) else Err OutOfRange

abbrev pub scanned_magnitude : LengthUnit → Numeral → Result ℤ NumFault
scanned_magnitude unit n = if is_numeral n then magnitude_or_fault (magnitude_of unit n) else Err NotNumber

-- the coordinate that the text after a sign stands for, or its fault
abbrev pub text_magnitude : LengthUnit → List ℕ → Result ℤ NumFault
text_magnitude unit text = scanned_magnitude unit (scanned unsigned text)

-- the value of the digits of n with these digits after them
abbrev pub digits_after : ℕ → List ℕ → ℕ
digits_after n ds = fold (λ n d. 10 * n + (d - 48)) n ds

-- value is n without its last `dropped` digits; no digit is dropped while value is below LEADING_ROOM
pub record IsLeading (value dropped n : ℕ) : Type 0 where
  pub low : value * 10 ^ dropped ≤ n
  pub high : n < (value + 1) * 10 ^ dropped
  pub short : value < LEADING_LIMIT
  pub long : 0 < dropped → LEADING_ROOM ≤ value

-- the digits of a number, and the value of the leading ones
pub record IsMantissa (value dropped : ℕ) (whole fraction : List ℕ) : Type 0 where
  pub leads : IsLeading value dropped (digits_value (whole ++ fraction))
  pub digits : list_all is_ascii_digit (whole ++ fraction) ≡ true
  pub few : dropped ≤ length whole + length fraction
  pub within : length whole + length fraction ≤ WORD_LIMIT

-- carry is the whole part of INCH_FACTOR times the decimal fraction whose `count` digits are those of n
pub record IsCarry (carry count n : ℕ) : Type 0 where
  pub low : carry * 10 ^ count ≤ INCH_FACTOR * n
  pub high : INCH_FACTOR * n < (carry + 1) * 10 ^ count

-- IsLeading for a value in a unit, which may be INCH_FACTOR times as large
pub record IsLeadingInUnit (value dropped n : ℕ) : Type 0 where
  pub low : value * 10 ^ dropped ≤ n
  pub high : n < (value + 1) * 10 ^ dropped
  pub short : value < SCALE_LIMIT
  pub long : 0 < dropped → LEADING_ROOM ≤ value

-- the same exponent, or both so high that any number but 0 is out of range, or both so low that any number rounds to 0
abbrev pub IsNear : ℤ → ℤ → Type 0
IsNear a b =
    (a ≡ b)
    ⊎ ((pos LEADING_ROOM ≤ℤ a) × (pos LEADING_ROOM ≤ℤ b))
    ⊎ ((a ≤ℤ neg_ℤ (pos LEADING_ROOM)) × (b ≤ℤ neg_ℤ (pos LEADING_ROOM)))

-- b is a if a is in the range of coordinates; otherwise b is out of range too
pub record IsCapped (a b : ℕ) : Type 0 where
  pub within : a ≤ COORDINATE_LIMIT → b ≡ a
  pub beyond : COORDINATE_LIMIT < a → COORDINATE_LIMIT < b

-- the text is an exponent near e, or none if e is near 0, and then `rest`
pub record IsExponentFront (text rest : List ℕ) (e : ℤ) : Type 0 where
  pub exponent : Option Exponent
  pub is : is_exponent exponent ≡ true
  pub spelled : text ≡ exponent_text exponent ++ rest
  pub near : IsNear e (exponent_value exponent)

-- the text is a number without a sign, and then `rest`; m is the value of the number, if that is a coordinate
pub record IsNumberFront (unit : LengthUnit) (text rest : List ℕ) (m : ℕ) : Type 0 where
  pub number : Numeral
  pub is : IsNumeral number
  pub no_sign : number.sign ≡ unsigned
  pub spelled : text ≡ numeral_text number ++ rest
  pub capped : IsCapped (magnitude_of unit number) m

-- a text that is empty, or whose first byte is no digit, no point and neither `e` nor `E`
abbrev pub IsEnded : List ℕ → Type 0
IsEnded [] = Unit {0}
IsEnded (byte ∷ rest) = (is_ascii_digit byte ≡ false) × (is_point byte ≡ false) × (is_exponent_mark byte ≡ false)
