-- The value of a number, in whole micrometres.
-- - `nearest n d`: n / d as the nearest whole number, halves upward
-- - `magnitude m s`: m times ten to the power s, as the nearest whole number, halves upward
-- - `micro unit n`: the value of a number in a unit, in micrometres
-- - `coordinate_of unit word`: the coordinate that a word stands for, or its fault
use Rattle.std.specs.Prelude.{ℕ, ◌+◌, ◌*◌, ◌/◌, ◌^◌, Bool, List, length, Option, Some, None, Result, Ok, Err, ℤ, pos, negsuc, ◌+ℤ◌, ◌-ℤ◌, neg_ℤ, nat_abs, nat_lt, nat_le, if◌then◌else◌, fold, ◌-◌, suc}
use Rattle.micro_num.specs.declared.unit.Unit.{Unit as LengthUnit}
use Rattle.micro_num.specs.declared.unit.Unit.TheVariants.{Millimetre, Inch, Centimetre, Metre}
use Rattle.micro_num.specs.declared.num_fault.NumFault.{NumFault}
use Rattle.micro_num.specs.declared.num_fault.NumFault.TheVariants.{NotNumber, TooLong, OutOfRange}
use Rattle.micro_num.specs.Numeral.{Sign, unsigned, plus, minus, Exponent, Numeral, fraction_digits, mantissa_digits, numeral_of}
use Rattle.geometry.specs.declared.limits.TheConstants.{COORDINATE_LIMIT}
use Rattle.micro_num.specs.declared.limits.TheConstants.{INCH_FACTOR, WORD_LIMIT}

-- the value of a row of decimal digits
abbrev pub digits_value : List ℕ → ℕ
digits_value ds = fold (λ n d. 10 * n + (d - 48)) 0 ds

-- a number with a sign
abbrev pub with_sign : Sign → ℕ → ℤ
with_sign unsigned n = pos n
with_sign plus n = pos n
with_sign minus n = neg_ℤ (pos n)

-- the value of an exponent, 0 if there is none
abbrev pub exponent_value : Option Exponent → ℤ
exponent_value None = pos 0
exponent_value (Some e) = with_sign e.sign (digits_value e.digits)

-- n / d as the nearest whole number, halves upward
abbrev pub nearest : ℕ → ℕ → ℕ
nearest n d = (2 * n + d) / (2 * d)

-- m divided by ten to the power k, as the nearest whole number, halves upward
abbrev pub rounded_quotient : ℕ → ℕ → ℕ
rounded_quotient m k = nearest m (10 ^ k)

-- m times ten to the power s, as the nearest whole number, halves upward
unfoldable pub magnitude : ℕ → ℤ → ℕ
magnitude m (pos k) = m * 10 ^ k
magnitude m (negsuc k) = rounded_quotient m (suc k)

-- A unit is its factor times a power of ten, in micrometres: an inch is INCH_FACTOR times 100, and the others are powers of ten.
abbrev pub unit_factor : LengthUnit → ℕ
unit_factor Millimetre = 1
unit_factor Inch = INCH_FACTOR
unit_factor Centimetre = 1
unit_factor Metre = 1

-- the power of ten of a unit, beside its factor
abbrev pub unit_power : LengthUnit → ℕ
unit_power Millimetre = 3
unit_power Inch = 2
unit_power Centimetre = 4
unit_power Metre = 6

-- the value in micrometres is the digits of the mantissa, times the factor of the unit, times ten to this power
abbrev pub power_of : LengthUnit → Numeral → ℤ
power_of unit n = (exponent_value n.exponent -ℤ pos (length (fraction_digits n.fraction))) +ℤ pos (unit_power unit)

-- the value of a number in micrometres, to the nearest whole one, halves away from zero
abbrev pub micro : LengthUnit → Numeral → ℤ
micro unit n = with_sign n.sign (magnitude (unit_factor unit * digits_value (mantissa_digits n)) (power_of unit n))

-- at most COORDINATE_LIMIT micrometres from 0
abbrev pub is_coordinate : ℤ → Bool
is_coordinate z = nat_le (nat_abs z) COORDINATE_LIMIT

-- the coordinate, if it is in range
abbrev pub coordinate_or_fault : ℤ → Result ℤ NumFault
coordinate_or_fault z = if is_coordinate z then Ok z else Err OutOfRange

-- the coordinate of a word that is a number, or the fault
abbrev pub numeral_coordinate : LengthUnit → Option Numeral → Result ℤ NumFault
numeral_coordinate unit None = Err NotNumber
numeral_coordinate unit (Some n) = coordinate_or_fault (micro unit n)

-- the coordinate that a word stands for, or its fault
abbrev pub coordinate_of : LengthUnit → List ℕ → Result ℤ NumFault
coordinate_of unit word = if nat_lt WORD_LIMIT (length word) then Err TooLong else numeral_coordinate unit (numeral_of word)
