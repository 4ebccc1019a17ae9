-- A number of single precision (binary32 of IEEE 754-2019, 3.4): the value that its 32 bits stand for, and the coordinate.
-- - `is_negative`, `exponent_field`, `fraction_field`: the fields of the bits
-- - `single_of bits`: the number
-- - `coordinate_of unit bits`: the coordinate that a number stands for, or its fault
use Rattle.std.specs.Prelude.{ℕ, ◌+◌, ◌-◌, ◌*◌, ◌/◌, ◌%◌, ◌^◌, ◌==◌, Bool, Result, Ok, Err, ℤ, pos, negsuc, neg_ℤ, ◌*ℤ◌, suc, if◌then◌else◌}
use Rattle.micro_num.specs.declared.unit.Unit.{Unit as LengthUnit}
use Rattle.micro_num.specs.Micrometres.{is_coordinate, nearest, unit_factor, unit_power}
use Rattle.binary_stl.specs.declared.binary_fault.CoordinateFault.{CoordinateFault}
use Rattle.binary_stl.specs.declared.binary_fault.CoordinateFault.TheVariants.{NotNumber, Infinite, OutOfRange}

-- The fields, from the highest bit: 1 bit for the sign, 8 for the exponent, 23 for the fraction.

abbrev pub is_negative : ℕ → Bool
is_negative bits = bits / 2 ^ 31 == 1

abbrev pub exponent_field : ℕ → ℕ
exponent_field bits = bits / 2 ^ 23 % 2 ^ 8

abbrev pub fraction_field : ℕ → ℕ
fraction_field bits = bits % 2 ^ 23

-- A NaN, an infinity, or a whole multiple of 2 ^ -149, which is the least positive number.
pub data Single : Type 0 where
  not_a_number : Single
  infinite : Single
  finite : ℤ → Single

-- Let E be the exponent field and F the fraction. A magnitude is 2 ^ (E - 127) * (1 + F / 2 ^ 23), or, if E is 0,
-- 2 ^ -126 * (F / 2 ^ 23): 0 and the subnormal numbers. This is how many times 2 ^ -149 that is.
abbrev pub multiple : ℕ → ℕ → ℕ
multiple exponent fraction = if exponent == 0 then fraction else 2 ^ (exponent - 1) * (2 ^ 23 + fraction)

abbrev pub signed : Bool → ℕ → ℤ
signed negative n = if negative then neg_ℤ (pos n) else pos n

-- the number that 32 bits stand for; the greatest exponent is that of infinities and NaNs
abbrev pub single_of : ℕ → Single
single_of bits =
    if exponent_field bits == 255
    then (if fraction_field bits == 0 then infinite else not_a_number)
    else finite (signed (is_negative bits) (multiple (exponent_field bits) (fraction_field bits)))

-- a unit, in micrometres
abbrev pub micrometres_in : LengthUnit → ℕ
micrometres_in unit = unit_factor unit * 10 ^ unit_power unit

-- z / d as the nearest whole number, halves away from zero
abbrev pub nearest_to : ℤ → ℕ → ℤ
nearest_to (pos n) d = pos (nearest n d)
nearest_to (negsuc n) d = neg_ℤ (pos (nearest (suc n) d))

-- the value of z times 2 ^ -149 in a unit, in whole micrometres
abbrev pub micro : LengthUnit → ℤ → ℤ
micro unit z = nearest_to (z *ℤ pos (micrometres_in unit)) (2 ^ 149)

abbrev pub coordinate_or_fault : ℤ → Result ℤ CoordinateFault
coordinate_or_fault z = if is_coordinate z then Ok z else Err OutOfRange

abbrev pub single_coordinate : LengthUnit → Single → Result ℤ CoordinateFault
single_coordinate unit not_a_number = Err NotNumber
single_coordinate unit infinite = Err Infinite
single_coordinate unit (finite z) = coordinate_or_fault (micro unit z)

-- the coordinate that the number of these bits stands for, or its fault
abbrev pub coordinate_of : LengthUnit → ℕ → Result ℤ CoordinateFault
coordinate_of unit bits = single_coordinate unit (single_of bits)
