-- Worked numbers by their bits, and the coordinates that they stand for.
use Rattle.std.proofs.Common.{◌≡◌, refl}
use Rattle.std.specs.Prelude.{Ok, Err, pos, negsuc}
use Rattle.geometry.specs.declared.limits.TheConstants.{COORDINATE_LIMIT}
use Rattle.micro_num.specs.declared.unit.Unit.TheVariants.{Millimetre, Inch, Centimetre, Metre}
use Rattle.binary_stl.specs.Single.{coordinate_of}
use Rattle.binary_stl.specs.declared.binary_fault.CoordinateFault.TheVariants.{NotNumber, Infinite, OutOfRange}

one : coordinate_of Millimetre 0x3f80_0000 ≡ Ok (pos 1000)
one = refl

one_inch : coordinate_of Inch 0x3f80_0000 ≡ Ok (pos 25400)
one_inch = refl

minus_two : coordinate_of Millimetre 0xc000_0000 ≡ Ok (negsuc 1999)
minus_two = refl

-- 0.0625 mm
half_away_from_zero : coordinate_of Millimetre 0x3d80_0000 ≡ Ok (pos 63)
half_away_from_zero = refl

negative_half : coordinate_of Millimetre 0xbd80_0000 ≡ Ok (negsuc 62)
negative_half = refl

below_half : coordinate_of Millimetre 0x3d7f_ffff ≡ Ok (pos 62)
below_half = refl

-- the number nearest to 0.0005 is 0.0005000000237.., and the one before it 0.00049999996554..
above_half_of_one : coordinate_of Millimetre 0x3a03_126f ≡ Ok (pos 1)
above_half_of_one = refl

below_half_of_one : coordinate_of Millimetre 0x3a03_126e ≡ Ok (pos 0)
below_half_of_one = refl

negative_zero : coordinate_of Millimetre 0x8000_0000 ≡ Ok (pos 0)
negative_zero = refl

least_subnormal : coordinate_of Inch 0x0000_0001 ≡ Ok (pos 0)
least_subnormal = refl

-- 128,000 mm, and the number after it, 128,000.0078125
at_the_limit : coordinate_of Millimetre 0x47fa_0000 ≡ Ok (pos COORDINATE_LIMIT)
at_the_limit = refl

beyond_the_limit : coordinate_of Millimetre 0x47fa_0001 ≡ Err OutOfRange
beyond_the_limit = refl

-- 5,039.36962890625 inches, and the number after it
inches_in_range : coordinate_of Inch 0x459d_7af5 ≡ Ok (pos 127999989)
inches_in_range = refl

inches_out_of_range : coordinate_of Inch 0x459d_7af6 ≡ Err OutOfRange
inches_out_of_range = refl

centimetres : coordinate_of Centimetre 0x3fc0_0000 ≡ Ok (pos 15000)
centimetres = refl

-- the number nearest to 0.0505
metres : coordinate_of Metre 0x3d4e_d917 ≡ Ok (pos 50500)
metres = refl

-- 12,800 cm, and the number after it
centimetres_at_the_limit : coordinate_of Centimetre 0x4648_0000 ≡ Ok (pos COORDINATE_LIMIT)
centimetres_at_the_limit = refl

centimetres_beyond_the_limit : coordinate_of Centimetre 0x4648_0001 ≡ Err OutOfRange
centimetres_beyond_the_limit = refl

-- 128 m, and the number after it
metres_at_the_limit : coordinate_of Metre 0x4300_0000 ≡ Ok (pos COORDINATE_LIMIT)
metres_at_the_limit = refl

metres_beyond_the_limit : coordinate_of Metre 0x4300_0001 ≡ Err OutOfRange
metres_beyond_the_limit = refl

-- the greatest finite number
greatest : coordinate_of Millimetre 0x7f7f_ffff ≡ Err OutOfRange
greatest = refl

infinity : coordinate_of Millimetre 0x7f80_0000 ≡ Err Infinite
infinity = refl

negative_infinity : coordinate_of Millimetre 0xff80_0000 ≡ Err Infinite
negative_infinity = refl

quiet : coordinate_of Millimetre 0x7fc0_0000 ≡ Err NotNumber
quiet = refl

signalling : coordinate_of Inch 0xff80_0001 ≡ Err NotNumber
signalling = refl
