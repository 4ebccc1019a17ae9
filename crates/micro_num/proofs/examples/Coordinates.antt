-- Worked texts, and the coordinates that they stand for.
use Rattle.std.proofs.Common.{◌≡◌, ◌++◌, replicate, refl, ap, lit≤, ◌+◌, ◌-◌, ◌^◌}
use Rattle.std.specs.Prelude.{Ok, Err, pos, negsuc, codes}
use Rattle.micro_num.specs.declared.unit.Unit.TheVariants.{Millimetre, Inch, Centimetre, Metre}
use Rattle.micro_num.specs.declared.num_fault.NumFault.TheVariants.{NotNumber, TooLong, OutOfRange}
use Rattle.micro_num.specs.Micrometres.{coordinate_of, coordinate_or_fault, magnitude, nearest}
use Rattle.micro_num.proofs.lemmas.Magnitude.{magnitude-zero, magnitude_far, magnitude-near}
use Rattle.geometry.specs.declared.limits.TheConstants.{COORDINATE_LIMIT}
use Rattle.micro_num.specs.declared.limits.TheConstants.{WORD_LIMIT}

half_upward : nearest 5 2 ≡ 3
half_upward = refl

half_away_from_zero : coordinate_of Millimetre (codes "0.0005") ≡ Ok (pos 1)
unfolding magnitude
half_away_from_zero = refl

negative_half : coordinate_of Millimetre (codes "-0.0005") ≡ Ok (negsuc 0)
unfolding magnitude
negative_half = refl

below_half : coordinate_of Millimetre (codes "4.9999E-4") ≡ Ok (pos 0)
unfolding magnitude
below_half = refl

printed_exponent : coordinate_of Millimetre (codes "2.648000e-002") ≡ Ok (pos 26)
unfolding magnitude
printed_exponent = refl

point_last : coordinate_of Millimetre (codes "1.") ≡ Ok (pos 1000)
unfolding magnitude
point_last = refl

point_first : coordinate_of Millimetre (codes "+.5") ≡ Ok (pos 500)
unfolding magnitude
point_first = refl

half_of_many_digits : coordinate_of Millimetre (codes "8000.0005") ≡ Ok (pos 8000001)
unfolding magnitude
half_of_many_digits = refl

rounded_to_the_limit : coordinate_of Millimetre (codes "128000.0004") ≡ Ok (pos COORDINATE_LIMIT)
unfolding magnitude
rounded_to_the_limit = refl

rounded_beyond_the_limit : coordinate_of Millimetre (codes "128000.0005") ≡ Err OutOfRange
unfolding magnitude
rounded_beyond_the_limit = refl

point_alone : coordinate_of Millimetre (codes ".") ≡ Err NotNumber
unfolding magnitude
point_alone = refl

exponent_without_digits : coordinate_of Millimetre (codes "1e") ≡ Err NotNumber
unfolding magnitude
exponent_without_digits = refl

comma : coordinate_of Millimetre (codes "1,5") ≡ Err NotNumber
unfolding magnitude
comma = refl

not_a_number : coordinate_of Millimetre (codes "nan") ≡ Err NotNumber
unfolding magnitude
not_a_number = refl

empty_word : coordinate_of Millimetre (codes "") ≡ Err NotNumber
unfolding magnitude
empty_word = refl

longest_word : coordinate_of Millimetre (replicate WORD_LIMIT 48) ≡ Ok (pos 0)
unfolding magnitude
longest_word = refl

word_too_long : coordinate_of Millimetre (replicate (WORD_LIMIT + 1) 48) ≡ Err TooLong
unfolding magnitude
word_too_long = refl

zeros_before_a_low_exponent : coordinate_of Millimetre (codes "1" ++ replicate 240 48 ++ codes "e-240") ≡ Ok (pos 1000)
unfolding magnitude
zeros_before_a_low_exponent = refl

zeros_before_a_high_exponent : coordinate_of Millimetre (codes "0." ++ replicate 240 48 ++ codes "1e241") ≡ Ok (pos 1000)
unfolding magnitude
zeros_before_a_high_exponent = refl

half_after_many_zeros : coordinate_of Millimetre (codes "0." ++ replicate 240 48 ++ codes "5e237") ≡ Ok (pos 1)
unfolding magnitude
half_after_many_zeros = refl

many_nines_below_half : coordinate_of Millimetre (codes "0.00049" ++ replicate 240 57) ≡ Ok (pos 0)
unfolding magnitude
many_nines_below_half = refl

one_inch : coordinate_of Inch (codes "1") ≡ Ok (pos 25400)
unfolding magnitude
one_inch = refl

ten_thousandth_of_an_inch : coordinate_of Inch (codes "0.0001") ≡ Ok (pos 3)
unfolding magnitude
ten_thousandth_of_an_inch = refl

rounded_inches : coordinate_of Inch (codes "0.0025") ≡ Ok (pos 64)
unfolding magnitude
rounded_inches = refl

negative_inches : coordinate_of Inch (codes "-0.0025") ≡ Ok (negsuc 63)
unfolding magnitude
negative_inches = refl

rounded_inches_of_many_digits : coordinate_of Inch (codes "0.0025" ++ replicate 240 48) ≡ Ok (pos 64)
unfolding magnitude
rounded_inches_of_many_digits = refl

inches_of_many_nines : coordinate_of Inch (codes "0.00249" ++ replicate 240 57) ≡ Ok (pos 63)
unfolding magnitude
inches_of_many_nines = refl

inches_near_the_limit : coordinate_of Inch (codes "5039.37") ≡ Ok (pos 127999998)
unfolding magnitude
inches_near_the_limit = refl

inches_rounded_to_the_limit : coordinate_of Inch (codes "5039.37008") ≡ Ok (pos COORDINATE_LIMIT)
unfolding magnitude
inches_rounded_to_the_limit = refl

inches_beyond_the_limit : coordinate_of Inch (codes "5039.3701") ≡ Err OutOfRange
unfolding magnitude
inches_beyond_the_limit = refl

centimetres : coordinate_of Centimetre (codes "1.5") ≡ Ok (pos 15000)
unfolding magnitude
centimetres = refl

half_of_a_ten_thousandth_of_a_centimetre : coordinate_of Centimetre (codes "-0.00005") ≡ Ok (negsuc 0)
unfolding magnitude
half_of_a_ten_thousandth_of_a_centimetre = refl

centimetres_rounded_to_the_limit : coordinate_of Centimetre (codes "12800.00004") ≡ Ok (pos COORDINATE_LIMIT)
unfolding magnitude
centimetres_rounded_to_the_limit = refl

centimetres_beyond_the_limit : coordinate_of Centimetre (codes "12800.00005") ≡ Err OutOfRange
unfolding magnitude
centimetres_beyond_the_limit = refl

metres : coordinate_of Metre (codes "0.0505") ≡ Ok (pos 50500)
unfolding magnitude
metres = refl

half_of_a_millionth_of_a_metre : coordinate_of Metre (codes "5e-7") ≡ Ok (pos 1)
unfolding magnitude
half_of_a_millionth_of_a_metre = refl

metres_rounded_to_the_limit : coordinate_of Metre (codes "128.0000004") ≡ Ok (pos COORDINATE_LIMIT)
unfolding magnitude
metres_rounded_to_the_limit = refl

metres_beyond_the_limit : coordinate_of Metre (codes "128.0000005") ≡ Err OutOfRange
unfolding magnitude
metres_beyond_the_limit = refl

zero_with_a_huge_exponent : coordinate_of Millimetre (codes "0e99999999999") ≡ Ok (pos 0)
zero_with_a_huge_exponent = ap (λ n. coordinate_or_fault (pos n)) (magnitude-zero (pos 100000000002))

one_with_a_huge_exponent : coordinate_of Millimetre (codes "1e99999999999") ≡ Err OutOfRange
one_with_a_huge_exponent = magnitude_far 1 100000000002 (lit≤ tt) (lit≤ tt)

zero_with_an_exponent_of_many_digits : coordinate_of Millimetre (codes "0e" ++ replicate 253 57) ≡ Ok (pos 0)
zero_with_an_exponent_of_many_digits = ap (λ n. coordinate_or_fault (pos n)) (magnitude-zero (pos (10 ^ 253 + 2)))

one_with_a_low_exponent_of_many_digits : coordinate_of Millimetre (codes "1e-" ++ replicate 252 57) ≡ Ok (pos 0)
one_with_a_low_exponent_of_many_digits = ap (λ n. coordinate_or_fault (pos n)) (magnitude-near 1 (10 ^ 252 - 5) (lit≤ tt) (lit≤ tt))

one_with_an_exponent_of_many_digits : coordinate_of Millimetre (codes "1e" ++ replicate 253 57) ≡ Err OutOfRange
one_with_an_exponent_of_many_digits = magnitude_far 1 (10 ^ 253 + 2) (lit≤ tt) (lit≤ tt)
