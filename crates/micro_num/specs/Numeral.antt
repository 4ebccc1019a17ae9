-- The grammar of a number. It is an optional sign, then at least one digit and at most one point among, before or after the
-- digits, then an optional exponent. An exponent is `e` or `E`, an optional sign, and at least one digit.
-- - `Numeral`, `numeral_text`: a number by its parts, and how it is written
-- - `IsNumeral`: the parts are those of a number
-- - `numeral_of`: the parts of a word, if it is a number
use Rattle.std.specs.Prelude.{◌≡◌, ℕ, ◌≤◌, Bool, true, ◌&&◌, ◌||◌, List, [], ◌∷◌, ◌++◌, length, drop, Option, Some, None, ◌==◌, nat_lt, if◌then◌else◌}
use Rattle.std.specs.Char.{is_ascii_digit}
use Rattle.std.specs.List.{list_all, before_first, position_or_len}
use Rattle.micro_num.specs.declared.limits.TheConstants.{WORD_LIMIT}

pub data Sign : Type 0 where
  unsigned : Sign
  plus : Sign
  minus : Sign

-- a mark (`e` or `E`), a sign or none, and digits
pub record Exponent : Type 0 where
  pub mark : ℕ
  pub sign : Sign
  pub digits : List ℕ

-- the digits before the point; those after it, if there is a point; the exponent, if there is one
pub record Numeral : Type 0 where
  pub sign : Sign
  pub whole : List ℕ
  pub fraction : Option (List ℕ)
  pub exponent : Option Exponent

-- `e` or `E`
abbrev pub is_exponent_mark : ℕ → Bool
is_exponent_mark byte = byte == 69 || byte == 101

abbrev pub is_point : ℕ → Bool
is_point byte = byte == 46

abbrev pub sign_text : Sign → List ℕ
sign_text unsigned = []
sign_text plus = 43 ∷ []
sign_text minus = 45 ∷ []

abbrev pub fraction_text : Option (List ℕ) → List ℕ
fraction_text None = []
fraction_text (Some digits) = 46 ∷ digits

abbrev pub exponent_text : Option Exponent → List ℕ
exponent_text None = []
exponent_text (Some e) = e.mark ∷ sign_text e.sign ++ e.digits

-- how a number is written
abbrev pub numeral_text : Numeral → List ℕ
numeral_text n = sign_text n.sign ++ n.whole ++ fraction_text n.fraction ++ exponent_text n.exponent

-- the digits after the point, none if there is no point
abbrev pub fraction_digits : Option (List ℕ) → List ℕ
fraction_digits None = []
fraction_digits (Some digits) = digits

-- all digits of the mantissa, as if there were no point
abbrev pub mantissa_digits : Numeral → List ℕ
mantissa_digits n = n.whole ++ fraction_digits n.fraction

-- at least one digit, and digits only
abbrev pub are_digits : List ℕ → Bool
are_digits ds = nat_lt 0 (length ds) && list_all is_ascii_digit ds

-- there is no exponent, or its mark and its digits are right
abbrev pub is_exponent : Option Exponent → Bool
is_exponent None = true
is_exponent (Some e) = is_exponent_mark e.mark && are_digits e.digits

-- the parts are those of a number
abbrev pub IsNumeral : Numeral → Type 0
IsNumeral n = (are_digits (mantissa_digits n) ≡ true) × (is_exponent n.exponent ≡ true)

-- a word that is a number and no longer than the limit
abbrev pub IsSpelled : List ℕ → Type 0
IsSpelled word = (length word ≤ WORD_LIMIT) × (n : Numeral) × IsNumeral n × (word ≡ numeral_text n)

-- The parts of a word: it is cut at its first `e` or `E`, and the text before that is cut at its first point.

-- the sign, by the first byte: `+`, `-` or another
abbrev pub sign_of : List ℕ → Sign
sign_of [] = unsigned
sign_of (byte ∷ rest) = if byte == 43 then plus else (if byte == 45 then minus else unsigned)

-- what stands behind the sign, or all if there is none
abbrev pub after_sign : List ℕ → List ℕ
after_sign [] = []
after_sign (byte ∷ rest) = if byte == 43 || byte == 45 then rest else byte ∷ rest

-- the bytes from the first one that passes the test to the end
abbrev pub from_first : (ℕ → Bool) → List ℕ → List ℕ
from_first test bytes = drop (position_or_len test bytes) bytes

-- the digits after a point
abbrev pub fraction_of : List ℕ → Option (List ℕ)
fraction_of [] = None
fraction_of (point ∷ digits) = Some digits

-- the exponent after its mark
abbrev pub exponent_of : List ℕ → Option Exponent
exponent_of [] = None
exponent_of (mark ∷ rest) = Some (record { mark = mark; sign = sign_of rest; digits = after_sign rest })

-- sign, whole part, fraction and exponent of a word
abbrev pub parts_of : List ℕ → Numeral
parts_of word =
    let unsigned_part : List ℕ = after_sign word in
    let mantissa : List ℕ = before_first is_exponent_mark unsigned_part in
    record {
      sign = sign_of word;
      whole = before_first is_point mantissa;
      fraction = fraction_of (from_first is_point mantissa);
      exponent = exponent_of (from_first is_exponent_mark unsigned_part);
    }

-- the parts of a word, if it is a number
abbrev pub numeral_of : List ℕ → Option Numeral
numeral_of word =
    let n : Numeral = parts_of word in
    if are_digits (mantissa_digits n) && is_exponent n.exponent then Some n else None
