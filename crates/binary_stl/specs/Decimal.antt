-- A number of a text and a number of single precision that have the same value.
use Rattle.std.specs.Prelude.{◌≡◌, ◌*◌, ◌^◌, ◌-ℤ◌, ℕ, ℤ, pos, negsuc, suc, length}
use Rattle.micro_num.specs.Numeral.{Numeral, fraction_digits, mantissa_digits}
use Rattle.micro_num.specs.Micrometres.{digits_value, exponent_value, with_sign}

-- m times ten to the power s is n / d
abbrev pub IsFraction : ℕ → ℤ → ℕ → ℕ → Type 0
IsFraction m (pos k) n d = m * 10 ^ k * d ≡ n
IsFraction m (negsuc k) n d = m * d ≡ n * 10 ^ suc k

-- the power of ten that the digits of a number are multiplied by
abbrev pub decimal_power : Numeral → ℤ
decimal_power n = exponent_value n.exponent -ℤ pos (length (fraction_digits n.fraction))

-- the number is z times 2 ^ -149
pub record IsDecimalOf (z : ℤ) (n : Numeral) : Type 0 where
  pub multiple : ℕ
  pub signed : z ≡ with_sign n.sign multiple
  pub same : IsFraction (digits_value (mantissa_digits n)) (decimal_power n) multiple (2 ^ 149)
