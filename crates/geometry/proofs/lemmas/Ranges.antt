-- The lesser and the greater of two numbers in range are in range.
use Rattle.std.proofs.Common.{ℕ, Bool, true, false, cond}
use Rattle.std.specs.Prelude.{ℤ, int_lt}
use Rattle.std.specs.Int.{int_min, int_max}
use Rattle.exact_int.specs.Bounds.{IsAtMost}

either : (b : Bool) (m : ℕ) (x y : ℤ) → IsAtMost m x → IsAtMost m y → IsAtMost m (cond b x y)
either true m x y at_x at_y = at_x
either false m x y at_x at_y = at_y

pub min-within : (m : ℕ) (x y : ℤ) → IsAtMost m x → IsAtMost m y → IsAtMost m (int_min x y)
min-within m x y at_x at_y = either (int_lt y x) m y x at_y at_x

pub max-within : (m : ℕ) (x y : ℤ) → IsAtMost m x → IsAtMost m y → IsAtMost m (int_max x y)
max-within m x y at_x at_y = either (int_lt y x) m x y at_x at_y
