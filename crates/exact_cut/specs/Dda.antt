-- Positions that grow by one increment a step, as whole units less a remainder.
use Rattle.std.specs.Prelude.{◌≡◌, ℕ, zero, suc, ◌≤◌, ◌+◌, ◌*◌, List, [], ◌∷◌, ℤ, pos, ◌+ℤ◌, ◌-ℤ◌, ◌*ℤ◌, ◌≤ℤ◌, ◌<ℤ◌, unsigned_abs, int_lt, if◌then◌else◌}
use Rattle.exact_int.specs.Bounds.{IsAtMost}
use Rattle.exact_cut.specs.Bounds.{increment_limit, step_limit, unit_limit, whole_limit}
use Rattle.exact_cut.specs.Column.{clamp}
use Rattle.exact_cut.specs.Crossing.{IsUnit}
use Rattle.exact_cut.specs.declared.dda.Division.{Division}
use Rattle.exact_cut.specs.declared.dda.Dda.{Dda}
use Rattle.geometry.specs.declared.limits.TheConstants.{COLUMN_LIMIT}

-- n over the unit: the quotient is rounded up; the remainder is quotient * unit less n, which is below one unit
pub record IsDivisionOf (n unit : ℤ) (d : Division) : Type 0 where
  pub value : n ≡ d.quotient *ℤ unit -ℤ d.remainder
  pub not_negative : pos 0 ≤ℤ d.remainder
  pub below : d.remainder <ℤ unit

-- both remainders are less than a unit
pub record IsDda (d : Dda) : Type 0 where
  pub unit_in : IsAtMost unit_limit d.unit
  pub increment_in : IsAtMost increment_limit d.increment
  pub not_negative : pos 0 ≤ℤ d.remainder
  pub below : d.remainder <ℤ d.unit
  pub increment_not_negative : pos 0 ≤ℤ d.increment_remainder
  pub increment_below : d.increment_remainder <ℤ d.unit

abbrev pub position_of : Dda → ℤ
position_of d = d.whole *ℤ d.unit -ℤ d.remainder

abbrev pub increment_of : Dda → ℤ
increment_of d = d.increment *ℤ d.unit -ℤ d.increment_remainder

-- one step on
abbrev pub next : Dda → Dda
next d =
    if int_lt (d.remainder +ℤ d.increment_remainder) d.unit
    then record {
      unit = d.unit;
      whole = d.whole +ℤ d.increment;
      remainder = d.remainder +ℤ d.increment_remainder;
      increment = d.increment;
      increment_remainder = d.increment_remainder;
    }
    else record {
      unit = d.unit;
      whole = d.whole +ℤ d.increment -ℤ pos 1;
      remainder = d.remainder +ℤ d.increment_remainder -ℤ d.unit;
      increment = d.increment;
      increment_remainder = d.increment_remainder;
    }

-- the columns at this number of steps
abbrev pub columns_along : ℕ → ℕ → Dda → List ℕ
columns_along zero count d = []
columns_along (suc n) count d = clamp d.whole count ∷ columns_along n count (next d)

-- what holds of a walk that has this number of rows left: its sign is 1 or -1, and each of its positions fits its type
pub record IsOnRows (row left : ℕ) (sign : ℤ) (d : Dda) : Type 0 where
  pub unit : IsUnit sign
  pub dda : IsDda d
  pub rows_in : row + left ≤ COLUMN_LIMIT
  pub whole_in : unsigned_abs d.whole + step_limit * left ≤ whole_limit
