-- Turns by quarters, counterclockwise as seen from above.
use Rattle.std.specs.Prelude.{ℕ, neg_ℤ}
use Rattle.geometry.specs.Point.{Point}
use Rattle.part_on_screen.specs.declared.quarters.Quarters.{Quarters}
use Rattle.part_on_screen.specs.declared.quarters.Quarters.TheVariants.{Zero, One, Two, Three}

abbrev pub quarters : Quarters → ℕ
quarters Zero = 0
quarters One = 1
quarters Two = 2
quarters Three = 3

-- a point after a quarter turn: the x axis goes to the y axis, and that to the x axis backwards
abbrev pub quarter_turned : Point → Point
quarter_turned p = record { x = neg_ℤ p.y; y = p.x; z = p.z }

-- a point after so many quarters
abbrev pub turned : Quarters → Point → Point
turned Zero p = p
turned One p = quarter_turned p
turned Two p = quarter_turned (quarter_turned p)
turned Three p = quarter_turned (quarter_turned (quarter_turned p))
