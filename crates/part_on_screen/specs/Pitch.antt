-- Whole numbers of micrometres that are whole numbers of sides of a pixel.
use Rattle.std.specs.Prelude.{◌≡◌, ◌≤◌, ◌*◌, ℕ}
use Rattle.part_on_screen.specs.declared.pixel_side.PixelSide.{PixelSide}

-- a side is some micrometres
pub record IsSide (side : PixelSide) : Type 0 where
  pub some : 1 ≤ side.numerator
  pub parts : 1 ≤ side.denominator

-- so many micrometres are so many sides of numerator / denominator micrometres
abbrev pub IsTimes : ℕ → PixelSide → ℕ → Type 0
IsTimes length side times = times * side.numerator ≡ length * side.denominator

-- so many micrometres are a whole number of sides
abbrev pub IsMultiple : ℕ → PixelSide → Type 0
IsMultiple length side = (times : ℕ) × IsTimes length side times

-- the least whole number of micrometres, above 0, that is a whole number of either side
pub record IsPitch (pitch : ℕ) (width depth : PixelSide) : Type 0 where
  pub some : 1 ≤ pitch
  pub of_width : IsMultiple pitch width
  pub of_depth : IsMultiple pitch depth
  pub least : (other : ℕ) → 1 ≤ other → IsMultiple other width → IsMultiple other depth → pitch ≤ other
