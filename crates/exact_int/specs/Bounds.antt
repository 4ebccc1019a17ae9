-- Bounds on the magnitudes of whole numbers.
use Rattle.std.specs.Prelude.{ℕ, ℤ, unsigned_abs, ◌≤◌}

-- the magnitude of z is at most m
pub record IsAtMost (m : ℕ) (z : ℤ) : Type 0 where
  pub at_most : unsigned_abs z ≤ m
