-- Which column a crossing falls into, and which row is the first that is not before a cut point.
use Rattle.std.specs.Prelude.{ℕ, nat_lt, if◌then◌else◌, negsuc, ◌<◌, ◌≤◌, ℤ, pos, ◌+ℤ◌, ◌*ℤ◌, ◌≤ℤ◌, ◌<ℤ◌}

-- the centre of column i, or of row i, in half-micrometres: `step` is in micrometres
abbrev pub centre_x : ℤ → ℕ → ℕ → ℤ
centre_x first step i = first +ℤ pos 2 *ℤ pos step *ℤ pos i

-- i is the least column whose centre is not left of num / den, or the count of columns if there is none
pub record IsLeastColumn (num den first : ℤ) (step columns i : ℕ) : Type 0 where
  pub in_row : i ≤ columns
  pub not_left : i < columns → num ≤ℤ (centre_x first step i *ℤ den)
  pub before_left : (k : ℕ) → k < i → (centre_x first step k *ℤ den) <ℤ num

-- i is the least row whose centre is not before num / den, or the count of rows if there is none
abbrev pub IsLeastRow : ℤ → ℤ → ℤ → ℕ → ℕ → ℕ → Type 0
IsLeastRow = IsLeastColumn

-- the number from 0 to `count` that is nearest to i
abbrev pub clamp : ℤ → ℕ → ℕ
clamp (pos i) count = if nat_lt i count then i else count
clamp (negsuc i) count = 0
