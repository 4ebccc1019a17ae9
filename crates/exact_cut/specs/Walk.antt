-- Crossings of one facet with rows that follow one another.
use Rattle.std.specs.Prelude.{◌≡◌, ℕ, List, ◌+◌, ◌-◌, ◌<◌, ◌≤◌, ◌&&◌, nat_lt, nat_le, if◌then◌else◌, length, slice_index, ℤ, pos}
use Rattle.geometry.specs.Facet.{Facet}
use Rattle.geometry.specs.Winding.{wind, hit}
use Rattle.exact_cut.specs.Column.{IsLeastColumn}
use Rattle.exact_cut.specs.Crossing.{Crosses, IsUnit}
use Rattle.exact_cut.specs.Lattice.{pixel, row_y}
use Rattle.exact_cut.specs.declared.dda.lattice.Lattice.{Lattice}

-- the first row, the facet's winding in all rows, and the column of each
pub record Walk : Type 0 where
  pub row : ℕ
  pub sign : ℤ
  pub columns : List ℕ

-- a facet is crossed in row j, and `column` is where: its rays hit from the columns before that one, and from no other
pub record IsCrossedAt (t : Facet) (z : ℤ) (l : Lattice) (sign : ℤ) (j column : ℕ) : Type 0 where
  pub num : ℤ
  pub den : ℤ
  pub crosses : Crosses t (row_y l j) z sign num den
  pub least : IsLeastColumn num den l.x2 l.step l.columns column
  pub ahead : (i : ℕ) → i < column → hit t (pixel l z i j) ≡ sign
  pub passed : (i : ℕ) → column ≤ i → i < l.columns → hit t (pixel l z i j) ≡ pos 0

-- the walk is all of a facet's crossings with the rows of the lattice at the height z
pub record IsWalkOf (t : Facet) (z : ℤ) (l : Lattice) (w : Walk) : Type 0 where
  pub some : 0 < length w.columns
  pub in_rows : w.row + length w.columns ≤ l.rows
  pub unit : IsUnit w.sign
  pub before : (j : ℕ) → j < w.row → wind t (row_y l j) z ≡ pos 0
  pub after : (j : ℕ) → w.row + length w.columns ≤ j → j < l.rows → wind t (row_y l j) z ≡ pos 0
  pub crossed : (n : ℕ) → n < length w.columns → IsCrossedAt t z l w.sign (w.row + n) (slice_index w.columns n)

-- how the ray from the pixel in column i and row j crosses a facet, by the facet's walk
abbrev pub walk_hit : Walk → ℕ → ℕ → ℤ
walk_hit w i j =
    if nat_le w.row j && nat_lt j (w.row + length w.columns) && nat_lt i (slice_index w.columns (j - w.row)) then w.sign else pos 0
