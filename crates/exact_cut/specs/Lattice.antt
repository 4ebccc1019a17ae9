-- The pixel centres of a layer.
use Rattle.std.specs.Prelude.{◌≡◌, ℕ, ◌<◌, ℤ, pos}
use Rattle.geometry.specs.Point.{Point}
use Rattle.geometry.specs.Facet.{Facet}
use Rattle.geometry.specs.Winding.{wind}
use Rattle.exact_cut.specs.Column.{centre_x}
use Rattle.exact_cut.specs.declared.dda.lattice.Lattice.{Lattice}

-- the y of row j, in half-micrometres
abbrev pub row_y : Lattice → ℕ → ℤ
row_y l j = centre_x l.y2 l.step j

-- the centre of the pixel in column i and row j, at the height z
abbrev pub pixel : Lattice → ℤ → ℕ → ℕ → Point
pixel l z i j = record { x = centre_x l.x2 l.step i; y = row_y l j; z = z }

-- no row of the lattice is crossed
abbrev pub IsUncrossed : Facet → ℤ → Lattice → Type 0
IsUncrossed t z l = (j : ℕ) → j < l.rows → wind t (row_y l j) z ≡ pos 0
