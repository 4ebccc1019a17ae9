-- The points at which edges pass a plane, to the nearest half-micrometre.
-- - `IsNearest`: what rounding is
-- - `nearest`: the rounded number
use Rattle.std.specs.Prelude.{◌≡◌, ℤ, pos, ◌+ℤ◌, ◌-ℤ◌, ◌*ℤ◌, ◌≤ℤ◌, ◌<ℤ◌}
use Rattle.std.specs.Int.{int_div_euclid}
use Rattle.geometry.specs.Point.{Point}
use Rattle.geometry.specs.Facet.{Facet}
use Rattle.exact_cut.specs.Cut.{IsCut, start, finish}
use Rattle.exact_cut.specs.CutPoint.{cut_x, cut_y, cut_d}
use Rattle.exact_cut.specs.declared.cut.Cut.{Cut}
use Rattle.exact_cut.specs.declared.plane_point.PlanePoint.{PlanePoint}

-- n is at most a half from num / den, and less than a half below it: the greater of two that are equally near
pub record IsNearest (num den n : ℤ) : Type 0 where
  pub not_below : (pos 2 *ℤ num) <ℤ ((pos 2 *ℤ n +ℤ pos 1) *ℤ den)
  pub not_above : ((pos 2 *ℤ n -ℤ pos 1) *ℤ den) ≤ℤ (pos 2 *ℤ num)

-- num / den as the nearest whole number, halves upward: num / den and a half, rounded down
abbrev pub nearest : ℤ → ℤ → ℤ
nearest num den = int_div_euclid (pos 2 *ℤ num +ℤ den) (pos 2 *ℤ den)

-- the point at which the edge from `low` up to `high` passes the height z
abbrev pub passing_point : Point → Point → ℤ → PlanePoint
passing_point low high z = record {
  x2 = nearest (cut_x low high z) (cut_d low high);
  y2 = nearest (cut_y low high z) (cut_d low high);
}

-- the point at which the facet's edge down passes the height z
pub record IsStart (t : Facet) (z : ℤ) (p : PlanePoint) : Type 0 where
  pub cut : Cut
  pub is_cut : IsCut t z cut
  pub point : p ≡ passing_point (finish t cut.down) (start t cut.down) z
