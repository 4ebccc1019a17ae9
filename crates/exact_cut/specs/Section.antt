-- The segment in which a height cuts a facet.
use Rattle.std.specs.Prelude.{ℤ, ◌+ℤ◌, ◌-ℤ◌, ◌*ℤ◌}
use Rattle.geometry.specs.Facet.{Facet}
use Rattle.exact_cut.specs.Cut.{IsCut, start, finish}
use Rattle.exact_cut.specs.CutPoint.{CutIs}
use Rattle.exact_cut.specs.declared.cut.Cut.{Cut}
use Rattle.exact_cut.specs.declared.scanline.section.Section.{Section}
use Rattle.exact_cut.specs.declared.scanline.cut_point.CutPoint.{CutPoint}

-- its ends are the cut points of the facet's edge down and of its edge up
pub record IsSection (t : Facet) (z : ℤ) (s : Section) : Type 0 where
  pub cut : Cut
  pub is_cut : IsCut t z cut
  pub down : CutIs (finish t cut.down) (start t cut.down) z s.down.x s.down.y s.down.d
  pub up : CutIs (start t cut.up) (finish t cut.up) z s.up.x s.up.y s.up.d

-- The line through two cut points crosses the scanline y at x = num_between / den_between. There x grows by slope_between /
-- den_between for each half-micrometre of y.
abbrev pub slope_between : CutPoint → CutPoint → ℤ
slope_between p q = q.x *ℤ p.d -ℤ p.x *ℤ q.d

abbrev pub num_between : CutPoint → CutPoint → ℤ → ℤ
num_between p q y = p.x *ℤ q.y -ℤ p.y *ℤ q.x +ℤ y *ℤ slope_between p q

abbrev pub den_between : CutPoint → CutPoint → ℤ
den_between p q = q.y *ℤ p.d -ℤ p.y *ℤ q.d
