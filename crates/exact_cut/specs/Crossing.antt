-- The crossing of a facet by the line along x through a scanline.
use Rattle.std.specs.Prelude.{◌≡◌, ◌⊎◌, ◌↔◌, ℤ, pos, negsuc, ◌*ℤ◌, ◌<ℤ◌}
use Rattle.exact_int.specs.Bounds.{IsAtMost}
use Rattle.exact_cut.specs.Bounds.{denominator_limit, numerator_limit}
use Rattle.geometry.specs.Facet.{Facet}
use Rattle.geometry.specs.Winding.{wind, volume, normal_x}

-- the crossing of a facet by a line along x: at x = num / den, with this sign
pub record Crossing : Type 0 where
  pub sign : ℤ
  pub num : ℤ
  pub den : ℤ

-- 1 or -1
abbrev pub IsUnit : ℤ → Type 0
IsUnit s = (s ≡ pos 1) ⊎ (s ≡ negsuc 0)

-- the sign is 1 or -1, the denominator is above 0, and both numbers of the fraction are within their bounds
pub record IsCrossing (c : Crossing) : Type 0 where
  pub unit : IsUnit c.sign
  pub den_positive : pos 0 <ℤ c.den
  pub num_in : IsAtMost numerator_limit c.num
  pub den_in : IsAtMost denominator_limit c.den

-- a winding that is not 0: it is 1 or -1, and has the sign of the normal's x part
pub record Winding (t : Facet) (w : ℤ) : Type 0 where
  pub unit : IsUnit w
  pub normal : pos 0 <ℤ (w *ℤ normal_x t)

-- sign, numerator and denominator say where the facet is crossed
pub record Crosses (t : Facet) (y z sign num den : ℤ) : Type 0 where
  pub sign_is : sign ≡ wind t y z
  pub winding : Winding t (wind t y z)
  pub den_positive : pos 0 <ℤ den
  pub ahead_of : (x : ℤ) → ((x *ℤ den) <ℤ num) ↔ (pos 0 <ℤ (wind t y z *ℤ volume t (record { x = x; y = y; z = z })))
