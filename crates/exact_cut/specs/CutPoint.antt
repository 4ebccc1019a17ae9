-- The point at which an edge passes a height, as a fraction.
use Rattle.std.specs.Prelude.{◌≡◌, ℤ, ◌+ℤ◌, ◌-ℤ◌, ◌*ℤ◌}
use Rattle.geometry.specs.Point.{Point}

-- the cut point of the edge from `low` up to `high` is (cut_x / cut_d, cut_y / cut_d)
abbrev pub cut_x : Point → Point → ℤ → ℤ
cut_x low high z = low.x *ℤ (high.z -ℤ z) +ℤ high.x *ℤ (z -ℤ low.z)

abbrev pub cut_y : Point → Point → ℤ → ℤ
cut_y low high z = low.y *ℤ (high.z -ℤ z) +ℤ high.y *ℤ (z -ℤ low.z)

abbrev pub cut_d : Point → Point → ℤ
cut_d low high = high.z -ℤ low.z

-- x, y and d are those of the cut point of the edge from `low` up to `high`
pub record CutIs (low high : Point) (z x y d : ℤ) : Type 0 where
  pub x_is : x ≡ cut_x low high z
  pub y_is : y ≡ cut_y low high z
  pub d_is : d ≡ cut_d low high
