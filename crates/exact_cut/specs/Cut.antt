-- Which edges of a facet pass a height.
use Rattle.std.specs.Prelude.{◌≡◌, ℕ, zero, suc, ◌<◌, ◌⊎◌, List, map, ℤ}
use Rattle.geometry.specs.TieRule.{IsBelow, IsAbove}
use Rattle.geometry.specs.Point.{Point}
use Rattle.geometry.specs.Facet.{Facet, corner, corners}
use Rattle.exact_cut.specs.declared.cut.Cut.{Cut}

-- edge 0 runs from a to b, edge 1 from b to c, edge 2 from c to a
abbrev pub start : Facet → ℕ → Point
start t e = corner t e

abbrev pub finish : Facet → ℕ → Point
finish t zero = t.b
finish t (suc zero) = t.c
finish t (suc (suc n)) = t.a

-- the edge between u and v passes the height z, and v is its upper end
pub record Rises (u v : Point) (z : ℤ) : Type 0 where
  pub low : IsBelow u.z z
  pub high : IsAbove v.z z

-- the heights of a facet's corners, in order
abbrev pub corner_heights : Facet → List ℤ
corner_heights t = map (λ p. p.z) (corners t)

-- some corner counts as below z and some corner is above it
pub record IsBetween (t : Facet) (z : ℤ) : Type 0 where
  pub some_below : IsBelow t.a.z z ⊎ IsBelow t.b.z z ⊎ IsBelow t.c.z z
  pub some_above : IsAbove t.a.z z ⊎ IsAbove t.b.z z ⊎ IsAbove t.c.z z

-- the one edge down and the one edge up
pub record IsCut (t : Facet) (z : ℤ) (c : Cut) : Type 0 where
  pub down_in : c.down < 3
  pub up_in : c.up < 3
  pub falls : Rises (finish t c.down) (start t c.down) z
  pub rises : Rises (start t c.up) (finish t c.up) z
  pub one_down : (e : ℕ) → e < 3 → Rises (finish t e) (start t e) z → e ≡ c.down
  pub one_up : (e : ℕ) → e < 3 → Rises (start t e) (finish t e) z → e ≡ c.up
