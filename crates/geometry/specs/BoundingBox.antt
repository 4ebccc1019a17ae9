-- Bounding boxes: the least and the greatest x, y and z of some points, or of the corners of facets.
-- - `Bounds`: a bounding box by its two corners
-- - `extent`: the bounding box of facets as calls return it: a pair, the low corner first
-- - `IsBox`: which two points are the corners of a box
use Rattle.std.specs.Prelude.{List, [], ◌∷◌, Option, Some, None, Contains, flat_map, fold, map, option_map, ◌≤ℤ◌}
use Rattle.std.specs.Int.{int_min, int_max}
use Rattle.geometry.specs.Point.{Point}
use Rattle.geometry.specs.Facet.{Facet, corners}

-- the least of both in each coordinate
abbrev pub least_of : Point → Point → Point
least_of p q = record { x = int_min p.x q.x; y = int_min p.y q.y; z = int_min p.z q.z }

-- the greatest of both in each coordinate
abbrev pub greatest_of : Point → Point → Point
greatest_of p q = record { x = int_max p.x q.x; y = int_max p.y q.y; z = int_max p.z q.z }

-- a bounding box by its low and its high corner
pub record Bounds : Type 0 where
  pub low : Point
  pub high : Point

-- the bounding box of points
abbrev pub bounds_of : List Point → Option Bounds
bounds_of [] = None
bounds_of (p ∷ ps) = Some (record { low = fold least_of p ps; high = fold greatest_of p ps })

-- the bounding box of facets; none if there are no facets
abbrev pub bounds : List Facet → Option Bounds
bounds facets = bounds_of (flat_map corners facets)

-- a bounding box as calls return it: its low corner, then its high corner
abbrev pub corner_pair : Bounds → Point × Point
corner_pair b = (b.low, b.high)

-- the bounding box of facets as calls return it; none if there are no facets
abbrev pub extent : List Facet → Option (Point × Point)
extent facets = option_map corner_pair (bounds facets)

-- no coordinate of the first is above the second's
pub record IsBox (low high : Point) : Type 0 where
  pub x : low.x ≤ℤ high.x
  pub y : low.y ≤ℤ high.y
  pub z : low.z ≤ℤ high.z

-- p lies in the bounding box from low to high
pub record IsInBox (low high p : Point) : Type 0 where
  pub x_in : (low.x ≤ℤ p.x) × (p.x ≤ℤ high.x)
  pub y_in : (low.y ≤ℤ p.y) × (p.y ≤ℤ high.y)
  pub z_in : (low.z ≤ℤ p.z) × (p.z ≤ℤ high.z)

-- each of the bounding box's six coordinates is that of one of the points, so no smaller box holds them all
pub record IsTight (low high : Point) (ps : List Point) : Type 0 where
  pub low_x : Contains (map (λ (p : Point). p.x) ps) low.x
  pub low_y : Contains (map (λ (p : Point). p.y) ps) low.y
  pub low_z : Contains (map (λ (p : Point). p.z) ps) low.z
  pub high_x : Contains (map (λ (p : Point). p.x) ps) high.x
  pub high_y : Contains (map (λ (p : Point). p.y) ps) high.y
  pub high_z : Contains (map (λ (p : Point). p.z) ps) high.z
