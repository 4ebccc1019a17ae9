-- The laws of two meshes that are sliced together: their rays, filled voxels and areas.
use Rattle.std.specs.Prelude.{◌≡◌, ℕ, ◌+◌, ◌<◌, false, ◌&&◌, ◌||◌, List, ◌++◌, pos, ◌+ℤ◌, ◌≤ℤ◌}
use Rattle.geometry.specs.Point.{Point}
use Rattle.geometry.specs.Facet.{Facet}
use Rattle.geometry.specs.Winding.{ray, ray_y}
use Rattle.raster.specs.declared.rule.Rule.{Rule}
use Rattle.raster.specs.declared.rule.Rule.TheVariants.{Positive}
use Rattle.raster.specs.Grid.{Grid, centre}
use Rattle.raster.specs.Filler.{area_of, is_filled}

abbrev pub RaysAdd : Type 0
RaysAdd = (a b : List Facet) (c : Point) → ray (a ++ b) c ≡ ray a c +ℤ ray b c

abbrev pub RaysAlongYAdd : Type 0
RaysAlongYAdd = (a b : List Facet) (c : Point) → ray_y (a ++ b) c ≡ ray_y a c +ℤ ray_y b c

-- if a voxel is not filled by both meshes, both together fill it exactly if one of them does
abbrev pub VoxelsJoin : Rule → Type 0
VoxelsJoin rule = (a b : List Facet) (c : Point) → (is_filled rule a c && is_filled rule b c) ≡ false
    → is_filled rule (a ++ b) c ≡ (is_filled rule a c || is_filled rule b c)

-- by `positive` the negative ray of one mesh takes from the other's, so neither may be negative
abbrev pub PositiveVoxelsJoin : Type 0
PositiveVoxelsJoin = (a b : List Facet) (c : Point) → pos 0 ≤ℤ ray a c → pos 0 ≤ℤ ray b c
    → (is_filled Positive a c && is_filled Positive b c) ≡ false
    → is_filled Positive (a ++ b) c ≡ (is_filled Positive a c || is_filled Positive b c)

-- no voxel of layer k is filled by both meshes
abbrev pub AreApart : Grid → Rule → ℕ → List Facet → List Facet → Type 0
AreApart g rule k a b = (i j : ℕ) → i < g.columns → j < g.rows
    → (is_filled rule a (centre g i j k) && is_filled rule b (centre g i j k)) ≡ false

-- no voxel of layer k has a negative ray
abbrev pub HasNoNegativeRay : Grid → ℕ → List Facet → Type 0
HasNoNegativeRay g k facets = (i j : ℕ) → i < g.columns → j < g.rows → pos 0 ≤ℤ ray facets (centre g i j k)

-- if no voxel is filled by both, the area of both together is the sum of their areas
abbrev pub AreasAdd : Rule → Type 0
AreasAdd rule = (g : Grid) (k : ℕ) (a b : List Facet) → AreApart g rule k a b
    → area_of g rule (a ++ b) k ≡ area_of g rule a k + area_of g rule b k

abbrev pub PositiveAreasAdd : Type 0
PositiveAreasAdd = (g : Grid) (k : ℕ) (a b : List Facet) → HasNoNegativeRay g k a → HasNoNegativeRay g k b
    → AreApart g Positive k a b
    → area_of g Positive (a ++ b) k ≡ area_of g Positive a k + area_of g Positive b k
