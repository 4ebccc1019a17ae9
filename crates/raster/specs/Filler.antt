-- Which voxels are filled.
-- - `is_filled`: whether the voxel with this centre is filled
-- - `area_of`: the number of a layer's filled voxels
-- - `IsFillOf`: spans that are the filled pixels of a layer
-- - `AreSpansBelow`: spans that are the filled pixels of a layer's first rows, by the crossings of the rows
use Rattle.std.specs.Prelude.{◌≡◌, ◌<◌, ℕ, Bool, true, List, count_by, neg_ℤ, nat_lt, sum_by}
use Rattle.std.specs.List.{list_all, range_with_len}
use Rattle.raster.specs.declared.crossings.RowCrossing.{RowCrossing}
use Rattle.raster.specs.declared.rule.Rule.{Rule}
use Rattle.raster.specs.declared.span.Span.{Span}
use Rattle.geometry.specs.Point.{Point}
use Rattle.geometry.specs.Facet.{Facet}
use Rattle.geometry.specs.Winding.{neg_ray_back, ray}
use Rattle.raster.specs.Crossings.{row_passed}
use Rattle.raster.specs.Grid.{Grid, centre}
use Rattle.raster.specs.Rows.{are_within}
use Rattle.raster.specs.Rule.{is_inside}
use Rattle.raster.specs.Span.{AreSpans, are_apart, covers}

-- the signed crossings of the ray from this centre are inside by the rule
abbrev pub is_filled : Rule → List Facet → Point → Bool
is_filled rule facets c = is_inside rule (ray facets c)

-- the numbers below n
abbrev pub below : ℕ → List ℕ
below n = range_with_len 0 n

-- the number of voxels of layer k whose centre is filled
abbrev pub area_of : Grid → Rule → List Facet → ℕ → ℕ
area_of g rule facets k =
    sum_by (λ j. count_by (λ i. is_filled rule facets (centre g i j k)) (below g.columns)) (below g.rows)

-- the filled pixels of layer k
pub record IsFillOf (g : Grid) (rule : Rule) (facets : List Facet) (k : ℕ) (spans : List Span) : Type 0 where
  pub form : AreSpans g.columns g.rows spans
  -- a pixel lies in a span exactly if its voxel is filled
  pub filled : (i j : ℕ) → i < g.columns → j < g.rows → covers spans i j ≡ is_filled rule facets (centre g i j k)
  -- the same, by the crossings that do not lie ahead
  pub swept : (i j : ℕ) → i < g.columns → j < g.rows → covers spans i j ≡ is_inside rule (neg_ray_back facets (centre g i j k))

-- the spans of the rows below row `row`
pub record AreSpansBelow (rule : Rule) (columns row : ℕ) (crossings : List (List RowCrossing)) (spans : List Span) : Type 0 where
  pub rows : list_all (λ s. nat_lt s.row row) spans ≡ true
  pub apart : are_apart spans ≡ true
  pub within : are_within columns spans ≡ true
  pub filled : (i j : ℕ) → j < row → covers spans i j ≡ is_inside rule (neg_ℤ (row_passed crossings j i))
