-- The laws of the same facets in another order: rays, images and areas stay.
use Rattle.std.specs.Prelude.{◌≡◌, ℕ, List, IsPermutation}
use Rattle.geometry.specs.Point.{Point}
use Rattle.geometry.specs.Facet.{Facet}
use Rattle.geometry.specs.Winding.{ray, ray_y}
use Rattle.raster.specs.declared.rule.Rule.{Rule}
use Rattle.raster.specs.Grid.{Grid}
use Rattle.raster.specs.Filler.{area_of}
use Rattle.raster.specs.Image.{images}

abbrev pub RaysIgnoreOrder : Type 0
RaysIgnoreOrder = (facets others : List Facet) → IsPermutation facets others
    → (c : Point) → ray others c ≡ ray facets c

abbrev pub RaysAlongYIgnoreOrder : Type 0
RaysAlongYIgnoreOrder = (facets others : List Facet) → IsPermutation facets others
    → (c : Point) → ray_y others c ≡ ray_y facets c

abbrev pub ImagesIgnoreOrder : Type 0
ImagesIgnoreOrder = (facets others : List Facet) → IsPermutation facets others
    → (grid : Grid) (rule : Rule) → images grid rule others ≡ images grid rule facets

abbrev pub AreasIgnoreOrder : Type 0
AreasIgnoreOrder = (facets others : List Facet) → IsPermutation facets others
    → (grid : Grid) (rule : Rule) (k : ℕ) → area_of grid rule others k ≡ area_of grid rule facets k
