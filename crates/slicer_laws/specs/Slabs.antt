-- The laws of a grid cut between two layers, into its first layers and those above: images, planes and areas stay.
use Rattle.std.specs.Prelude.{◌≡◌, ◌↔◌, ℕ, ◌+◌, ◌-◌, ◌*◌, ◌≤◌, ◌<◌, List, ◌++◌, pos, ◌≤ℤ◌}
use Rattle.geometry.specs.Point.{Point}
use Rattle.geometry.specs.Facet.{Facet}
use Rattle.geometry.specs.declared.limits.TheConstants.{COORDINATE_LIMIT}
use Rattle.raster.specs.declared.rule.Rule.{Rule}
use Rattle.raster.specs.Grid.{Grid, IsGrid, grid_with, plane}
use Rattle.raster.specs.Filler.{area_of}
use Rattle.raster.specs.Image.{images}
use Rattle.slicer_laws.specs.Moves.{moved}

-- the way straight up, by this many micrometres
abbrev pub upward : ℕ → Point
upward height = record { x = pos 0; y = pos 0; z = pos height }

abbrev pub first_layers : ℕ → Grid → Grid
first_layers m g = grid_with g.origin g.pitch g.layer_height g.columns g.rows m

-- the layers from the m-th on: the origin lies m layers higher
abbrev pub layers_from : ℕ → Grid → Grid
layers_from m g =
    grid_with (moved (upward (m * g.layer_height)) g.origin) g.pitch g.layer_height g.columns g.rows (g.layers - m)

-- the images of both parts are those of the whole
abbrev pub SlabsJoin : Type 0
SlabsJoin = (g : Grid) (rule : Rule) (facets : List Facet) (m : ℕ) → m ≤ g.layers
    → images g rule facets ≡ images (first_layers m g) rule facets ++ images (layers_from m g) rule facets

-- layer k of the upper part is layer m + k of the whole, so it has its plane and its area
abbrev pub PlanesStay : Type 0
PlanesStay = (g : Grid) (m k : ℕ) → plane (layers_from m g) k ≡ plane g (m + k)

abbrev pub UpperAreasStay : Type 0
UpperAreasStay = (g : Grid) (rule : Rule) (facets : List Facet) (m k : ℕ)
    → area_of (layers_from m g) rule facets k ≡ area_of g rule facets (m + k)

abbrev pub LowerAreasStay : Type 0
LowerAreasStay = (g : Grid) (rule : Rule) (facets : List Facet) (m k : ℕ)
    → area_of (first_layers m g) rule facets k ≡ area_of g rule facets k

-- a grid that is cut within leaves two grids, unless the upper part's origin lies above the limit of coordinates
abbrev pub LowerPartsAreGrids : Type 0
LowerPartsAreGrids = (g : Grid) (m : ℕ) → IsGrid g → 1 ≤ m → m < g.layers → IsGrid (first_layers m g)

abbrev pub UpperPartsAreGrids : Type 0
UpperPartsAreGrids = (g : Grid) (m : ℕ) → IsGrid g → 1 ≤ m → m < g.layers
    → IsGrid (layers_from m g) ↔ ((layers_from m g).origin.z ≤ℤ pos COORDINATE_LIMIT)
