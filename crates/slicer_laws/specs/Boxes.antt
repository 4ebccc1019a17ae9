-- The mesh of a box, by its twelve facets, and its laws: which points it holds, so which rays and voxels it has.
use Rattle.std.specs.Prelude.{◌≡◌, ℕ, Bool, ◌&&◌, List, [], ◌∷◌, ◌++◌, ℤ, pos, ◌*ℤ◌, int_le, int_lt, if◌then◌else◌}
use Rattle.geometry.specs.BoundingBox.{IsBox}
use Rattle.geometry.specs.Point.{Point}
use Rattle.geometry.specs.Facet.{Facet, facet_with}
use Rattle.geometry.specs.Winding.{ray, ray_y}
use Rattle.mesh_weld.specs.Balance.{IsBalanced}
use Rattle.raster.specs.declared.rule.Rule.{Rule}
use Rattle.raster.specs.Grid.{Grid, centre}
use Rattle.raster.specs.Filler.{is_filled}

abbrev pub at : ℤ → ℤ → ℤ → Point
at x y z = record { x = x; y = y; z = z }

-- a quadrilateral in two facets, its corners counterclockwise as seen from outside
abbrev pub side : Point → Point → Point → Point → List Facet
side p q r s = facet_with p q r ∷ facet_with p r s ∷ []

-- at the low and at the high end of an axis
abbrev pub sides_x : Point → Point → List Facet
sides_x low high =
    side (at low.x low.y low.z) (at low.x low.y high.z) (at low.x high.y high.z) (at low.x high.y low.z)
    ++ side (at high.x low.y low.z) (at high.x high.y low.z) (at high.x high.y high.z) (at high.x low.y high.z)

abbrev pub sides_y : Point → Point → List Facet
sides_y low high =
    side (at low.x low.y low.z) (at high.x low.y low.z) (at high.x low.y high.z) (at low.x low.y high.z)
    ++ side (at low.x high.y low.z) (at low.x high.y high.z) (at high.x high.y high.z) (at high.x high.y low.z)

abbrev pub sides_z : Point → Point → List Facet
sides_z low high =
    side (at low.x low.y low.z) (at low.x high.y low.z) (at high.x high.y low.z) (at high.x low.y low.z)
    ++ side (at low.x low.y high.z) (at high.x low.y high.z) (at high.x high.y high.z) (at low.x high.y high.z)

-- the box between two corners, in micrometres, whose facets face outwards
abbrev pub box : Point → Point → List Facet
box low high = sides_x low high ++ sides_y low high ++ sides_z low high

-- m, in half-micrometres, is not below the low end and is below the high end, both in micrometres
abbrev pub is_from_to : ℤ → ℤ → ℤ → Bool
is_from_to low high m = int_le (pos 2 *ℤ low) m && int_lt m (pos 2 *ℤ high)

-- the box between two corners, in micrometres, holds c, in half-micrometres: its near faces are held, its far faces are not
abbrev pub holds : Point → Point → Point → Bool
holds low high c = is_from_to low.x high.x c.x && is_from_to low.y high.y c.y && is_from_to low.z high.z c.z

abbrev pub BoxesAreClosed : Type 0
BoxesAreClosed = (low high : Point) → IsBalanced (box low high)

abbrev pub BoxRays : Type 0
BoxRays = (low high c : Point) → IsBox low high → ray (box low high) c ≡ (if holds low high c then pos 1 else pos 0)

abbrev pub BoxRaysAlongY : Type 0
BoxRaysAlongY = (low high c : Point) → IsBox low high → ray_y (box low high) c ≡ (if holds low high c then pos 1 else pos 0)

-- by each rule a voxel of any grid is filled exactly if the box holds its centre
abbrev pub BoxesAreFilled : Type 0
BoxesAreFilled = (low high : Point) → IsBox low high → (g : Grid) (rule : Rule) (i j k : ℕ)
    → is_filled rule (box low high) (centre g i j k) ≡ holds low high (centre g i j k)
