-- The laws of a mesh and a grid that are moved together, by whole micrometres: rays, images and areas stay.
use Rattle.std.specs.Prelude.{◌≡◌, ℕ, List, map, ◌+ℤ◌}
use Rattle.geometry.specs.Point.{Point, half_micrometres_of}
use Rattle.geometry.specs.Facet.{Facet, facet_with}
use Rattle.geometry.specs.Winding.{ray, ray_y}
use Rattle.raster.specs.declared.rule.Rule.{Rule}
use Rattle.raster.specs.Grid.{Grid, grid_with}
use Rattle.raster.specs.Filler.{area_of}
use Rattle.raster.specs.Image.{images}

abbrev pub moved : Point → Point → Point
moved by p = record { x = p.x +ℤ by.x; y = p.y +ℤ by.y; z = p.z +ℤ by.z }

abbrev pub moved_facet : Point → Facet → Facet
moved_facet by t = facet_with (moved by t.a) (moved by t.b) (moved by t.c)

abbrev pub moved_mesh : Point → List Facet → List Facet
moved_mesh by facets = map (moved_facet by) facets

abbrev pub moved_grid : Point → Grid → Grid
moved_grid by g = grid_with (moved by g.origin) g.pitch g.layer_height g.columns g.rows g.layers

-- a centre is in half-micrometres, so it moves by twice as many of them
abbrev pub RaysMoveAlong : Type 0
RaysMoveAlong = (by : Point) (facets : List Facet) (c : Point)
    → ray (moved_mesh by facets) (moved (half_micrometres_of by) c) ≡ ray facets c

abbrev pub RaysAlongYMoveAlong : Type 0
RaysAlongYMoveAlong = (by : Point) (facets : List Facet) (c : Point)
    → ray_y (moved_mesh by facets) (moved (half_micrometres_of by) c) ≡ ray_y facets c

abbrev pub ImagesMoveAlong : Type 0
ImagesMoveAlong = (by : Point) (g : Grid) (rule : Rule) (facets : List Facet)
    → images (moved_grid by g) rule (moved_mesh by facets) ≡ images g rule facets

abbrev pub AreasMoveAlong : Type 0
AreasMoveAlong = (by : Point) (g : Grid) (rule : Rule) (facets : List Facet) (k : ℕ)
    → area_of (moved_grid by g) rule (moved_mesh by facets) k ≡ area_of g rule facets k
