-- The laws of a mesh turned inside out, so that each facet faces the other way: its rays change sign.
use Rattle.std.specs.Prelude.{◌≡◌, ℕ, List, map, neg_ℤ}
use Rattle.geometry.specs.Point.{Point}
use Rattle.geometry.specs.Facet.{Facet, facet_with}
use Rattle.geometry.specs.Winding.{ray, ray_y}
use Rattle.raster.specs.declared.rule.Rule.{Rule}
use Rattle.raster.specs.Grid.{Grid}
use Rattle.raster.specs.Filler.{area_of}
use Rattle.raster.specs.Image.{images}

-- two corners exchanged
abbrev pub turned : Facet → Facet
turned t = facet_with t.a t.c t.b

abbrev pub inside_out : List Facet → List Facet
inside_out facets = map turned facets

-- if a ray of the mesh leaves, the same ray of the turned mesh enters
abbrev pub RaysAreNegated : Type 0
RaysAreNegated = (facets : List Facet) (c : Point) → ray (inside_out facets) c ≡ neg_ℤ (ray facets c)

abbrev pub RaysAlongYAreNegated : Type 0
RaysAlongYAreNegated = (facets : List Facet) (c : Point) → ray_y (inside_out facets) c ≡ neg_ℤ (ray_y facets c)

-- by this rule both meshes have the same images and areas in every grid
abbrev pub KeepsImages : Rule → Type 0
KeepsImages rule = (grid : Grid) (facets : List Facet) → images grid rule (inside_out facets) ≡ images grid rule facets

abbrev pub KeepsAreas : Rule → Type 0
KeepsAreas rule = (grid : Grid) (facets : List Facet) (k : ℕ)
    → area_of grid rule (inside_out facets) k ≡ area_of grid rule facets k
