-- A plane that rises through a mesh: its height, and what a sweep keeps to go on from there.
use Rattle.std.specs.Prelude.{◌≡◌, ℕ, List, map, ℤ}
use Rattle.exact_int.specs.Bounds.{IsAtMost}
use Rattle.geometry.specs.Facet.{Facet}
use Rattle.geometry.specs.declared.limits.TheConstants.{CENTRE_LIMIT}
use Rattle.mesh_weld.specs.Solid.{top_of}
use Rattle.contour.specs.Active.{active_facets, reached_count}

-- the mesh, and the plane's height in half-micrometres
pub record Sweep : Type 0 where
  pub facets : List Facet
  pub height : ℤ

-- what a sweep keeps in addition to its mesh and height
pub record IsSwept (facets : List Facet) (height : ℤ) (passed : ℕ) (active : List ℕ) (tops : List ℤ) : Type 0 where
  pub within : IsAtMost CENTRE_LIMIT height
  pub passed_is : passed ≡ reached_count facets height
  pub active_is : active ≡ active_facets facets height
  pub tops_are : tops ≡ map (top_of facets) active
