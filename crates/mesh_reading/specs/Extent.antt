-- How many facets there are, and their bounding box.
use Rattle.std.specs.Prelude.{◌≡◌, ◌≤◌, List, length}
use Rattle.geometry.specs.Facet.{Facet}
use Rattle.geometry.specs.BoundingBox.{extent}
use Rattle.geometry.specs.declared.limits.TheConstants.{FACET_LIMIT}
use Rattle.mesh_reading.specs.declared.extent.Extent.{Extent}

abbrev pub extent_of : List Facet → Extent
extent_of facets = record { count = length facets; corners = extent facets }

-- the extent of these facets, if they are no more than a mesh may have
abbrev pub IsExtentOf : List Facet → Extent → Type 0
IsExtentOf facets extent = length facets ≤ FACET_LIMIT → extent ≡ extent_of facets
