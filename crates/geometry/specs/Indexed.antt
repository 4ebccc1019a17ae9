-- A mesh as two tables: points by their coordinates, and triangles by the indices of their corners among the points.
use Rattle.std.specs.Prelude.{ℕ, ℤ, pos, List, [], map, slice_index, slice_index_or}
use Rattle.geometry.specs.Point.{Point}
use Rattle.geometry.specs.Facet.{Facet, facet_with}

-- the point of a list of three coordinates
abbrev pub point_from : List ℤ → Point
point_from coordinates = record {
  x = slice_index_or coordinates 0 (pos 0);
  y = slice_index_or coordinates 1 (pos 0);
  z = slice_index_or coordinates 2 (pos 0);
}

-- the point with this index
abbrev pub indexed_point : List (List ℤ) → ℕ → Point
indexed_point points index = point_from (slice_index_or points index [])

-- the facet of a triangle, by the indices of its three corners
abbrev pub indexed_facet : List (List ℤ) → List ℕ → Facet
indexed_facet points corners =
    facet_with (indexed_point points (slice_index corners 0)) (indexed_point points (slice_index corners 1)) (indexed_point points (slice_index corners 2))

-- the facets of triangles, in order
abbrev pub indexed_facets : List (List ℤ) → List (List ℕ) → List Facet
indexed_facets points triangles = map (indexed_facet points) triangles
