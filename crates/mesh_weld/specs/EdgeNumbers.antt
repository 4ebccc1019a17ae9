-- The numbers of the edges of facets, one for both directions of an edge.
use Rattle.std.specs.Prelude.{◌≡◌, ◌↔◌, ℕ, ◌<◌, ◌⊎◌, List, [], length, slice_index, slice_index_or}
use Rattle.geometry.specs.Point.{origin}
use Rattle.geometry.specs.Facet.{Facet, Edge, edge, half_edges}
use Rattle.mesh_weld.specs.Solid.{facet_at}

-- the same two points, in either order
abbrev pub HaveSameEnds : Edge → Edge → Type 0
HaveSameEnds d e = ((d.from ≡ e.from) × (d.to ≡ e.to)) ⊎ ((d.from ≡ e.to) × (d.to ≡ e.from))

-- edge 0, 1 or 2 of a facet
abbrev pub edge_of : List Facet → ℕ → ℕ → Edge
edge_of facets facet index = slice_index_or (half_edges (facet_at facets facet)) index (edge origin origin)

-- the number of an edge of a facet
abbrev pub edge_number : List (List ℕ) → ℕ → ℕ → ℕ
edge_number numbers facet index = slice_index (slice_index_or numbers facet []) index

-- Each edge of each facet has a number below count, and each such number is some edge's. Two edges have one number exactly if
-- their ends are the same two points.
pub record AreEdgeNumbers (facets : List Facet) (numbers : List (List ℕ)) (count : ℕ) : Type 0 where
  pub each_facet : length numbers ≡ length facets
  pub below : (facet index : ℕ) → facet < length facets → index < 3 → edge_number numbers facet index < count
  pub used : (n : ℕ) → n < count
      → (facet : ℕ) × (index : ℕ) × (facet < length facets) × (index < 3) × (edge_number numbers facet index ≡ n)
  pub shared : (f s g t : ℕ) → f < length facets → s < 3 → g < length facets → t < 3
      → (edge_number numbers f s ≡ edge_number numbers g t) ↔ HaveSameEnds (edge_of facets f s) (edge_of facets g t)
