-- A segment is where a plane cuts a facet. It runs from the node of the facet's downward edge to that of its upward edge.
-- Heights are in half-micrometres.
-- - `segments facets z`: the segments at the height z, in order of facets
use Rattle.std.specs.Prelude.{◌≢◌, ℕ, ◌<◌, zero, suc, Bool, List, Option, Some, None, filter_map, find, slice_index_or, ℤ, pos, ◌*ℤ◌, ◌==◌}
use Rattle.std.specs.List.{enumerate_from}
use Rattle.geometry.specs.TieRule.{rises_through}
use Rattle.geometry.specs.Point.{Point}
use Rattle.geometry.specs.Facet.{Facet, Edge, half_edges}
use Rattle.mesh_weld.specs.Solid.{vertices, number_of, facet_at}
use Rattle.plane_segments.specs.Node.{Node, between}
use Rattle.plane_segments.specs.declared.segment.Segment.{Segment}

-- the height of a point
abbrev pub height : Point → ℤ
height p = pos 2 *ℤ p.z

-- an edge that passes the height z upward
abbrev pub is_upward : ℤ → Edge → Bool
is_upward z e = rises_through (height e.from) (height e.to) z

-- an edge that passes the height z downward
abbrev pub is_downward : ℤ → Edge → Bool
is_downward z e = rises_through (height e.to) (height e.from) z

-- f of both, if there are both
abbrev pub both_of : {A B C : Type 0} → (A → B → C) → Option A → Option B → Option C
both_of f None b = None
both_of f (Some a) None = None
both_of f (Some a) (Some b) = Some (f a b)

-- the node of an edge of a mesh with these vertices
abbrev pub node_of : List Point → Edge → Node
node_of points e = between (number_of points e.from) (number_of points e.to)

-- the node of edge 0, 1 or 2 of a facet, by the numbers of its corners
abbrev pub edge_node : List ℕ → ℕ → Node
edge_node numbers zero = between (slice_index_or numbers 0 0) (slice_index_or numbers 1 0)
edge_node numbers (suc zero) = between (slice_index_or numbers 1 0) (slice_index_or numbers 2 0)
edge_node numbers (suc (suc n)) = between (slice_index_or numbers 2 0) (slice_index_or numbers 0 0)

-- three numbers, no two of them equal
abbrev pub AreThreeNumbers : List ℕ → Type 0
AreThreeNumbers numbers = (slice_index_or numbers 0 0 ≢ slice_index_or numbers 1 0)
    × (slice_index_or numbers 1 0 ≢ slice_index_or numbers 2 0) × (slice_index_or numbers 2 0 ≢ slice_index_or numbers 0 0)

-- the segment of a facet with its number, in a mesh with these vertices
abbrev pub segment_of : List Point → ℤ → ℕ × Facet → Option Segment
segment_of points z numbered =
    both_of (λ d u. record { facet = numbered.0; from = node_of points d; to = node_of points u })
    (find (is_downward z) (half_edges numbered.1))
    (find (is_upward z) (half_edges numbered.1))

-- the segments at the height z, in order of facets
abbrev pub segments : List Facet → ℤ → List Segment
segments facets z = filter_map (segment_of (vertices facets) z) (enumerate_from 0 facets)

-- the segment of the facet with a number
abbrev pub numbered_segment : List Facet → ℤ → ℕ → Option Segment
numbered_segment facets z n = segment_of (vertices facets) z (n, facet_at facets n)

-- the nodes of a segment are edges between two vertices, the lower number before the higher
abbrev pub HasOrderedNodes : Segment → Type 0
HasOrderedNodes s = (s.from.low < s.from.high) × (s.to.low < s.to.high)

-- what is read past the end of a list of segments
abbrev pub no_segment : Segment
no_segment = record { facet = 0; from = record { low = 0; high = 0 }; to = record { low = 0; high = 0 } }

-- at one height a facet has at most one segment
abbrev pub is_segment : Segment → Segment → Bool
is_segment s t = s.facet == t.facet
