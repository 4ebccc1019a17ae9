-- What holds of the segments of every plane: how a line crosses the facets of a loop, and that a closed mesh has loops. They
-- are one list, their nodes are ordered, and their outlines lie where the plane cuts edges.
use Rattle.std.specs.Prelude.{◌≡◌, All, List, Some, ℤ, pos}
use Rattle.geometry.specs.Facet.{Facet, twice}
use Rattle.geometry.specs.Winding.{total, wind}
use Rattle.mesh_weld.specs.Balance.{IsBalanced}
use Rattle.mesh_weld.specs.Solid.{HaveDistinctCorners}
use Rattle.plane_segments.specs.declared.segment.Segment.{Segment}
use Rattle.plane_segments.specs.Segment.{HasOrderedNodes, segments}
use Rattle.contour.specs.Loops.{AreLoops, IsCycle, follower, loop_facets, loops}
use Rattle.contour.specs.Outlines.{IsStartOf, end_point, start_point}

-- a line along x in the plane crosses the facets of a closed cycle upward as often as downward: their windings sum up to 0
abbrev pub CycleWindsCancel : Type 0
CycleWindsCancel = (facets : List Facet) (loop : List Segment) (y z : ℤ) → IsCycle (segments facets z) loop
    → total (λ t. wind (twice t) y z) (loop_facets facets loop) ≡ pos 0

-- the segments of a closed mesh at a height have loops
abbrev pub ClosedMeshesHaveLoops : Type 0
ClosedMeshesHaveLoops = (facets : List Facet) (z : ℤ) → IsBalanced facets → AreLoops (segments facets z) (loops (segments facets z))

-- two lists that are the loops of the segments at a height are equal
abbrev pub LoopsAreOne : Type 0
LoopsAreOne = (facets : List Facet) (z : ℤ) (a b : List (List Segment)) → AreLoops (segments facets z) a → AreLoops (segments facets z) b → a ≡ b

-- in loops of facets with distinct corners each node is an edge between two vertices, the lower number before the higher
abbrev pub NodesAreOrdered : Type 0
NodesAreOrdered = (facets : List Facet) (z : ℤ) (found : List (List Segment)) → HaveDistinctCorners facets → AreLoops (segments facets z) found
    → All (All HasOrderedNodes) found

-- a segment starts where the plane cuts an edge, up to the rounding to the nearest half-micrometre
abbrev pub StartsAreCuts : Type 0
StartsAreCuts = (facets : List Facet) (z : ℤ) → All (λ t. IsStartOf facets z t (start_point facets z t)) (segments facets z)

-- a segment ends where its follower starts
abbrev pub OutlinesJoin : Type 0
OutlinesJoin = (facets : List Facet) (z : ℤ)
    → All (λ s. (t : Segment) → follower (segments facets z) s ≡ Some t → end_point facets z s ≡ start_point facets z t) (segments facets z)
