-- The nodes of the segments of a mesh's loops are ordered: each is the node of an edge of a facet whose corners are
-- distinct.
use Rattle.std.proofs.Common.{◌≡◌, ◌≢◌, ℕ, zero, suc, ◌<◌, List, sym, subst, length, arith}
use Rattle.std.specs.Prelude.{ℤ, All}
use Rattle.std.proofs.lemmas.List.Elements.{All-from_recursion, All-weaker, recursion_from_All}
use Rattle.geometry.specs.Point.{origin}
use Rattle.geometry.specs.Facet.{Facet, facet_with}
use Rattle.mesh_weld.specs.EdgeNumbers.{edge_of}
use Rattle.mesh_weld.specs.Solid.{HaveDistinctCorners, facet_at}
use Rattle.mesh_weld.proofs.lemmas.Degenerate.{kept-distinct}
use Rattle.plane_segments.specs.Node.{Node}
use Rattle.plane_segments.specs.declared.segment.Segment.{Segment}
use Rattle.plane_segments.specs.Segment.{HasOrderedNodes, segments}
use Rattle.plane_segments.proofs.lemmas.NodeOrder.{ends_in, node_of-ordered}
use Rattle.contour.specs.Loops.{AreLoops, IsCycle}
use Rattle.contour.proofs.lemmas.Balanced.{node_at}
use Rattle.contour.proofs.lemmas.LoopLaws.{at_all, at_member}
use Rattle.contour.proofs.lemmas.Runs.{Runs, segments_run}
use Rattle.contour.proofs.lemmas.Unique.{cycle-has}

module _ (facets : List Facet) (distinct : HaveDistinctCorners facets) where
  apart : (n k : ℕ) → n < length facets → k < 3 → (edge_of facets n k).from ≢ (edge_of facets n k).to
  apart n zero l m = (kept-distinct (facet_at facets n) (distinct n (facet_with origin origin origin) l)).0
  apart n (suc zero) l m = (kept-distinct (facet_at facets n) (distinct n (facet_with origin origin origin) l)).1
  apart n (suc (suc zero)) l m = (kept-distinct (facet_at facets n) (distinct n (facet_with origin origin origin) l)).2
  apart n (suc (suc (suc k))) l m = absurd (omega (arith, m))

  node_at-ordered : (n k : ℕ) → n < length facets → k < 3 → (node_at facets n k).low < (node_at facets n k).high
  node_at-ordered n k l m = node_of-ordered facets (edge_of facets n k) (apart n k l m) (ends_in facets n k l m)

  runs-ordered : (z : ℤ) (s : Segment) → Runs facets z s → HasOrderedNodes s
  runs-ordered z s r = (
    subst (λ (m : Node). m.low < m.high) (sym r.from_is) (node_at-ordered s.facet r.down r.inside r.down_in),
    subst (λ (m : Node). m.low < m.high) (sym r.to_is) (node_at-ordered s.facet r.up r.inside r.up_in),
  )

  segments-ordered : (z : ℤ) → All HasOrderedNodes (segments facets z)
  segments-ordered z =
      All-weaker (Runs facets z) HasOrderedNodes (runs-ordered z) (segments facets z) (segments_run facets z)

-- a cycle of ordered segments
cycle-ordered : (list : List Segment) → All HasOrderedNodes list → (loop : List Segment) → IsCycle list loop → All HasOrderedNodes loop
cycle-ordered list ordered loop closes =
    All-from_recursion HasOrderedNodes loop
    (at_all HasOrderedNodes loop
    (λ s h. at_member HasOrderedNodes list s (recursion_from_All HasOrderedNodes list ordered) (cycle-has list loop s closes h)))

pub loops-ordered : (facets : List Facet) (list : List Segment) → (z : ℤ) × (list ≡ segments facets z) → HaveDistinctCorners facets
    → (found : List (List Segment)) → AreLoops list found → All (All HasOrderedNodes) found
loops-ordered facets list e distinct found h =
    All-weaker (IsCycle list) (All HasOrderedNodes)
    (cycle-ordered list (subst (All HasOrderedNodes) (sym e.1) (segments-ordered facets distinct e.0))) found
    (All-from_recursion (IsCycle list) found h.cycles)
