use Rattle.std.proofs.Common.{length}
use Rattle.mesh_weld.specs.HalfEdge.{half_edges_from}
use Rattle.mesh_weld.proofs.lemmas.HalfEdges.{IsNumbered}
use Rattle.mesh_weld.proofs.by_sort.edges.number_sorted.Given as goal

abbrev pub invariant-loop-half_edge : goal.invariant-loop-half_edge
invariant-loop-half_edge g l =
    IsNumbered (length (half_edges_from 0 l.triples)) l.sorted l.half_edge-index l.numbers.items l.count l.last
