use Rattle.mesh_weld.proofs.lemmas.HalfEdges.{IsCounted}
use Rattle.mesh_weld.proofs.by_sort.edges.least_uneven.Given as goal

abbrev pub invariant-loop-half_edge : goal.invariant-loop-half_edge
invariant-loop-half_edge l = IsCounted l.sorted l.half_edge-index l.run
