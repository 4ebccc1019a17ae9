use Rattle.std.proofs.Common.{take}
use Rattle.mesh_weld.specs.EdgeChains.{AreNumbered}
use Rattle.mesh_weld.specs.HalfEdge.{half_edges_from}
use Rattle.mesh_weld.proofs.by_hash.numbered_facets.FirstNumbers.number.Given as goal

abbrev pub invariant-loop-at : goal.invariant-loop-at
invariant-loop-at g l = AreNumbered (half_edges_from 0 (take l.at l.ids)) l.self.chains.heads.items l.self.chains.edges.items l.self.numbers.items
