use Rattle.std.proofs.Common.{◌≡◌, ◌*◌, ◌++◌, drop, vec_len}
use Rattle.mesh_weld.specs.HalfEdge.{half_edges_from}
use Rattle.mesh_weld.proofs.by_sort.edges.list_half_edges.Given as goal

abbrev pub invariant-loop-triple : goal.invariant-loop-triple
invariant-loop-triple g l =
    record {
      so_far : l.list.items ++ half_edges_from (3 * l.triple-index) (drop l.triple-index l.triples) ≡ half_edges_from 0 l.triples;
      count : vec_len l.list ≡ 3 * l.triple-index;
    }
