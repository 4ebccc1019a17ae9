use Rattle.std.proofs.Common.{◌≡◌, ◌≤◌, ◌*◌, take}
use Rattle.mesh_weld.specs.Balance.{half_edge_count}
use Rattle.mesh_weld.proofs.facets.count_edges.Given as goal

abbrev pub invariant-loop-facet : goal.invariant-loop-facet
invariant-loop-facet l =
    record {
      count : l.count ≡ half_edge_count (take l.facet-index l.facets) l.from l.to;
      limit : l.count ≤ 3 * l.facet-index;
    }
