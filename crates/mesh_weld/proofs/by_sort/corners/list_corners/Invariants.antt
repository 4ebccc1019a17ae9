use Rattle.std.proofs.Common.{◌≡◌, ◌*◌, ◌++◌, drop, vec_len}
use Rattle.mesh_weld.specs.Corners.{corners_from}
use Rattle.mesh_weld.proofs.by_sort.corners.list_corners.Given as goal

abbrev pub invariant-loop-facet : goal.invariant-loop-facet
invariant-loop-facet g l =
    record {
      so_far : l.list.items ++ corners_from (3 * l.facet-index) (drop l.facet-index l.facets) ≡ corners_from 0 l.facets;
      count : vec_len l.list ≡ 3 * l.facet-index;
    }
