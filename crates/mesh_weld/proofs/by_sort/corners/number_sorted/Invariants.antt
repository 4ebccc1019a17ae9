use Rattle.std.specs.List.{flat_map}
use Rattle.geometry.specs.Facet.{corners}
use Rattle.mesh_weld.proofs.lemmas.Points.{IsJoined}
use Rattle.mesh_weld.proofs.by_sort.corners.number_sorted.Given as goal

abbrev pub invariant-loop-corner : goal.invariant-loop-corner
invariant-loop-corner g l =
    IsJoined (flat_map corners l.facets) l.sorted l.corner-index l.points.items l.numbers.items
