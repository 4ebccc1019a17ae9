use Rattle.std.proofs.Common.{◌≡◌, ◌++◌, take}
use Rattle.geometry.specs.Indexed.{indexed_facets}
use Rattle.test_meshes.proofs.meshes.push_facets.Given as goal

abbrev pub invariant-loop-numbers : goal.invariant-loop-numbers
invariant-loop-numbers g l =
    l.list.items ≡ l.initial.list.items ++ indexed_facets l.corners (take l.numbers-index l.facets)
