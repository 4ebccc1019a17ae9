use Rattle.std.proofs.Common.{◌≡◌, take}
use Rattle.mesh_weld.specs.Solid.{facets_by}
use Rattle.mesh_weld.proofs.facets.list_facets.Given as goal

abbrev pub invariant-loop-own : goal.invariant-loop-own
invariant-loop-own g l = l.facets.items ≡ facets_by l.points (take l.own-index l.numbers)
