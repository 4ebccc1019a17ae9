use Rattle.std.proofs.Common.{◌≡◌, ◌++◌, take, drop, map}
use Rattle.mesh_weld.specs.CornerIds.{ranks_of}
use Rattle.mesh_weld.proofs.numbering.renumber.Given as goal

abbrev pub invariant-loop-at : goal.invariant-loop-at
invariant-loop-at g l = l.ids.items ≡ map (ranks_of l.ranks) (take l.at l.fn.ids.items) ++ drop l.at l.fn.ids.items
