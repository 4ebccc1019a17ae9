use Rattle.std.proofs.Common.{◌≡◌, ◌*◌, ◌++◌, drop}
use Rattle.mesh_weld.specs.Numbering.{threes}
use Rattle.mesh_weld.proofs.by_sort.corners.in_threes.Given as goal

abbrev pub invariant-loop-group : goal.invariant-loop-group
invariant-loop-group g l = l.list.items ++ threes (drop (3 * l.group) l.numbers) ≡ threes l.numbers
