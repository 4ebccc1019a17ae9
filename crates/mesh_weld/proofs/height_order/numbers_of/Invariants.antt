use Rattle.std.proofs.Common.{◌^◌, ◌≡◌, ◌%◌, map, take}
use Rattle.mesh_weld.proofs.height_order.numbers_of.Given as goal

abbrev pub invariant-loop-key : goal.invariant-loop-key
invariant-loop-key g l = l.numbers.items ≡ map (λ key. key % 2 ^ 32) (take l.key-index l.keys)
