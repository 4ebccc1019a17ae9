use Rattle.std.proofs.Common.{take, ℤ, ◌≤ℤ◌}
use Rattle.std.specs.List.{All}
use Rattle.mesh_weld.specs.HeightOrder.{high_in}
use Rattle.mesh_weld.proofs.height_order.block_top.Given as goal

abbrev pub invariant-loop-number : goal.invariant-loop-number
invariant-loop-number l = record {
  within : All (λ n. high_in l.ranges n ≤ℤ l.top) (take l.number-index l.block);
  least : (z : ℤ) → All (λ n. high_in l.ranges n ≤ℤ z) l.block → l.top ≤ℤ z;
}
