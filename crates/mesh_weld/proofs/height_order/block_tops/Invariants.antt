use Rattle.std.proofs.Common.{ℤ, List, ◌<◌, ◌++◌, length}
use Rattle.std.specs.List.{All}
use Rattle.mesh_weld.specs.HeightOrder.{high_in}
use Rattle.mesh_weld.specs.Solid.{AreBlockTops}
use Rattle.mesh_weld.proofs.height_order.block_tops.Given as goal

abbrev pub invariant-loop-rest : goal.invariant-loop-rest
invariant-loop-rest g l = record {
  numbers : All (λ n. n < length l.ranges) l.rest;
  tops : (more : List ℤ) → AreBlockTops (high_in l.ranges) l.rest more → AreBlockTops (high_in l.ranges) l.order (l.tops.items ++ more);
}

abbrev pub decreases-loop-rest : goal.decreases-loop-rest
decreases-loop-rest g l = length l.rest
