use Rattle.std.proofs.Common.{◌^◌, ◌≡◌, ◌%◌, map}
use Rattle.std.specs.List.{range_with_len}
use Rattle.mesh_weld.specs.HeightOrder.{AreKeysBy, low_in}
use Rattle.mesh_weld.proofs.height_order.list_keys.Given as goal

abbrev pub invariant-loop-at : goal.invariant-loop-at
invariant-loop-at g l =
    record {
      numbers : map (λ key. key % 2 ^ 32) l.keys.items ≡ range_with_len 0 l.at;
      heights : AreKeysBy (low_in l.ranges) l.keys.items;
    }
