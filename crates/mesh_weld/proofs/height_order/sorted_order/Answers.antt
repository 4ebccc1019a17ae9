use Rattle.std.proofs.Common.{◌^◌, ◌∙◌, ◌%◌, ap, length, map, sym, subst}
use Rattle.std.specs.List.{range_with_len}
use Rattle.std.proofs.lemmas.List.{length-map}
use Rattle.mesh_weld.specs.HeightOrder.{AreNumbersSorted}
use Rattle.mesh_weld.specs.Solid.{IsByHeight, height_range}
use Rattle.mesh_weld.proofs.lemmas.HeightOrder.{by_height, keys_by_ranges, numbers_within, tops_by_ranges}
use Rattle.mesh_weld.proofs.height_order.sorted_order.Given.{Over}
use Rattle.mesh_weld.proofs.height_order.sorted_order.Goals.{In_ok-order}
use Rattle.mesh_weld.proofs.height_order.sorted_order.Goals as goal

sorted : (g : Over) (c : In_ok-order g) → AreNumbersSorted c.in_ok-keys.keys.items c.in_ok-order.order.items
sorted g c = record {
  sorted = c.sort_heights.new.keys.items;
  permuted = c.sort_heights.ensures.permuted;
  ascends = c.sort_heights.ensures.ascending;
  numbers_are = c.in_ok-order.ensures ∙ ap (map (λ key. key % 2 ^ 32)) c.as_slice.ensures.value;
}

pub block_tops-requires : goal.block_tops-requires
block_tops-requires g c =
    rw c.as_slice-2.ensures.value
    (numbers_within c.in_ok-keys.keys.items c.in_ok-order.order.items (length c.args.ranges.now) c.in_ok-keys.ensures.numbers
    (sorted g (goal.at.block_tops-requires g c).In_ok-order))

pub returns : goal.returns
returns g c =
    let keys = c.in_ok-keys.keys.items in let ranges = c.args.ranges.now in let order = c.in_ok-order.order.items in
    let by = sorted g (goal.at.returns g c).In_ok-order in
    record {
      order_is = λ facets are.
          subst (IsByHeight facets) (sym by.numbers_are)
          (by_height facets keys by.sorted (c.in_ok-keys.ensures.numbers ∙ ap (range_with_len 0) (ap length are ∙ length-map facets height_range))
          (keys_by_ranges facets ranges keys are c.in_ok-keys.ensures.heights) by.permuted by.ascends);
      tops_are = λ facets are. tops_by_ranges facets ranges order c.in_ok-tops.tops.items are (rw c.as_slice-2.ensures.value at c.in_ok-tops.ensures);
    }
