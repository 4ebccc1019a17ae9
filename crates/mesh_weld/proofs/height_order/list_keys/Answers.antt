use Rattle.std.proofs.Common.{◌∙◌, ◌+ℤ◌, ℤ, ap, rules, w32}
use Rattle.std.proofs.lemmas.Int.{to_z-of_z}
use Rattle.mesh_weld.specs.HeightOrder.{low_in}
use Rattle.mesh_weld.specs.declared.height_order.HeightRange.{HeightRange}
use Rattle.mesh_weld.specs.declared.height_order.TheConstants.{HEIGHT_OFFSET}
use Rattle.mesh_weld.proofs.lemmas.HeightOrder.{keys_more}
use Rattle.mesh_weld.proofs.height_order.list_keys.Goals as goal

pub loop-at-preserved : goal.loop-at-preserved
loop-at-preserved g c =
    let at = c.loop-at in
    let more = keys_more (low_in c.args.ranges.now) at.keys.items at.at c.height_key.result at.invariant.numbers at.invariant.heights c.height_key.ensures.number
    (c.height_key.ensures.height
    ∙ ap (λ (z : ℤ). z +ℤ HEIGHT_OFFSET) (to_z-of_z w32 c.range_at.result.low (search rules) ∙ ap (λ (r : HeightRange). r.low) c.range_at.ensures)) in
    rw c.in_ok-push.ensures.items (record { numbers = more.0; heights = more.1 })
