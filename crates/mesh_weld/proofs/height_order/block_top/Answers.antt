use Rattle.std.proofs.Common.{◌≡◌, ◌≤ℤ◌, ◌+◌, ◌∙◌, ℤ, ap, sym, subst, get_or, take, arith, rules, to_z, of_z, w32}
use Rattle.std.specs.List.{All}
use Rattle.std.proofs.lemmas.Int.{to_z-of_z}
use Rattle.mesh_weld.specs.HeightOrder.{high_in}
use Rattle.mesh_weld.specs.declared.height_order.HeightRange.{HeightRange}
use Rattle.mesh_weld.proofs.lemmas.HeightOrder.{top_least, top_more, top_whole}
use Rattle.mesh_weld.proofs.height_order.block_top.Goals as goal

pub range_at-range-requires : goal.range_at-range-requires
range_at-range-requires c = c.requires.numbers c.loop-number.number-index 0 c.loop-number-test.true

pub loop-number-init : goal.loop-number-init
loop-number-init c = record {
  within = λ k d l. absurd (omega (arith, l));
  least = λ z all.
      subst (λ (y : ℤ). y ≤ℤ z) (sym (to_z-of_z w32 c.range_at-first.result.high (search rules) ∙ ap (λ (r : HeightRange). r.high) c.range_at-first.ensures)) (all 0 0 c.requires.some);
}

pub loop-number-preserved : goal.loop-number-preserved
loop-number-preserved c =
    let at = c.loop-number in let ranges = c.args.ranges.now in let block = c.args.block.now in
    let is : to_z w32 (of_z w32 c.range_at-range.result.high) ≡ high_in ranges (get_or block at.number-index 0) =
    to_z-of_z w32 c.range_at-range.result.high (search rules) ∙ ap (λ (r : HeightRange). r.high) c.range_at-range.ensures in
    let same : to_z w32 (of_z w32 c.max-top.result) ≡ c.max-top.result = to_z-of_z w32 c.max-top.result (search rules) in
    record {
      within = subst (λ (y : ℤ). All (λ n. high_in ranges n ≤ℤ y) (take (at.number-index + 1) block)) (sym same)
          (top_more (high_in ranges) block at.number-index _ _ c.max-top.result c.loop-number-test.true at.invariant.within is c.max-top.ensures.value);
      least = λ z all. subst (λ (y : ℤ). y ≤ℤ z) (sym same)
          (top_least (high_in ranges) block at.number-index _ _ c.max-top.result z c.loop-number-test.true (at.invariant.least z all) is c.max-top.ensures.value all);
    }

pub returns : goal.returns
returns c = record {
  within = top_whole (high_in c.args.ranges.now) _ c.args.block.now c.loop-number.number-index c.loop-number-test.false c.loop-number.invariant.within;
  least = c.loop-number.invariant.least;
}
