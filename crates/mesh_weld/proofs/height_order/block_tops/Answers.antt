use Rattle.std.proofs.Common.{ℕ, List, [], ◌<◌, ◌++◌, ◌∷◌, ◌∙◌, ap, length, sym, subst, arith, rules, w32}
use Rattle.std.proofs.lemmas.Int.{to_z-of_z}
use Rattle.std.specs.List.{All}
use Rattle.std.proofs.lemmas.List.{length-drop, length-take}
use Rattle.std.proofs.lemmas.List.Elements.{All-drop, All-take}
use Rattle.mesh_weld.specs.HeightOrder.{high_in}
use Rattle.mesh_weld.specs.Solid.{AreBlockTops}
use Rattle.mesh_weld.specs.declared.height_order.TheConstants.{BLOCK_LEN}
use Rattle.mesh_weld.proofs.lemmas.HeightOrder.{tops_end, tops_more}
use Rattle.mesh_weld.proofs.height_order.block_tops.Goals as goal

pub loop-rest-init : goal.loop-rest-init
loop-rest-init g c = record {
  numbers = c.requires;
  tops = λ more h. subst (λ ts. AreBlockTops (high_in c.args.ranges.now) c.args.order.now (ts ++ more)) (sym c.in_ok-tops.ensures.items) h;
}

pub block_top-requires-clause-some : goal.block_top-requires-clause-some
block_top-requires-clause-some g c = rw c.split_block.ensures.block (omega (arith, length-take BLOCK_LEN c.loop-rest.rest.now, c.loop-rest-test.true))

pub block_top-requires-clause-numbers : goal.block_top-requires-clause-numbers
block_top-requires-clause-numbers g c =
    subst (λ (ns : List ℕ). All (λ n. n < length c.args.ranges.now) ns) (sym c.split_block.ensures.block)
    (All-take (λ n. n < length c.args.ranges.now) BLOCK_LEN c.loop-rest.rest.now c.loop-rest.invariant.numbers)

pub loop-rest-smaller : goal.loop-rest-smaller
loop-rest-smaller g c = rw c.split_block.ensures.behind (omega (arith, length-drop BLOCK_LEN c.loop-rest.rest.now, c.loop-rest-test.true))

pub loop-rest-preserved : goal.loop-rest-preserved
loop-rest-preserved g c =
    let at = c.loop-rest in
    record {
      numbers = subst (λ (ns : List ℕ). All (λ n. n < length c.args.ranges.now) ns) (sym c.split_block.ensures.behind)
          (All-drop (λ n. n < length c.args.ranges.now) BLOCK_LEN at.rest.now at.invariant.numbers);
      tops = tops_more (high_in c.args.ranges.now) c.args.order.now at.rest.now c.split_block.result.0.now c.split_block.result.1.now at.tops.items c.push.new.self.items c.block_top.result
          c.split_block.ensures.block c.split_block.ensures.behind c.block_top.ensures
          (c.in_ok-push.ensures.items ∙ ap (λ y. at.tops.items ++ y ∷ []) (to_z-of_z w32 c.block_top.result (search rules))) at.invariant.tops;
    }

pub returns : goal.returns
returns g c =
    tops_end (high_in c.args.ranges.now) c.args.order.now c.loop-rest.rest.now c.loop-rest.tops.items (omega (arith, c.loop-rest-test.false)) c.loop-rest.invariant.tops
