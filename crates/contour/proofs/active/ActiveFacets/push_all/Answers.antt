use Rattle.std.proofs.Common.{arith, rules, to_z, of_z, w32}
use Rattle.std.proofs.lemmas.Int.{to_z-of_z}
use Rattle.contour.proofs.lemmas.Pushes.{pushed_tops, pushed_numbers}
use Rattle.contour.proofs.active.ActiveFacets.push_all.Goals as goal

pub loop-n-preserved : goal.loop-n-preserved
loop-n-preserved g c =
    let top = c.height_range.result.high in
    record {
      numbers = grind (arith, pushed_numbers, c.in_ok-push.ensures.numbers);
      tops = pushed_tops c.args.s.now.facets c.args.self.now.tops.items c.loop-n.self.tops.items c.push.new.self.tops.items c.args.numbers.now c.loop-n.n-index
          top (to_z w32 (of_z w32 top)) c.loop-n-test.true c.loop-n.invariant.tops c.in_ok-push.ensures.tops (to_z-of_z w32 top (search rules)) c.height_range.ensures.high;
    }
