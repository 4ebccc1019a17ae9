use Rattle.std.proofs.Common.{arith, ◌+◌}
use Rattle.geometry.specs.Facet.{twice}
use Rattle.geometry.specs.Winding.{hit}
use Rattle.mesh_weld.proofs.lemmas.Probing.{Summed, facet_more}
use Rattle.mesh_weld.proofs.probing.crossings.Goals as goal

pub loop-number-preserved : goal.loop-number-preserved
loop-number-preserved g c =
    let few = c.count-number-end.ensures.few in
    let count = c.count-number-end.ensures.count in
    let below = c.loop-number-test.true in
    let next : Summed (λ t. hit (twice t) c.args.centre.now) c.args.solid.now.facets (c.loop-number.number + 1) _ =
    facet_more (λ t. hit (twice t) c.args.centre.now) c.args.solid.now.facets c.loop-number.number c.facet.result _ c.ray_hit-sum.result
    (omega arith) c.facet.ensures.value (record { sum_is = c.loop-number.invariant.sum_is; small = c.loop-number.invariant.small })
    c.ray_hit-sum.ensures.value c.ray_hit-sum.ensures.unit in
    record { sum_is = next.sum_is; small = next.small }
