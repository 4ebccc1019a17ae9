use Rattle.std.proofs.Common.{◌∙◌, ap, arith, refl, sym}
use Rattle.std.proofs.lemmas.List.{take_all}
use Rattle.std.specs.Prelude.{slice_get}
use Rattle.plane_segments.specs.declared.segment.Segment.{Segment}
use Rattle.contour.proofs.lemmas.Links.{in-facets}
use Rattle.contour.proofs.lemmas.LoopRays.{IsLoopOf, is_loop, segment_more, summed_all}
use Rattle.contour.proofs.lemmas.LoopWinds.{ray_from_back}
use Rattle.contour.proofs.loop_list.loop_ray.Goals as goal

pub prove-unreachable-requires : goal.prove-unreachable-requires
prove-unreachable-requires g c =
    let is : IsLoopOf c.args.s.now.facets c.args.list.now =
    is_loop c.args.s.now.facets c.args.c.now.z c.args.list.now c.requires.0 c.requires.1 in
    let few = is.few in
    omega arith

pub facet-requires : goal.facet-requires
facet-requires g c =
    let is : IsLoopOf c.args.s.now.facets c.args.list.now =
    is_loop c.args.s.now.facets c.args.c.now.z c.args.list.now c.requires.0 c.requires.1 in
    let below = c.loop-segment-test.true in
    in-facets c.args.s.now.facets c.args.list.now c.loop-segment.segment-index c.segment-item.result is.within (omega arith) c.segment-item.is

pub loop-segment-init : goal.loop-segment-init
loop-segment-init g c = record { sum_is = refl; small = record { at_most = omega arith } }

pub loop-segment-preserved : goal.loop-segment-preserved
loop-segment-preserved g c =
    let is : IsLoopOf c.args.s.now.facets c.args.list.now =
    is_loop c.args.s.now.facets c.args.c.now.z c.args.list.now c.requires.0 c.requires.1 in
    let few = is.few in
    let many = c.count-facets.ensures.few in
    let below = c.loop-segment-test.true in
    segment_more c.args.s.now.facets c.args.c.now c.args.list.now c.loop-segment.segment-index c.segment-item.result c.facet.result _ c.ray_hit-sum.result
    (omega arith) (omega arith) (sym (ap (λ (s : Segment). slice_get c.args.s.now.facets s.facet) c.segment-item.is) ∙ c.facet.ensures.value)
    (record { sum_is = c.loop-segment.invariant.sum_is; small = c.loop-segment.invariant.small })
    c.ray_hit-sum.ensures.value c.ray_hit-sum.ensures.unit

pub returns-clause-ahead : goal.returns-clause-ahead
returns-clause-ahead g c =
    let all = take_all c.loop-segment.segment-index c.args.list.now (omega (arith, c.loop-segment-test.false)) in
    summed_all c.args.s.now.facets c.args.c.now c.args.list.now c.loop-segment.segment-index _ all
    (record { sum_is = c.loop-segment.invariant.sum_is; small = c.loop-segment.invariant.small })

pub returns-clause-back : goal.returns-clause-back
returns-clause-back g c =
    let numbered = c.edge_numbers-numbers.ensures in
    returns-clause-ahead g c
    ∙ sym (ray_from_back c.args.s.now.facets c.edge_numbers-numbers.result.now numbered.0 numbered.1 c.count-facets.ensures.closed
    c.args.c.now c.args.list.now c.requires.0 c.requires.1)
