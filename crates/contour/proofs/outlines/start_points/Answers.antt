use Rattle.std.proofs.Common.{◌∙◌, ◌++◌, ◌∷◌, [], ap, map, of_z, sym, take, to_z, w64}
use Rattle.std.proofs.lemmas.Int.{to_z-of_z}
use Rattle.std.proofs.lemmas.List.{map_more, take_all}
use Rattle.plane_segments.specs.declared.segment.Segment.{Segment}
use Rattle.exact_cut.specs.declared.plane_point.PlanePoint.{PlanePoint}
use Rattle.contour.specs.Outlines.{start_point}
use Rattle.contour.proofs.lemmas.Links.{in-facets}
use Rattle.contour.proofs.outlines.start_points.Goals as goal

pub loop-segment-init : goal.loop-segment-init
loop-segment-init g c = c.in_ok-points.ensures.items

pub start_of-requires-clause-facet : goal.start_of-requires-clause-facet
start_of-requires-clause-facet g c =
    in-facets c.args.s.now.facets c.args.list.now c.loop-segment.segment-index c.segment-item.result c.requires.list c.loop-segment-test.true c.segment-item.is

pub loop-segment-preserved : goal.loop-segment-preserved
loop-segment-preserved g c =
    let i = c.loop-segment.segment-index in
    let f : Segment → PlanePoint = start_point c.args.s.now.facets (to_z w64 (of_z w64 c.args.z2)) in
    c.in_ok-push.ensures.items
    ∙ ap (λ ps. ps ++ c.start_of.result ∷ []) c.loop-segment.invariant
    ∙ ap (λ p. map f (take i c.args.list.now) ++ p ∷ []) c.start_of.ensures
    ∙ ap (λ s. map f (take i c.args.list.now) ++ f s ∷ []) c.segment-item.is
    ∙ sym (map_more f c.args.list.now i c.segment-item.result c.loop-segment-test.true)

pub returns : goal.returns
returns g c =
    c.loop-segment.invariant
    ∙ ap (λ z. map (start_point c.args.s.now.facets z) (take c.loop-segment.segment-index c.args.list.now)) (to_z-of_z w64 c.args.z2 c.ranges.z2)
    ∙ ap (map (start_point c.args.s.now.facets c.args.z2)) (take_all c.loop-segment.segment-index c.args.list.now c.loop-segment-test.false)
