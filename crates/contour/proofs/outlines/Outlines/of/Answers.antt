use Rattle.std.proofs.Common.{◌∙◌, ap, map, sym}
use Rattle.std.proofs.lemmas.Int.{to_z-of_z}
use Rattle.contour.specs.Loops.{parts_from}
use Rattle.contour.specs.Outlines.{outline, start_point}
use Rattle.contour.proofs.lemmas.OutlinePoints.{flat_within, parts-map}
use Rattle.contour.proofs.outlines.Outlines.of.Goals as goal

pub start_points-requires-clause-list : goal.start_points-requires-clause-list
start_points-requires-clause-list g c =
    rw c.as_slice.ensures.value
    (flat_within c.args.s.now.facets c.args.z2 c.in_ok-list.list.items c.in_ok-list.ends.items c.in_ok-list.ensures.ends
    (sym c.in_ok-list.ensures.parts ∙ c.requires.loops))

pub returns : goal.returns
returns g c =
    let fits = c.ranges.z2 in
    let ends = c.in_ok-list.ends.items in
    let list = c.in_ok-list.list.items in
    let point = start_point c.args.s.now.facets c.args.z2 in
    ap (parts_from 0 ends) ((simp to_z-of_z at c.in_ok-points.ensures) ∙ ap (map point) c.as_slice.ensures.value)
    ∙ parts-map point 0 ends list
    ∙ ap (map (outline c.args.s.now.facets c.args.z2)) (sym c.in_ok-list.ensures.parts ∙ c.requires.loops)
