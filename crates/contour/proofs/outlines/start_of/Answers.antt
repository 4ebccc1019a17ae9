use Rattle.std.proofs.lemmas.Int.{to_z-of_z}
use Rattle.contour.proofs.lemmas.OutlinePoints.{start-none, start-some}
use Rattle.contour.proofs.outlines.start_of.Goals as goal

pub returns-in-Some : goal.returns-in-Some
returns-in-Some g c =
    let fits = c.ranges.z2 in
    start-some c.args.s.now.facets c.args.z2 c.args.segment.now c.facet.result c.in-Some.point c.facet.ensures.value
    (simp to_z-of_z at c.in-Some.ensures)

pub returns-in-None : goal.returns-in-None
returns-in-None g c =
    let fits = c.ranges.z2 in
    start-none c.args.s.now.facets c.args.z2 c.args.segment.now c.facet.result c.facet.ensures.value
    (simp to_z-of_z at c.in-None.ensures)
