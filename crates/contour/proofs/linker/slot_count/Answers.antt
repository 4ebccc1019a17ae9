use Rattle.std.proofs.Common.{◌≤◌, length, arith}
use Rattle.plane_segments.proofs.lemmas.FacetOrder.{segments_few}
use Rattle.contour.proofs.linker.slot_count.Goals as goal

pub returns-clause-count : goal.returns-clause-count
returns-clause-count g c =
    let few : length c.args.list.now ≤ length c.args.s.now.facets = segments_few c.args.s.now.facets c.args.list.now c.requires in
    grind (arith, few)
