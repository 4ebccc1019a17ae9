use Rattle.geometry.specs.Facet.{corners}
use Rattle.std.specs.Prelude.{flat_map}
use Rattle.geometry.proofs.lemmas.Boxes.{box-holds, box-tight, first-corner}
use Rattle.geometry.proofs.bounding_box.extent.Goals as goal

pub returns-clause-holds : goal.returns-clause-holds
returns-clause-holds c =
    box-holds (flat_map corners c.args.facets.now) c.corner-start.result c.grown.result.0 c.grown.result.1 c.grown.ensures.low c.grown.ensures.high

pub returns-clause-tight : goal.returns-clause-tight
returns-clause-tight c =
    let facets = c.args.facets.now in
    let first = first-corner facets c.in_ok-first.field-0.now c.corner-start.result c.in_ok-first.ensures.value c.corner-start.ensures in
    box-tight (flat_map corners facets) c.corner-start.result c.grown.result.0 c.grown.result.1 c.grown.ensures.low c.grown.ensures.high first
