use Rattle.std.proofs.Common.{sym, ◌∙◌}
use Rattle.geometry.proofs.lemmas.Boxes.{grown-box}
use Rattle.geometry.proofs.bounding_box.extent_with.Goals as goal

pub returns-in-Some : goal.returns-in-Some
returns-in-Some c = λ earlier is.
    grown-box earlier c.args.facets.now c.in-Some.corners.0 c.in-Some.corners.1 c.grown.result.0 c.grown.result.1 (sym c.in-Some.is ∙ is)
    c.grown.ensures.low c.grown.ensures.high
