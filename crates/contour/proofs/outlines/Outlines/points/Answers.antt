use Rattle.std.proofs.Common.{◌∙◌, sym}
use Rattle.contour.proofs.lemmas.Parts.{parts-whole}
use Rattle.contour.proofs.outlines.Outlines.points.Goals as goal

pub returns : goal.returns
returns g c =
    rw (← c.self.view_is)
    (c.as_slice.ensures.value ∙ sym (parts-whole c.self.inside.ends.items c.self.inside.points.items c.self.invariant))
