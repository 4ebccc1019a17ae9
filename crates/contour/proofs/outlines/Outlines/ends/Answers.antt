use Rattle.std.proofs.Common.{refl}
use Rattle.contour.proofs.lemmas.Parts.{parts-whole}
use Rattle.contour.proofs.outlines.Outlines.ends.Goals as goal

pub returns-clause-parts : goal.returns-clause-parts
returns-clause-parts g c =
    rw (← c.self.view_is)
    (rw (parts-whole c.self.inside.ends.items c.self.inside.points.items c.self.invariant, c.as_slice.ensures.value) refl)

pub returns-clause-ends : goal.returns-clause-ends
returns-clause-ends g c =
    rw (← c.self.view_is)
    (rw (parts-whole c.self.inside.ends.items c.self.inside.points.items c.self.invariant, c.as_slice.ensures.value) c.self.invariant)
