use Rattle.std.proofs.Common.{◌≡◌, length, arith}
use Rattle.contour.specs.Loops.{parts_from}
use Rattle.contour.proofs.lemmas.Parts.{length-parts}
use Rattle.contour.proofs.outlines.Outlines.count.Goals as goal

pub returns : goal.returns
returns g c =
    let counted : length (parts_from 0 c.self.inside.ends.items c.self.inside.points.items) ≡ length c.self.inside.ends.items =
    length-parts 0 c.self.inside.ends.items c.self.inside.points.items in
    rw (← c.self.view_is) (grind (arith, counted))
