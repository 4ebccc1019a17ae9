use Rattle.std.proofs.Common.{◌∙◌, ap, arith, w64}
use Rattle.std.proofs.lemmas.Int.{fits_signed_from_abs, to_z-of_z}
use Rattle.contour.specs.Sweep.{Sweep}
use Rattle.contour.proofs.sweep.Sweep.height.Goals as goal

pub returns : goal.returns
returns g c =
    to_z-of_z w64 c.self.inside.height (fits_signed_from_abs w64 c.self.inside.height (omega (arith, c.self.invariant.within.at_most)))
    ∙ ap (λ (v : Sweep). v.height) c.self.view_is
