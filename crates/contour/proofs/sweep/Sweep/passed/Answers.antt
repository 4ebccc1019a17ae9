use Rattle.std.proofs.Common.{◌∙◌, ap}
use Rattle.contour.specs.Active.{reached_count}
use Rattle.contour.specs.Sweep.{Sweep}
use Rattle.contour.proofs.sweep.Sweep.passed.Goals as goal

pub returns : goal.returns
returns g c = c.self.invariant.passed_is ∙ ap (λ (v : Sweep). reached_count v.facets v.height) c.self.view_is
