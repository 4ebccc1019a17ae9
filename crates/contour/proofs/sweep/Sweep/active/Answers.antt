use Rattle.std.proofs.Common.{◌∙◌, ap}
use Rattle.contour.specs.Active.{active_facets}
use Rattle.contour.specs.Sweep.{Sweep}
use Rattle.contour.proofs.sweep.Sweep.active.Goals as goal

pub returns : goal.returns
returns g c =
    c.as_slice.ensures.value ∙ c.self.invariant.active_is ∙ ap (λ (v : Sweep). active_facets v.facets v.height) c.self.view_is
