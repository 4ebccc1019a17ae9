use Rattle.std.proofs.Common.{ap, ◌∙◌}
use Rattle.raster.proofs.pbm.page.Page.into_bytes.Goals as goal

pub returns : goal.returns
returns g c = c.truncate.ensures.items ∙ ap (λ v. v.bytes) c.self.view_is
