use Rattle.std.proofs.Common.{◌∙◌, ap, take}
use Rattle.mesh_reading.proofs.round.Round.bytes.Goals as goal

pub returns : goal.returns
returns g c = c.split_at.ensures.front ∙ ap (take c.self.inside.len) c.deref.ensures.value ∙ ap (λ r. r.bytes) c.self.view_is
