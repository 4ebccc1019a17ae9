use Rattle.std.proofs.Common.{refl}
use Rattle.mesh_reading.proofs.round.Round.new.Goals as goal

pub returns : goal.returns
returns g c = refl
