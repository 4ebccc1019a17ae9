use Rattle.std.proofs.Common.{refl}
use Rattle.mesh_reading.proofs.read_fault.ReadFaultFromStlFault.from.Goals as goal

pub returns-in-Memory : goal.returns-in-Memory
returns-in-Memory c = ((λ _. refl), (λ other. absurd (other c.in-Memory.is)))
