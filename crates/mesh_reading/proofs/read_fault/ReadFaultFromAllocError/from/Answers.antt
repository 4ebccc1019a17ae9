use Rattle.std.proofs.Common.{refl}
use Rattle.mesh_reading.proofs.read_fault.ReadFaultFromAllocError.from.Goals as goal

pub returns : goal.returns
returns c = refl
