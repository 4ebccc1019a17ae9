use Rattle.std.proofs.Common.{rules}
use Rattle.mesh_weld.proofs.height_order.lowest.Goals as goal

pub returns : goal.returns
returns c = search rules
