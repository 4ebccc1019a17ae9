use Rattle.std.proofs.Common.{slice_set, ap}
use Rattle.stlslice_c.proofs.given.close.Goals as goal

pub returns-then-mesh-ne0-clause-answered : goal.returns-then-mesh-ne0-clause-answered
returns-then-mesh-ne0-clause-answered c x e = (c.close_handle.new.handle, ap (λ zs. slice_set zs 0 c.close_handle.new.handle) e, c.close_handle.ensures)
