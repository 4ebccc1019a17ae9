use Rattle.std.proofs.Common.{subst, sym}
use Rattle.mesh_weld.specs.Balance.{IsBalanced}
use Rattle.layer_session.proofs.place.Place.solid.Goals as goal

pub returns-in-Ok-clause-closed : goal.returns-in-Ok-clause-closed
returns-in-Ok-clause-closed g c = subst IsBalanced c.in_ok-there.ensures.placed c.in-Ok.ensures.closed

pub returns-in-Err-clause-only : goal.returns-in-Err-clause-only
returns-in-Err-clause-only g c = λ reach closed.
    c.own_fault.ensures.memory (c.in-Err.ensures.only (subst IsBalanced (sym c.in_ok-there.ensures.placed) closed))
