use Rattle.stripe_claims.specs.Claims.{IsOwned}
use Rattle.slicing_tests.proofs.claims.draw_all.Given as goal

abbrev pub invariant-loop : goal.invariant-loop
invariant-loop l = IsOwned l.claims l.pass
