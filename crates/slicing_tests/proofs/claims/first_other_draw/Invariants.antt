use Rattle.std.proofs.Common.{All}
use Rattle.stripe_claims.specs.Claims.{IsOwned}
use Rattle.slicing_tests.proofs.claims.first_other_draw.Given as goal

abbrev pub invariant-loop-n : goal.invariant-loop-n
invariant-loop-n l = All (IsOwned l.claims) l.passes.items
