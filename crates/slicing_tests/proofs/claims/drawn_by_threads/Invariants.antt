use Rattle.std.proofs.Common.{All, length, ℕ, Vec, Global}
use Rattle.stripe_claims.specs.Claims.{Pass}
use Rattle.stripe_claims.specs.Claims.{IsOwned}
use Rattle.slicing_tests.proofs.claims.drawn_by_threads.Given as goal

abbrev pub invariant-loop-pass : goal.invariant-loop-pass
invariant-loop-pass g l = record {
  left : All (λ (r : Pass × Vec ℕ Global). IsOwned l.claims r.0) l.done.items;
  back : All (IsOwned l.claims) l.back.items;
}

abbrev pub decreases-loop-pass : goal.decreases-loop-pass
decreases-loop-pass g l = length l.done.items
