use Rattle.std.proofs.Common.{All, length, ◌≤◌}
use Rattle.stripe_claims.specs.Claims.{IsOwned}
use Rattle.stripe_claims.specs.declared.limits.TheConstants.{PASS_LIMIT}
use Rattle.layer_pool.proofs.pool.fn.run_workers.scope.Given as goal

abbrev pub invariant-loop-pass : goal.invariant-loop-pass
invariant-loop-pass g l = record { owned : All (IsOwned l.shared.now.claims.now) l.passes.items; count : length l.passes.items ≤ PASS_LIMIT }

abbrev pub decreases-loop-pass : goal.decreases-loop-pass
decreases-loop-pass g l = length l.passes.items
