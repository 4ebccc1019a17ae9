use Rattle.std.proofs.Common.{◌≡◌}
use Rattle.stripe_claims.specs.Claims.{IsOwned}
use Rattle.layer_pool.proofs.pool.run_worker.Given as goal

abbrev pub invariant-loop : goal.invariant-loop
invariant-loop g l = record { owned : IsOwned l.shared.claims.now l.pass; slicer : l.slicer ≡ l.shared.job.now }
