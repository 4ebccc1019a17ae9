use Rattle.std.proofs.Common.{◌≡◌, ◌+◌, ◌<◌, ℕ, length, All}
use Rattle.stripe_claims.specs.Machine.{times}
use Rattle.stripe_claims.specs.Claims.{IsOwned, found_by_all}
use Rattle.stripe_claims.proofs.claims.Claims.gather.Given as goal

abbrev pub invariant-loop-pass : goal.invariant-loop-pass
invariant-loop-pass g l = record {
  table : l.all.table_id ≡ l.self.name;
  some : 0 < l.all.me.0.stands_for;
  parts : l.all.me.0.stands_for + length l.passes.items ≡ length l.fn.passes.items;
  each : (x : ℕ) → times x l.all.me.0.found + times x (found_by_all l.passes.items) ≡ times x (found_by_all l.fn.passes.items);
  long : length l.all.me.0.found + length (found_by_all l.passes.items) ≡ length (found_by_all l.fn.passes.items);
  owned : All (IsOwned l.self) l.passes.items;
}

abbrev pub decreases-loop-pass : goal.decreases-loop-pass
decreases-loop-pass g l = length l.passes.items
