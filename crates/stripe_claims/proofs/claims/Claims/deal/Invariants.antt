use Rattle.std.proofs.Common.{◌≡◌, ◌+◌, [], length, All}
use Rattle.stripe_claims.specs.Claims.{IsOwned, IsFresh, plan_of}
use Rattle.stripe_claims.proofs.claims.Claims.deal.Given as goal

abbrev pub invariant-loop : goal.invariant-loop
invariant-loop g l = record {
  table : l.rest.table_id ≡ l.self.name;
  home : l.rest.me.1 ≡ [];
  empty : l.rest.me.0.found ≡ [];
  left : l.rest.me.0.stands_for + l.counter ≡ l.passes;
  planned : l.rest.me.0.plan ≡ plan_of l.self;
  count : length l.dealt.items ≡ l.counter;
  owned : All (IsOwned l.self) l.dealt.items;
  fresh : All IsFresh l.dealt.items;
}
