use Rattle.std.proofs.Common.{ℕ, Vec, Global}
use Rattle.stripe_claims.specs.Claims.{Pass}
use Rattle.stripe_claims.specs.Claims.{IsOwned}
use Rattle.stripe_claims.proofs.lemmas.Gathers.{all_last, all_front, all_push}
use Rattle.slicing_tests.proofs.claims.drawn_by_threads.Goals as goal

pub loop-pass-preserved : goal.loop-pass-preserved
loop-pass-preserved g c =
    let was = c.loop-pass.invariant in
    let Owned : Pass × Vec ℕ Global → Type 0 = λ r. IsOwned c.args.claims.now r.0 in
    let is = c.in-Some.ensures.items in
    record {
      left = all_front Owned _ _ _ is was.left;
      back = all_push (IsOwned c.args.claims.now) _ _ _ c.in_ok-push.ensures.items was.back (all_last Owned _ _ _ is was.left);
    }
