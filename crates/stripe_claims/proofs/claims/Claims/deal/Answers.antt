use Rattle.std.proofs.Common.{◌≡◌, ◌+◌, false, refl, ap, ◌∙◌, List, length, arith}
use Rattle.std.proofs.lemmas.Result.{err_from_is_err_and}
use Rattle.stripe_claims.specs.Claims.{Pass, IsOwned, IsFresh}
use Rattle.stripe_claims.proofs.lemmas.Gathers.{all_none, all_push, count_push}
use Rattle.stripe_claims.proofs.lemmas.Moves.{first_hand, hand_left, owned_fresh}
use Rattle.stripe_claims.proofs.claims.Claims.deal.Goals as goal

pub loop-init : goal.loop-init
loop-init g c =
    let dealt = c.in_ok-dealt.dealt.items in
    let none = c.in_ok-dealt.ensures.items in
    let seat = first_hand c.args.rest.me _ c.args.passes c.requires.seat.1 in
    record {
      table = c.requires.seat.0;
      home = seat.0;
      empty = seat.1;
      left = seat.2;
      planned = seat.3;
      count = ap (λ (ps : List Pass). length ps) none;
      owned = all_none (IsOwned c.args.self.now) dealt none;
      fresh = all_none IsFresh dealt none;
    }

pub cut-requires : goal.cut-requires
cut-requires g c =
    let was = c.loop.invariant in
    let left = was.left in
    let more = c.loop-test.true in
    record { seat = (was.table, was.planned, omega arith, was.empty) }

pub loop-preserved : goal.loop-preserved
loop-preserved g c =
    let was = c.loop.invariant in
    let dealt = c.loop.dealt.items in
    let now = c.push.new.self.items in
    let is = c.in_ok-push.ensures.items in
    let cut = hand_left c.cut.new.rest.me c.loop.rest.me c.cut.ensures.rest.1 in
    record {
      table = c.cut.ensures.rest.0 ∙ was.table;
      home = cut.0 ∙ was.home;
      empty = cut.1 ∙ was.empty;
      left = (let less = cut.2 in let left = was.left in let more = c.loop-test.true in omega arith);
      planned = cut.3 ∙ was.planned;
      count = count_push dealt now c.cut.result c.loop.counter is was.count;
      owned = all_push (IsOwned c.args.self.now) dealt now c.cut.result is was.owned c.cut.ensures.owned;
      fresh = all_push IsFresh dealt now c.cut.result is was.fresh c.cut.ensures.fresh;
    }

pub invariant_of-push : goal.invariant_of-push
invariant_of-push g c =
    let was = c.loop.invariant in
    let left = was.left in
    let end = c.loop-test.false in
    let within = c.loop.auto.counter-end in
    let some = c.requires.some in
    (was.home, omega arith)

pub returns-in_err-dealt : goal.returns-in_err-dealt
returns-in_err-dealt g c =
    let p = err_from_is_err_and c.from_residual.result c.from_residual.ensures.1 in
    record { count = rw p.1 tt; owned = rw p.1 tt; fresh = rw p.1 tt }

pub returns-in_err-push : goal.returns-in_err-push
returns-in_err-push g c =
    let p = err_from_is_err_and c.from_residual-in_err-push.result c.from_residual-in_err-push.ensures.1 in
    record { count = rw p.1 tt; owned = rw p.1 tt; fresh = rw p.1 tt }

pub returns-in_err-push-2 : goal.returns-in_err-push-2
returns-in_err-push-2 g c =
    let p = err_from_is_err_and c.from_residual-in_err-push-2.result c.from_residual-in_err-push-2.ensures.1 in
    record { count = rw p.1 tt; owned = rw p.1 tt; fresh = rw p.1 tt }

pub returns : goal.returns
returns g c =
    let was = c.loop.invariant in
    let dealt = c.loop.dealt.items in
    let now = c.push-2.new.self.items in
    let is = c.in_ok-push-2.ensures.items in
    let last : Pass = record { owner = c.loop.rest.table_id; plan = c.loop.rest.me.0.plan; found = c.loop.rest.me.0.found; has_ended = false } in
    let end = c.loop-test.false in
    let within = c.loop.auto.counter-end in
    let some = c.requires.some in
    let all : c.loop.counter + 1 ≡ c.args.passes = omega arith in
    record {
      count = count_push dealt now last c.loop.counter is was.count ∙ all;
      owned = all_push (IsOwned c.args.self.now) dealt now last is was.owned (owned_fresh c.args.self.now last was.table was.planned was.empty refl);
      fresh = all_push IsFresh dealt now last is was.fresh (was.empty, refl);
    }
