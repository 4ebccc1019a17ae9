use Rattle.std.proofs.Common.{ℕ, ◌≡◌, List, length, refl, sym, ap, ◌∙◌, arith}
use Rattle.stripe_claims.specs.Machine.{times}
use Rattle.stripe_claims.specs.Claims.{Claims, Pass, IsOwned}
use Rattle.stripe_claims.proofs.lemmas.Gathers.{all_last, all_front, count_push, none_of, times_pop, length_pop, times_none, length_none}
use Rattle.stripe_claims.proofs.lemmas.Moves.{joins, taken_found, taken_parts, taken_times, taken_length}
use Rattle.stripe_claims.proofs.claims.Claims.gather.Goals as goal

pub join_seat-requires : goal.join_seat-requires
join_seat-requires g c =
    let table = c.self.inside.table.shared in
    let all = c.loop-pass.all in
    let seat = c.into_seat.result in
    let name : c.args.self.now.name ≡ table.table_id = sym (ap (λ (v : Claims). v.name) c.self.view_is) in
    let mine = all_last (IsOwned c.args.self.now) c.pop-in-loop-pass.new.self.items c.loop-pass.passes.items c.in-Some.pass c.in-Some.ensures.items c.loop-pass.invariant.owned in (
      c.loop-pass.invariant.table ∙ name,
      c.into_seat.ensures.seat.0 ∙ mine.owner ∙ name,
      c.into_seat.ensures.seat.1,
      (let one = c.self.invariant.one_word in omega arith),
      joins table.key all.id all.me.0 seat.id seat.me.0 c.loop-pass.invariant.some,
    )

pub loop-pass-preserved : goal.loop-pass-preserved
loop-pass-preserved g c =
    let was = c.loop-pass.invariant in
    let all = c.loop-pass.all.me.0 in
    let pass = c.in-Some.pass in
    let seat = c.into_seat.result.me.0 in
    let rest = c.pop-in-loop-pass.new.self.items in
    let passes = c.loop-pass.passes.items in
    let is = c.in-Some.ensures.items in
    let now = c.join_seat.ensures.2 in
    let found_now = taken_found c.join_seat.new.seat.me c.loop-pass.all.me seat pass.found now c.into_seat.ensures.hand.1 in
    let stands_now = taken_parts c.join_seat.new.seat.me c.loop-pass.all.me seat now in
    record {
      table = c.join_seat.ensures.0 ∙ was.table;
      some = (let w = was.some in omega (arith, stands_now));
      parts = (let one = c.into_seat.ensures.hand.0 in let push = count_push rest passes pass (length rest) is refl in let w = was.parts in omega arith);
      each = λ x. (let t = taken_times x c.join_seat.new.seat.me.0.found all.found pass.found found_now in let p = times_pop x passes rest pass is in let w = was.each x in omega arith);
      long = (let t = taken_length c.join_seat.new.seat.me.0.found all.found pass.found found_now in let p = length_pop passes rest pass is in let w = was.long in omega arith);
      owned = all_front (IsOwned c.args.self.now) rest passes pass is was.owned;
    }

pub returns-in_err-pop : goal.returns-in_err-pop
returns-in_err-pop g c =
    let none = c.from_residual.ensures in
    let empty = none_of c.args.passes.items (omega (arith, c.args.passes.ok.0, c.in_err-pop.ensures.cases.0)) in
    record { none = rw none empty; table = rw none tt; some = rw none tt; stands_for = rw none tt; times = rw none tt; length = rw none tt }

pub loop-pass-init : goal.loop-pass-init
loop-pass-init g c =
    let claims = c.args.self.now in
    let first = c.in_ok-pop.field-0 in
    let all = c.args.passes.items in
    let others = c.pop.new.self.items in
    let is = c.in_ok-pop.ensures.items in
    let hand = c.into_seat-all.result.me.0 in
    let found = c.into_seat-all.ensures.hand.1 in
    record {
      table = c.into_seat-all.ensures.seat.0 ∙ (all_last (IsOwned claims) others all first is c.requires).owner;
      some = (let one = c.into_seat-all.ensures.hand.0 in omega arith);
      parts = (let one = c.into_seat-all.ensures.hand.0 in let push = count_push others all first (length others) is refl in omega arith);
      each = λ x. (let t : times x hand.found ≡ times x first.found = ap (times x) found in let p = times_pop x all others first is in omega arith);
      long = (let t : length hand.found ≡ length first.found = ap (λ (l : List ℕ). length l) found in let p = length_pop all others first is in omega arith);
      owned = all_front (IsOwned claims) others all first is c.requires;
    }

pub loop-pass-smaller : goal.loop-pass-smaller
loop-pass-smaller g c =
    let others = c.pop-in-loop-pass.new.self.items in
    let push = count_push others c.loop-pass.passes.items c.in-Some.pass (length others) c.in-Some.ensures.items refl in
    omega arith

pub returns : goal.returns
returns g c =
    let was = c.loop-pass.invariant in
    let rest = c.loop-pass.passes.items in
    let none = none_of rest (omega (arith, c.loop-pass.passes.ok.0, c.in_default.ensures.cases.0)) in
    let others = c.pop.new.self.items in
    record {
      none = tt;
      table = was.table;
      some = (let push = count_push others c.args.passes.items c.in_ok-pop.field-0 (length others) c.in_ok-pop.ensures.items refl in omega arith);
      stands_for = (let left = ap (λ (ps : List Pass). length ps) none in let parts = was.parts in omega arith);
      times = λ x. (let left = times_none x rest none in let each = was.each x in omega arith);
      length = (let left = length_none rest none in let long = was.long in omega arith);
    }
