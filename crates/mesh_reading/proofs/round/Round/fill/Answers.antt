use Rattle.std.proofs.Common.{◌≡◌, ◌∙◌, ◌+◌, ◌++◌, ap, arith, drop, false, length, subst, sym, take, true}
use Rattle.std.specs.Prelude.{Ok}
use Rattle.std.specs.Vec.{vec_len}
use Rattle.std.specs.Io.KnownBytes.{Consumes}
use Rattle.std.proofs.lemmas.Bool.{false≢true}
use Rattle.devices.specs.Devices.{Fails}
use Rattle.mesh_reading.proofs.lemmas.Rounds.{enough, filled_round, grown_front, not_filled, not_grown, taken_on, within_on}
use Rattle.mesh_reading.proofs.round.Round.fill.Goals as goal

-- No answer names the test of the count, which one of the wrong bodies replaces.

pub round-preserved : goal.round-preserved
round-preserved g c =
    let len = c.round.self-inside.len in
    let had = c.round.self-inside.room.items in
    let room = c.make_room.new.room in
    let size : length c.fill_after.new.bytes ≡ vec_len room = c.in_ok-count.ensures.len ∙ c.as_mut_slice.ensures.len in
    let front : take len c.as_mut_slice.result.now ≡ take len had =
    ap (take len) c.as_mut_slice.ensures.value ∙ grown_front len had room.items c.round.invariant.within c.make_room.ensures.same in
    record {
      taken = taken_on (g.I.Source.remaining c.args.source.now) (g.I.Source.remaining c.round.source) (g.I.Source.remaining c.fill_after.new.source)
          len c.in_ok-count.count (vec_len room) (take len had) c.as_mut_slice.result.now c.fill_after.new.bytes room.items size
          c.in_ok-count.ensures.taken front c.round.invariant.taken;
      counted = c.in_ok-count.ensures.sound ∙ c.round.invariant.counted;
      within = within_on (len + c.in_ok-count.count) (vec_len room) c.fill_after.new.bytes room.items size
          (omega (arith, c.in_ok-count.ensures.within, c.in_ok-count.ensures.len));
      wanted = c.round.invariant.wanted;
      more = c.round.invariant.more;
    }

pub returns-in_err-count : goal.returns-in_err-count
returns-in_err-count g c =
    not_filled g.I.Source.remaining g.I.Failures.failure_count c.args.source.now c.fill_after.new.source c.args.self.now _
    (ap (λ r. r.is_last) (sym c.self.view_is) ∙ c.if-self.false) (c.round.invariant.wanted ∙ ap (λ r. r.wanted) c.self.view_is)
    c.from_residual-in_err-count.result c.in_err-count.field-0.0 c.from_residual-in_err-count.ensures.1 c.in_err-count.ensures.err.0
    (subst (λ n. Fails n (g.I.Failures.failure_count c.fill_after.new.source)) c.round.invariant.counted c.in_err-count.ensures.err.1)

pub returns : goal.returns
returns g c =
    filled_round g.I.Source.remaining g.I.Failures.failure_count c.args.source.now c.round.source c.args.self.now _
    (ap (λ r. r.is_last) (sym c.self.view_is) ∙ c.if-self.false) (c.round.invariant.wanted ∙ ap (λ r. r.wanted) c.self.view_is)
    c.round.invariant.taken c.round.invariant.counted
    (λ _. enough c.round.self-inside.wanted c.round.self-inside.len c.round.self-inside.room.items c.round.invariant.within c.round-test.false)
    (λ e. (let no : false ≡ true = sym c.round.invariant.more ∙ e in cc))

pub round-smaller : goal.round-smaller
round-smaller g c = omega (arith, c.round-test.true, c.if-count-eq0.false)

pub returns-in_err-make_room : goal.returns-in_err-make_room
returns-in_err-make_room g c =
    not_grown g.I.Source.remaining g.I.Failures.failure_count c.args.source.now c.round.source c.args.self.now _
    (ap (λ r. r.is_last) (sym c.self.view_is) ∙ c.if-self.false) (c.round.invariant.wanted ∙ ap (λ r. r.wanted) c.self.view_is)
    c.from_residual.result c.from_residual.ensures.1 c.round.invariant.counted

pub returns-then-count-eq0 : goal.returns-then-count-eq0
returns-then-count-eq0 g c =
    let len = c.round.self-inside.len in
    let had = c.round.self-inside.room.items in
    let room = c.make_room.new.room in
    let bytes = c.fill_after.new.bytes in
    let start = g.I.Source.remaining c.args.source.now in
    let new = g.I.Source.remaining c.fill_after.new.source in
    let size : length bytes ≡ vec_len room = c.in_ok-count.ensures.len ∙ c.as_mut_slice.ensures.len in
    let front : take len c.as_mut_slice.result.now ≡ take len had =
    ap (take len) c.as_mut_slice.ensures.value ∙ grown_front len had room.items c.round.invariant.within c.make_room.ensures.same in
    let none : len + c.in_ok-count.count ≡ len = omega (arith, c.if-count-eq0.true) in
    filled_round g.I.Source.remaining g.I.Failures.failure_count c.args.source.now c.fill_after.new.source c.args.self.now _
    (ap (λ r. r.is_last) (sym c.self.view_is) ∙ c.if-self.false) (c.round.invariant.wanted ∙ ap (λ r. r.wanted) c.self.view_is)
    (subst (λ n. Consumes start new (take n (take (vec_len room) (bytes ++ drop (length bytes) room.items)))) none
    (taken_on start (g.I.Source.remaining c.round.source) new len c.in_ok-count.count (vec_len room) (take len had) c.as_mut_slice.result.now bytes
    room.items size c.in_ok-count.ensures.taken front c.round.invariant.taken))
    (c.in_ok-count.ensures.sound ∙ c.round.invariant.counted)
    (λ e. absurd (false≢true (sym e)))
    (λ _. c.in_ok-count.ensures.end (ap Ok c.if-count-eq0.true))
