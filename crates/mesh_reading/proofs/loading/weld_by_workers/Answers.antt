use Rattle.std.proofs.Common.{◌≡◌, ◌∙◌, ◌++◌, List, ap, false, refl, subst, sym, true}
use Rattle.std.specs.Prelude.{Err}
use Rattle.std.specs.Io.KnownBytes.{Consumes, IsAtEnd}
use Rattle.std.proofs.KnownBytes.{Consumes-trans}
use Rattle.std.proofs.lemmas.List.{append-nil}
use Rattle.geometry.specs.Facet.{Facet}
use Rattle.geometry.specs.declared.limits.TheConstants.{FACET_LIMIT}
use Rattle.devices.specs.Devices.{Fails}
use Rattle.stl_text.specs.TextReader.{IsAfter}
use Rattle.mesh_reading.specs.Loading.{AreWelded, HasWelded}
use Rattle.mesh_reading.specs.declared.read_fault.ReadFault.TheVariants.{Read}
use Rattle.mesh_reading.proofs.lemmas.Reading.{ended_early, read_to_end, short_of_memory}
use Rattle.mesh_reading.proofs.loading.weld_by_workers.Goals as goal

pub loop-init : goal.loop-init
loop-init g c =
    let first = c.in_ok-rounds.ensures in
    record {
      fed = λ unit start before.
          (let now = g.I.Source.remaining c.args.source.now in
          let fed = before.2.0 in (
            before.0,
            before.1,
            (
              fed,
              subst (λ r. Consumes start now (fed ++ r.bytes)) (sym first.round) (subst (Consumes start now) (sym (append-nil fed)) before.2.1),
              subst (λ fs. IsAfter FACET_LIMIT unit (before.0 ++ fs) c.args.reader.now fed) (sym first.facets)
                  (subst (λ fs. IsAfter FACET_LIMIT unit fs c.args.reader.now fed) (sym (append-nil before.0)) before.2.2),
            ),
          ));
      counted = refl;
      end = λ is. (let no : false ≡ true = ap (λ r. r.is_last) (sym first.round) ∙ is in cc);
      next = ap (λ r. r.is_last) first.next ∙ ap (λ r. r.is_last) (sym first.round);
    }

pub loop-preserved : goal.loop-preserved
loop-preserved g c =
    let done = c.in_ok-read_and_weld.ensures in
    let last : c.read_and_weld.new.rounds.round.is_last ≡ false = sym c.is_last.ensures ∙ c.if-is_last.false in
    record {
      fed = λ unit start before.
          (let so_far = c.loop.invariant.fed unit start before in
          let fed = so_far.2 in
          let read = fed.0 ++ c.loop.rounds.round.bytes in (
            so_far.0 ++ c.loop.rounds.facets.items,
            done.welded so_far.0 so_far.1,
            (
              read,
              rw c.turn.ensures.round (Consumes-trans start (g.I.Source.remaining c.loop.source)
                  (g.I.Source.remaining c.read_and_weld.new.source) read c.read_and_weld.new.rounds.next.bytes fed.1 done.filled.taken),
              rw c.turn.ensures.facets (done.fed unit (so_far.0 ++ c.loop.rounds.facets.items) fed.0 fed.2),
            ),
          ));
      counted = done.filled.sound (λ e. cc) ∙ c.loop.invariant.counted;
      end = λ is. done.filled.whole (c.loop.invariant.next ∙ (ap (λ r. r.is_last) (sym done.round) ∙ last)) (ap (λ r. r.is_last) (sym c.turn.ensures.round) ∙ is);
      next = c.turn.ensures.last ∙ ap (λ r. r.is_last) (sym c.turn.ensures.round);
    }

pub returns-then-is_last : goal.returns-then-is_last
returns-then-is_last g c =
    let done = c.in_ok-read_and_weld.ensures in
    let last : c.loop.rounds.round.is_last ≡ true = ap (λ r. r.is_last) (sym done.round) ∙ (sym c.is_last.ensures ∙ c.if-is_last.true) in
    let kept = (done.filled.kept (c.loop.invariant.next ∙ last)).0 in
    let end : IsAtEnd (g.I.Source.remaining c.read_and_weld.new.source) =
    subst (λ s. IsAtEnd (g.I.Source.remaining s)) (sym kept) (c.loop.invariant.end last) in
    read_to_end g.I.Source.remaining g.I.Failures.failure_count c.args.source.now c.read_and_weld.new.source c.args.reader.now
    c.read_and_weld.new.reader c.args.welder.now c.weld_next.new.welder c.weld_next.result
    (HasWelded c.as_slice.result.now c.read_and_weld.new.welder c.weld_next.new.welder)
    c.weld_next.ensures.welded c.weld_next.ensures.only
    (λ welds unit start before.
    (let so_far = c.loop.invariant.fed unit start before in
    let taken : List Facet = so_far.0 ++ c.loop.rounds.facets.items in
    let fed = so_far.2 in
    let input = fed.0 ++ c.loop.rounds.round.bytes in (
      taken ++ c.read_and_weld.new.rounds.facets.items,
      subst (λ fs. AreWelded (taken ++ fs) c.weld_next.new.welder) c.as_slice.ensures.value (welds taken (done.welded so_far.0 so_far.1)),
      (
        input,
        subst (λ s. Consumes start (g.I.Source.remaining s) input) (sym kept) fed.1,
        done.fed unit taken fed.0 fed.2,
      ),
    )))
    end (done.filled.sound (λ e. cc) ∙ c.loop.invariant.counted)

pub returns-in_err-read_and_weld : goal.returns-in_err-read_and_weld
returns-in_err-read_and_weld g c =
    let f = c.in_err-read_and_weld.field-0.0 in
    let filled = c.in_err-read_and_weld.ensures.filled in
    ended_early g.I.Source.remaining g.I.Failures.failure_count c.args.source.now c.read_and_weld.new.source c.args.reader.now
    c.read_and_weld.new.reader c.args.welder.now c.read_and_weld.new.welder c.from_residual-in_err-read_and_weld.result f
    c.from_residual-in_err-read_and_weld.ensures.1 filled.only
    (λ e. subst (λ n. Fails n (g.I.Failures.failure_count c.read_and_weld.new.source)) c.loop.invariant.counted (filled.unread (ap Err e)))
    (λ other. filled.sound (λ e. other (let same : f ≡ Read = cc in same)) ∙ c.loop.invariant.counted)

pub returns : goal.returns
returns g c = short_of_memory g.I.Source.remaining g.I.Failures.failure_count _ _ _ _ _ _ c.loop.invariant.counted
