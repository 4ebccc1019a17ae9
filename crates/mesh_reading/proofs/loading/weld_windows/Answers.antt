use Rattle.std.proofs.Common.{◌≡◌, ◌∙◌, inl, inr, refl, rules, subst, sym}
use Rattle.devices.specs.Devices.{Fails}
use Rattle.mesh_reading.specs.declared.read_fault.ReadFault.TheVariants.{Memory, Read}
use Rattle.mesh_reading.proofs.lemmas.Reading.{ended_early, short_of_memory, welded_on}
use Rattle.mesh_reading.proofs.loading.weld_windows.Goals as goal

pub loop-init : goal.loop-init
loop-init g c = record {
  fed = λ unit start before. before;
  counted = refl;
  room = refl;
}

pub loop-preserved : goal.loop-preserved
loop-preserved g c = record {
  fed = λ unit start before.
      welded_on unit start (g.I.Source.remaining c.loop.source) (g.I.Source.remaining c.next_facets.new.source) c.loop.reader c.next_facets.new.reader
      c.loop.welder c.weld_next.new.welder c.next_facets.new.facets.items c.as_slice.result.now c.as_slice.ensures.value
      c.in_ok-weld_next.ensures.welded (λ taken. c.in_ok-is_more.ensures.fed unit taken start) (c.loop.invariant.fed unit start before);
  counted = c.in_ok-is_more.ensures.sound ∙ c.loop.invariant.counted;
  room = c.in_ok-is_more.ensures.len ∙ c.loop.invariant.room;
}

pub returns-then-not-is_more : goal.returns-then-not-is_more
returns-then-not-is_more g c = record {
  fed = λ unit start before.
      welded_on unit start (g.I.Source.remaining c.loop.source) (g.I.Source.remaining c.next_facets.new.source) c.loop.reader c.next_facets.new.reader
      c.loop.welder c.weld_next.new.welder c.next_facets.new.facets.items c.as_slice.result.now c.as_slice.ensures.value
      c.in_ok-weld_next.ensures.welded (λ taken. c.in_ok-is_more.ensures.fed unit taken start) (c.loop.invariant.fed unit start before);
  whole = search rules;
  unread = λ e. cc;
  sound = λ _. c.in_ok-is_more.ensures.sound ∙ c.loop.invariant.counted;
  only = tt;
}

pub returns-in_err-is_more : goal.returns-in_err-is_more
returns-in_err-is_more g c =
    let f = c.in_err-is_more.field-0.0 in
    ended_early g.I.Source.remaining g.I.Failures.failure_count c.args.source.now c.next_facets.new.source c.args.reader.now
    c.next_facets.new.reader c.args.welder.now c.loop.welder c.from_residual.result f
    c.from_residual.ensures.1
    (inl c.in_err-is_more.ensures.err.0)
    (λ e. subst (λ n. Fails n (g.I.Failures.failure_count c.next_facets.new.source)) c.loop.invariant.counted c.in_err-is_more.ensures.err.1)
    (λ other. absurd (other c.in_err-is_more.ensures.err.0))

pub returns-in_err-weld_next : goal.returns-in_err-weld_next
returns-in_err-weld_next g c =
    ended_early g.I.Source.remaining g.I.Failures.failure_count c.args.source.now c.next_facets.new.source c.args.reader.now
    c.next_facets.new.reader c.args.welder.now c.weld_next.new.welder c.from_residual-in_err-weld_next.result c.in_err-weld_next.field-0.0
    c.from_residual-in_err-weld_next.ensures.1 (inr c.in_err-weld_next.ensures.only)
    (λ e. let no : Memory ≡ Read = sym c.in_err-weld_next.ensures.only ∙ e in cc)
    (λ other. c.in_ok-is_more.ensures.sound ∙ c.loop.invariant.counted)

pub returns : goal.returns
returns g c = short_of_memory g.I.Source.remaining g.I.Failures.failure_count _ _ _ _ _ _ c.loop.invariant.counted
