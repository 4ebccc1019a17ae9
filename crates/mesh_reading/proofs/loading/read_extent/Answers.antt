use Rattle.std.proofs.Common.{◌∙◌, ◌≤◌, ◌++◌, List, [], length, refl, rules, subst}
use Rattle.std.specs.Prelude.{Ok}
use Rattle.std.specs.Io.KnownBytes.{IsAtEnd}
use Rattle.geometry.specs.Facet.{Facet}
use Rattle.geometry.specs.declared.limits.TheConstants.{FACET_LIMIT}
use Rattle.mesh_reading.specs.Extent.{IsExtentOf}
use Rattle.devices.specs.Transcript.{Transcript, transcript_of}
use Rattle.mesh_reading.proofs.lemmas.Faults.{passed_on, told}
use Rattle.mesh_reading.proofs.lemmas.Reading.{at_start, extent_read, none_made}
use Rattle.mesh_reading.proofs.loading.read_extent.Goals as goal

pub loop-init : goal.loop-init
loop-init g c = record {
  fed = ([], (λ few. c.none-extent.ensures), at_start c.args.unit c.new-reader.result (g.I.Source.remaining c.args.source.now) c.new-reader.ensures);
  counted = refl;
  room = refl;
}

pub loop-preserved : goal.loop-preserved
loop-preserved g c =
    let so_far = c.loop.invariant.fed in
    record {
      fed = (
        so_far.0 ++ c.next_facets.new.facets.items,
        subst (λ fs. IsExtentOf (so_far.0 ++ fs) c.with-extent.result) c.as_slice.ensures.value (c.with-extent.ensures so_far.0 so_far.1),
        c.in_ok-is_more.ensures.fed c.args.unit so_far.0 (g.I.Source.remaining c.args.source.now) so_far.2,
      );
      counted = c.in_ok-is_more.ensures.sound ∙ c.loop.invariant.counted;
      room = c.in_ok-is_more.ensures.len ∙ c.loop.invariant.room;
    }

pub returns-in_err-last : goal.returns-in_err-last
returns-in_err-last g c =
    let unit = c.args.unit in
    let start = g.I.Source.remaining c.args.source.now in
    let source : Transcript = transcript_of g.I.Source.remaining g.I.Failures.failure_count c.args.source.now c.next_facets.new.source in
    let so_far = c.loop.invariant.fed in
    let taken : List Facet = so_far.0 ++ c.next_facets.new.facets.items in
    let end : IsAtEnd (g.I.Source.remaining c.next_facets.new.source) = search rules in
    let r = c.from_residual-in_err-last.result in
    let ends = c.from_residual-in_err-last.ensures.1 in
    extent_read r source unit taken c.next_facets.new.reader (c.in_ok-is_more.ensures.fed unit so_far.0 start so_far.2) end
    (c.in_ok-is_more.ensures.sound ∙ c.loop.invariant.counted)
    (λ input is. (
      none_made r _ _ ends,
      passed_on r _ _ (λ f gives. told unit input c.in_err-last.field-0.0 f gives (c.in_err-last.ensures.fault FACET_LIMIT unit taken input is)) ends,
    ))

pub returns-then-not-is_more : goal.returns-then-not-is_more
returns-then-not-is_more g c =
    let unit = c.args.unit in
    let start = g.I.Source.remaining c.args.source.now in
    let source : Transcript = transcript_of g.I.Source.remaining g.I.Failures.failure_count c.args.source.now c.next_facets.new.source in
    let so_far = c.loop.invariant.fed in
    let taken : List Facet = so_far.0 ++ c.next_facets.new.facets.items in
    let before : IsExtentOf taken c.with-extent.result =
    subst (λ fs. IsExtentOf (so_far.0 ++ fs) c.with-extent.result) c.as_slice.ensures.value (c.with-extent.ensures so_far.0 so_far.1) in
    let end : IsAtEnd (g.I.Source.remaining c.next_facets.new.source) = search rules in
    extent_read (Ok c.with.result) source unit taken c.next_facets.new.reader (c.in_ok-is_more.ensures.fed unit so_far.0 start so_far.2) end
    (c.in_ok-is_more.ensures.sound ∙ c.loop.invariant.counted)
    (λ input is.
    let reads = c.in_ok-last.ensures.found FACET_LIMIT unit taken input is in
    let few : length (taken ++ c.deref.result.now) ≤ FACET_LIMIT = rw c.deref.ensures.value reads.few in
    ((taken ++ c.in_ok-last.last.items, reads, rw (← c.deref.ensures.value) (c.with.ensures taken before few)), tt))
