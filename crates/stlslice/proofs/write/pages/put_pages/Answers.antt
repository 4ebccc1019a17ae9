use Rattle.std.proofs.Common.{◌≡◌, ◌+◌, ◌<◌, ◌∙◌, List, Option, ℕ, [], ◌++◌, ap, arith, drop, length, refl, slice_index_or, sym}
use Rattle.std.specs.Prelude.{flat_map}
use Rattle.std.proofs.lemmas.List.{drop_all}
use Rattle.devices.specs.Transcript.{Transcript, transcript_of}
use Rattle.raster.proofs.lemmas.Written.{IsUnderWay, all-counted, begun}
use Rattle.stlslice.proofs.lemmas.Pages.{page-next}
use Rattle.stlslice.proofs.lemmas.Put.{put-all, put-early, put-on, with-part}
use Rattle.stlslice.proofs.write.pages.put_pages.Goals as goal

-- the next page is to go out
ahead : {P : Type 0} (bytes : P → List ℕ) (old now : Option (List ℕ)) (before written : ℕ) (pages : List P) (k : ℕ) (page : P) (part : List ℕ)
    → IsUnderWay old now (flat_map bytes pages) before written [] (flat_map bytes (drop k pages)) → k < length pages
    → page ≡ slice_index_or pages k page → part ≡ bytes page
    → IsUnderWay old now (flat_map bytes pages) before written part (flat_map bytes (drop (k + 1) pages))
ahead bytes old now before written pages k page part under low is shown =
    with-part old now (flat_map bytes pages) before written part (flat_map bytes (drop (k + 1) pages)) (flat_map bytes (drop k pages)) under
    (page-next bytes pages k page low is ∙ ap (λ (l : List ℕ). l ++ flat_map bytes (drop (k + 1) pages)) (sym shown))

pub loop-page-init : goal.loop-page-init
loop-page-init g c = record {
  text = begun (g.O.Sink.contents c.args.sink.now) c.args.before [] (flat_map g.D.Drawing.bytes c.args.pages.now);
  counted = refl;
}

pub put_more-requires : goal.put_more-requires
put_more-requires g c =
    let bytes = g.D.Drawing.bytes in
    let old = g.O.Sink.contents c.args.sink.now in
    let now = g.O.Sink.contents c.loop-page.sink in
    let at = c.loop-page in
    let under = ahead bytes old now c.args.before at.written c.args.pages.now at.page-index c.page-item.result c.bytes.result.now
    at.invariant.text c.loop-page-test.true c.page-item.is c.bytes.ensures in
    omega (
      arith,
      c.requires,
      all-counted old now (flat_map bytes c.args.pages.now) c.args.before at.written c.bytes.result.now
          (flat_map bytes (drop (at.page-index + 1) c.args.pages.now)) under,
    )

pub loop-page-preserved : goal.loop-page-preserved
loop-page-preserved g c =
    let bytes = g.D.Drawing.bytes in
    let old = g.O.Sink.contents c.args.sink.now in
    let now = g.O.Sink.contents c.loop-page.sink in
    let at = c.loop-page in
    let under = ahead bytes old now c.args.before at.written c.args.pages.now at.page-index c.page-item.result c.bytes.result.now
    at.invariant.text c.loop-page-test.true c.page-item.is c.bytes.ensures in
    record {
      text = put-on old now (g.O.Sink.contents c.put_more.new.sink) (g.O.Failures.failure_count c.loop-page.sink)
          (g.O.Failures.failure_count c.put_more.new.sink) (flat_map bytes c.args.pages.now) c.args.before at.written c.in_ok-written.written
          c.bytes.result.now (flat_map bytes (drop (at.page-index + 1) c.args.pages.now)) under c.in_ok-written.ensures;
      counted = c.in_ok-written.ensures.same ∙ at.invariant.counted;
    }

pub returns-in_err-written : goal.returns-in_err-written
returns-in_err-written g c =
    let bytes = g.D.Drawing.bytes in
    let old = g.O.Sink.contents c.args.sink.now in
    let now = g.O.Sink.contents c.loop-page.sink in
    let at = c.loop-page in
    let under = ahead bytes old now c.args.before at.written c.args.pages.now at.page-index c.page-item.result c.bytes.result.now
    at.invariant.text c.loop-page-test.true c.page-item.is c.bytes.ensures in
    let sink : Transcript = transcript_of g.O.Sink.contents g.O.Failures.failure_count c.args.sink.now c.put_more.new.sink in
    put-early c.from_residual.result c.in_err-written.field-0.0 sink now (g.O.Failures.failure_count c.loop-page.sink)
    (flat_map bytes c.args.pages.now) c.args.before at.written c.bytes.result.now
    (flat_map bytes (drop (at.page-index + 1) c.args.pages.now)) under at.invariant.counted c.in_err-written.ensures c.from_residual.ensures.1

pub returns : goal.returns
returns g c =
    let bytes = g.D.Drawing.bytes in
    let none : flat_map bytes (drop c.loop-page.page-index c.args.pages.now) ≡ [] =
    ap (flat_map bytes) (drop_all c.loop-page.page-index c.args.pages.now c.loop-page-test.false) in
    let sink : Transcript = transcript_of g.O.Sink.contents g.O.Failures.failure_count c.args.sink.now c.loop-page.sink in
    let under = rw none at c.loop-page.invariant.text in
    put-all sink (flat_map bytes c.args.pages.now) c.args.before c.loop-page.written under c.loop-page.invariant.counted
