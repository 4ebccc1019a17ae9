use Rattle.std.proofs.Common.{◌∙◌, ◌+◌, ◌≤◌, ℕ, arith, refl, subst, sym}
use Rattle.std.specs.Prelude.{Ok}
use Rattle.raster.specs.ImageWriter.{ImageWriter, pending}
use Rattle.raster.proofs.lemmas.Written.{IsUnderWay, moved}
use Rattle.devices.specs.Transcript.{Transcript, transcript_of}
use Rattle.build_book.specs.Job.{Job}
use Rattle.stlslice.specs.Pages.{images_of}
use Rattle.stlslice.proofs.lemmas.Pages.{held-counted}
use Rattle.stlslice.proofs.lemmas.Put.{put-last, written-all, written-part}
use Rattle.stlslice.proofs.lemmas.Stream.{images-begun, images_from, last_held, layer_at, layers_end, with_image}
use Rattle.stlslice.proofs.write.images.write_images.Goals as goal

pub loop-layer-init : goal.loop-layer-init
loop-layer-init g c =
    let job : Job = c.args.build.now.job in
    let now = g.O.Sink.contents c.args.sink.now in
    record {
      text = subst (λ (w : ImageWriter). IsUnderWay now now (images_of job) 0 w.sent w.held (images_from job 0)) (sym c.new-writer.ensures)
          (images-begun job now);
      counted = refl;
    }

pub add-requires-clause-form : goal.add-requires-clause-form
add-requires-clause-form g c =
    rw (c.grid-grid.ensures, c.job.ensures, c.spans.ensures)
    (layer_at c.args.build.now.job c.layers-layer-items.result.now c.loop-layer.layer-index c.layer-item.result
    (rw c.layers-layer-items.ensures.value c.layers-layer-items.ensures.complete) c.loop-layer-test.true c.layer-item.is).spans

pub add-requires-clause-count : goal.add-requires-clause-count
add-requires-clause-count g c =
    let held = held-counted c.args.build.now.job c.job.result.now c.grid-grid.result.now _ _ c.loop-layer.writer.sent c.loop-layer.writer.held _
    c.job.ensures c.grid-grid.ensures c.hold_limits.ensures c.loop-layer.invariant.text in
    omega (arith, held)

pub loop-layer-preserved : goal.loop-layer-preserved
loop-layer-preserved g c =
    let job : Job = c.args.build.now.job in
    let k : ℕ = c.loop-layer.layer-index in
    let out = c.in_ok-add.ensures in
    let all = c.layers-layer-items.ensures in
    record {
      text = moved _ _ _ (images_of job) 0 _ _ (pending c.loop-layer.writer.held c.grid-grid.result.now c.spans.result.now) _ (images_from job (k + 1))
          (with_image job c.job.result.now c.grid-grid.result.now c.spans.result.now _ _ k c.layer-item.result _ _ _ _ c.job.ensures
          c.grid-grid.ensures c.spans.ensures all.value all.complete c.loop-layer-test.true c.layer-item.is c.loop-layer.invariant.text)
          out.ok.low out.ok.high out.ok.out out.held;
      counted = out.ok.same ∙ c.loop-layer.invariant.counted;
    }

pub returns-in_err-add : goal.returns-in_err-add
returns-in_err-add g c =
    let job : Job = c.args.build.now.job in
    let k : ℕ = c.loop-layer.layer-index in
    let all = c.layers-layer-items.ensures in
    let sink : Transcript = transcript_of g.O.Sink.contents g.O.Failures.failure_count c.args.sink.now c.add.new.w in
    written-part c.from_residual.result c.in_err-add.field-0.0 sink (g.O.Sink.is_settled c.add.new.w) (g.O.Sink.contents c.loop-layer.sink)
    (g.O.Failures.failure_count c.loop-layer.sink) (images_of job) _
    (pending c.loop-layer.writer.held c.grid-grid.result.now c.spans.result.now) (images_from job (k + 1))
    (with_image job c.job.result.now c.grid-grid.result.now c.spans.result.now _ _ k c.layer-item.result _ _ _ _ c.job.ensures
    c.grid-grid.ensures c.spans.ensures all.value all.complete c.loop-layer-test.true c.layer-item.is c.loop-layer.invariant.text)
    c.loop-layer.invariant.counted c.in_err-add.ensures.err c.from_residual.ensures.1

pub finish-requires : goal.finish-requires
finish-requires g c =
    let held = held-counted c.args.build.now.job c.job.result.now c.grid-grid.result.now _ _ c.loop-layer.writer.sent c.loop-layer.writer.held _
    c.job.ensures c.grid-grid.ensures c.hold_limits.ensures c.loop-layer.invariant.text in
    omega (arith, held)

pub returns-in_err-written : goal.returns-in_err-written
returns-in_err-written g c =
    let sink : Transcript = transcript_of g.O.Sink.contents g.O.Failures.failure_count c.args.sink.now c.finish.new.w in
    written-part c.from_residual-in_err-written.result c.in_err-written.field-0.0 sink (g.O.Sink.is_settled c.finish.new.w)
    (g.O.Sink.contents c.loop-layer.sink) (g.O.Failures.failure_count c.loop-layer.sink) (images_of c.args.build.now.job) _ _ _
    c.loop-layer.invariant.text c.loop-layer.invariant.counted c.in_err-written.ensures.err c.from_residual-in_err-written.ensures.1

pub returns : goal.returns
returns g c =
    let job : Job = c.args.build.now.job in
    let k : ℕ = c.loop-layer.layer-index in
    let all = c.layers-layer-items.ensures in
    let out = c.in_ok-written.ensures in
    let end : job.grid.layers ≤ k =
    layers_end job c.args.build.now.layers c.layers-layer-items.result.now k all.value all.complete c.loop-layer-test.false in
    let put : Transcript = transcript_of g.O.Sink.contents g.O.Failures.failure_count c.args.sink.now c.finish.new.w in
    let sink : Transcript = transcript_of g.O.Sink.contents g.O.Failures.failure_count c.args.sink.now c.settle.new.sink in
    let whole = put-last (Ok c.in_ok-written.written) put (g.O.Sink.contents c.loop-layer.sink) (g.O.Failures.failure_count c.loop-layer.sink)
    (images_of job) 0 _ _ (last_held job _ _ _ k _ end c.loop-layer.invariant.text) c.loop-layer.invariant.counted
    (record { ok = out.ok; total = out.total; same = out.same; err = tt }) in
    let after = c.settle.ensures in
    written-all c.settle.result sink (g.O.Sink.is_settled c.settle.new.sink) (images_of job) put.new put.failed
    c.in_ok-written.written whole after.flushed after.kept after.same after.err
