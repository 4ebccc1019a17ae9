use Rattle.std.proofs.Common.{◌≡◌, ◌+◌, ◌∙◌, ◌++◌, List, ℕ, ap, arith, vec_capacity}
use Rattle.raster.proofs.lemmas.Written.{IsUnderWay}
use Rattle.devices.specs.Transcript.{Transcript, transcript_of}
use Rattle.build_book.specs.Job.{Job}
use Rattle.layer_png.specs.Depth.{bits}
use Rattle.layer_png.specs.Layer.{shown}
use Rattle.layer_png.specs.Text.{png_text}
use Rattle.stlslice.specs.Pngs.{pngs_of}
use Rattle.stlslice.proofs.lemmas.Pages.{next-counted}
use Rattle.stlslice.proofs.lemmas.Pngs.{no_pngs, png_ahead, pngs_countable, pngs_counted, pngs_from, room_at}
use Rattle.stlslice.proofs.lemmas.Put.{put-all, put-early, put-on, with-part}
use Rattle.stlslice.proofs.lemmas.Stream.{layer_at, layers_end}
use Rattle.stlslice.proofs.write.pngs.put_pngs.Given.{Over}
use Rattle.stlslice.proofs.write.pngs.put_pngs.Goals.{After-spans}
use Rattle.stlslice.proofs.write.pngs.put_pngs.Goals as goal

-- the PNG of a layer, made in a buffer that was cleared, goes out next
next : (g : Over) (c : After-spans g) (part made : List ℕ) → part ≡ made
    → made ≡ c.clear.new.self.items ++ png_text (bits c.args.depth) c.grid-grid.result.now.columns c.grid-grid.result.now.rows
    (shown c.args.mirrors c.grid-grid.result.now.columns c.grid-grid.result.now.rows c.spans.result.now)
    → IsUnderWay (g.O.Sink.contents c.args.sink.now) (g.O.Sink.contents c.loop-layer.sink) (pngs_of c.args.build.now.job c.args.depth c.args.mirrors)
    0 c.loop-layer.written part (pngs_from c.args.build.now.job c.args.depth c.args.mirrors (c.loop-layer.layer-index + 1))
next g c part made is made_is =
    let job : Job = c.args.build.now.job in
    let k : ℕ = c.loop-layer.layer-index in
    let all = c.layers-layer-items.ensures in
    with-part (g.O.Sink.contents c.args.sink.now) (g.O.Sink.contents c.loop-layer.sink) (pngs_of job c.args.depth c.args.mirrors) 0 c.loop-layer.written part
    (pngs_from job c.args.depth c.args.mirrors (k + 1)) (pngs_from job c.args.depth c.args.mirrors k) c.loop-layer.invariant.text
    (png_ahead job c.job.result.now c.grid-grid.result.now c.spans.result.now c.args.build.now.layers c.layers-layer-items.result.now k
    c.layer-item.result c.args.depth c.args.mirrors part (is ∙ (rw c.clear.ensures.items at made_is)) c.job.ensures
    c.grid-grid.ensures c.spans.ensures all.value all.complete c.loop-layer-test.true c.layer-item.is)

pub add_png-buffer-requires-clause-form : goal.add_png-buffer-requires-clause-form
add_png-buffer-requires-clause-form g c =
    rw (c.grid-grid.ensures, c.job.ensures, c.spans.ensures)
    (layer_at c.args.build.now.job c.layers-layer-items.result.now c.loop-layer.layer-index c.layer-item.result
    (rw c.layers-layer-items.ensures.value c.layers-layer-items.ensures.complete) c.loop-layer-test.true c.layer-item.is).spans

pub add_png-buffer-requires-clause-room : goal.add_png-buffer-requires-clause-room
add_png-buffer-requires-clause-room g c =
    let room : ℕ = vec_capacity c.args.buffer in
    omega (
      arith,
      room_at c.args.build.now.job.grid c.grid-grid.result.now c.args.depth c.args.build.now.layers c.layers-layer-items.result.now c.loop-layer.layer-index
          c.layer-item.result c.spans.result.now room (c.grid-grid.ensures ∙ ap (λ (j : Job). j.grid) c.job.ensures) c.layers-layer-items.ensures.value
          c.spans.ensures c.loop-layer-test.true c.layer-item.is c.requires,
      c.clear.ensures.len,
      c.clear.ensures.capacity,
      c.loop-layer.invariant.capacity,
    )

pub put_more-requires : goal.put_more-requires
put_more-requires g c =
    next-counted _ _ _ _ _ _
    (pngs_countable _ (pngs_counted c.args.build.now.job c.job.result.now c.grid-grid.result.now c.args.depth c.args.mirrors c.job.ensures c.grid-grid.ensures
    c.hold_limits.ensures))
    (next g (goal.at.put_more-requires g c).After-spans c.as_slice.result.now c.add_png-buffer.result.items c.as_slice.ensures.value c.add_png-buffer.ensures.text)

pub loop-layer-preserved : goal.loop-layer-preserved
loop-layer-preserved g c = record {
  text = put-on _ _ (g.O.Sink.contents c.put_more.new.sink) (g.O.Failures.failure_count c.loop-layer.sink)
      (g.O.Failures.failure_count c.put_more.new.sink) _ _ _ c.in_ok-written.written _ _
      (next g (goal.at.loop-layer-preserved g c).After-spans c.as_slice.result.now c.add_png-buffer.result.items c.as_slice.ensures.value c.add_png-buffer.ensures.text)
      c.in_ok-written.ensures;
  counted = c.in_ok-written.ensures.same ∙ c.loop-layer.invariant.counted;
  capacity = omega (arith, c.loop-layer.invariant.capacity, c.add_png-buffer.ensures.capacity, c.clear.ensures.capacity);
}

pub returns-in_err-written : goal.returns-in_err-written
returns-in_err-written g c =
    let sink : Transcript = transcript_of g.O.Sink.contents g.O.Failures.failure_count c.args.sink.now c.put_more.new.sink in
    put-early c.from_residual.result c.in_err-written.field-0.0 sink (g.O.Sink.contents c.loop-layer.sink) (g.O.Failures.failure_count c.loop-layer.sink) _ _ _ _ _
    (next g (goal.at.returns-in_err-written g c).After-spans c.as_slice.result.now c.add_png-buffer.result.items c.as_slice.ensures.value c.add_png-buffer.ensures.text)
    c.loop-layer.invariant.counted c.in_err-written.ensures c.from_residual.ensures.1

pub returns : goal.returns
returns g c =
    let job : Job = c.args.build.now.job in
    let all = c.layers-layer-items.ensures in
    let none = no_pngs job c.args.depth c.args.mirrors c.loop-layer.layer-index
    (layers_end job c.args.build.now.layers c.layers-layer-items.result.now c.loop-layer.layer-index all.value all.complete c.loop-layer-test.false) in
    let sink : Transcript = transcript_of g.O.Sink.contents g.O.Failures.failure_count c.args.sink.now c.loop-layer.sink in
    let text = rw none at c.loop-layer.invariant.text in
    put-all sink (pngs_of job c.args.depth c.args.mirrors) 0 c.loop-layer.written text c.loop-layer.invariant.counted
