use Rattle.devices.specs.Transcript.{Transcript, transcript_of}
use Rattle.stlslice.specs.Pages.{all_images}
use Rattle.stlslice.proofs.lemmas.Put.{written-all, written-early}
use Rattle.stlslice.proofs.write.pages.write_by_pages.Goals as goal

pub returns-in_err-written : goal.returns-in_err-written
returns-in_err-written g c =
    let it = g.D.Drawing in
    let sink : Transcript = transcript_of g.O.Sink.contents g.O.Failures.failure_count c.args.sink.now c.put_by_pages.new.sink in
    written-early c.from_residual.result sink (g.O.Sink.is_settled c.put_by_pages.new.sink)
    (all_images (it.image c.args.drawing.now) (it.layers c.args.drawing.now)) c.in_err-written.field-0.0 c.in_err-written.ensures
    c.from_residual.ensures.1

pub returns : goal.returns
returns g c =
    let it = g.D.Drawing in
    let sink : Transcript = transcript_of g.O.Sink.contents g.O.Failures.failure_count c.args.sink.now c.settle.new.sink in
    let out = c.settle.ensures in
    written-all c.settle.result sink (g.O.Sink.is_settled c.settle.new.sink)
    (all_images (it.image c.args.drawing.now) (it.layers c.args.drawing.now)) (g.O.Sink.contents c.put_by_pages.new.sink)
    (g.O.Failures.failure_count c.put_by_pages.new.sink) c.in_ok-written.written c.in_ok-written.ensures out.flushed out.kept out.same out.err
