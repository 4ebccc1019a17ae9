use Rattle.std.proofs.Common.{refl}
use Rattle.devices.specs.Transcript.{Transcript, transcript_of}
use Rattle.stlslice.specs.Pngs.{pngs_of}
use Rattle.stlslice.proofs.lemmas.Ends.{keeps_self}
use Rattle.stlslice.proofs.lemmas.Put.{made-written, not-made, written-all, written-early}
use Rattle.stlslice.proofs.write.pngs.write_pngs.Goals as goal

pub returns-in_err-buffer : goal.returns-in_err-buffer
returns-in_err-buffer g c =
    let text = pngs_of c.args.build.now.job c.args.depth c.args.mirrors in
    let sink : Transcript = transcript_of g.O.Sink.contents g.O.Failures.failure_count c.args.sink.now c.args.sink.now in
    not-made c.from_residual.result sink (g.O.Sink.is_settled c.args.sink.now) text c.from_residual.ensures.1
    (keeps_self (g.O.Sink.contents c.args.sink.now), refl)

pub returns-in_err-written : goal.returns-in_err-written
returns-in_err-written g c =
    let text = pngs_of c.args.build.now.job c.args.depth c.args.mirrors in
    let sink : Transcript = transcript_of g.O.Sink.contents g.O.Failures.failure_count c.args.sink.now c.put_pngs.new.sink in
    let is_settled = g.O.Sink.is_settled c.put_pngs.new.sink in
    let r = c.from_residual-in_err-written.result in
    made-written r sink is_settled text
    (written-early r sink is_settled text c.in_err-written.field-0.0 c.in_err-written.ensures c.from_residual-in_err-written.ensures.1)

pub returns : goal.returns
returns g c =
    let text = pngs_of c.args.build.now.job c.args.depth c.args.mirrors in
    let sink : Transcript = transcript_of g.O.Sink.contents g.O.Failures.failure_count c.args.sink.now c.settle.new.sink in
    let is_settled = g.O.Sink.is_settled c.settle.new.sink in
    let out = c.settle.ensures in
    made-written c.settle.result sink is_settled text
    (written-all c.settle.result sink is_settled text (g.O.Sink.contents c.put_pngs.new.sink) (g.O.Failures.failure_count c.put_pngs.new.sink)
    c.in_ok-written.written c.in_ok-written.ensures out.flushed out.kept out.same out.err)
