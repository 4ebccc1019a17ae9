use Rattle.std.proofs.Common.{arith, length}
use Rattle.devices.specs.Transcript.{Transcript, transcript, transcript_of}
use Rattle.devices.specs.declared.writing.WriteFault.{WriteFault}
use Rattle.stlslice.proofs.lemmas.Put.{put-whole, put-none, written-all, written-early}
use Rattle.stlslice.proofs.write.flush.write_all.Goals as goal

pub returns-in_err-put_all : goal.returns-in_err-put_all
returns-in_err-put_all g c =
    let f : WriteFault = c.in_err-put_all.field-0.0 in
    let out = c.in_err-put_all.ensures in
    let sink : Transcript = transcript_of g.O.Sink.contents g.O.Failures.failure_count c.args.sink.now c.put_all.new.w in
    written-early c.from_residual.result sink (g.O.Sink.is_settled c.put_all.new.w) c.args.text.now f
    (put-none f sink c.args.text.now 0 f.written (omega arith) out.written out.within out.failed) c.from_residual.ensures.1

pub returns : goal.returns
returns g c =
    let put = g.O.Sink.contents c.put_all.new.w in
    let count = g.O.Failures.failure_count c.put_all.new.w in
    let sink : Transcript = transcript_of g.O.Sink.contents g.O.Failures.failure_count c.args.sink.now c.settle.new.sink in
    let out = c.settle.ensures in
    let whole = put-whole (length c.args.text.now) (transcript sink.old put sink.failed_before count) c.args.text.now 0 (omega arith)
    c.in_ok-put_all.ensures.ok c.in_ok-put_all.ensures.same in
    written-all c.settle.result sink (g.O.Sink.is_settled c.settle.new.sink) c.args.text.now put count (length c.args.text.now) whole
    out.flushed out.kept out.same out.err
