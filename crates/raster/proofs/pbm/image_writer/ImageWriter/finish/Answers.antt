use Rattle.std.proofs.Common.{◌≡◌, ◌+◌, length, subst}
use Rattle.std.specs.Result.{IfErr, IfOk}
use Rattle.devices.specs.Sent.{IsCutOff}
use Rattle.devices.specs.Transcript.{transcript_of}
use Rattle.raster.specs.ImageWriter.{ImageWriter}
use Rattle.raster.proofs.pbm.image_writer.ImageWriter.finish.Goals as goal

pub returns-clause-total : goal.returns-clause-total
returns-clause-total g c =
    subst (λ (v : ImageWriter). IfOk c.send.result (λ total. total ≡ v.sent + length v.held)) c.self.view_is c.send.ensures.total

pub returns-clause-err : goal.returns-clause-err
returns-clause-err g c =
    let sink = transcript_of g.W.Sink.contents g.W.Failures.failure_count c.args.w.now c.send.new.w in
    subst (λ (v : ImageWriter). IfErr c.send.result (λ fault. IsCutOff sink v.held v.sent fault.written)) c.self.view_is c.send.ensures.err
