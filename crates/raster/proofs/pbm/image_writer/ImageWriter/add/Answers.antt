use Rattle.std.proofs.Common.{◌≡◌, ◌-◌, drop, subst}
use Rattle.std.proofs.lemmas.Result.{err_from_is_err_and}
use Rattle.devices.specs.Sent.{IsCutOff, IsSentTo}
use Rattle.devices.specs.Transcript.{transcript_of}
use Rattle.raster.specs.ImageWriter.{ImageWriter, pending}
use Rattle.raster.proofs.pbm.image_writer.ImageWriter.add.Goals as goal

pub returns-clause-ok : goal.returns-clause-ok
returns-clause-ok g c =
    let sink = transcript_of g.W.Sink.contents g.W.Failures.failure_count c.args.w.now c.push_image.new.w in
    subst (λ (v : ImageWriter). IsSentTo sink (pending v.held c.args.g.now c.args.spans.now) v.sent c.in_ok-self-inside.field-0)
    c.self.view_is c.in_ok-self-inside.ensures.ok

pub returns-clause-held : goal.returns-clause-held
returns-clause-held g c =
    subst (λ (v : ImageWriter). c.push_image.new.chunk ≡ drop (c.in_ok-self-inside.field-0 - v.sent) (pending v.held c.args.g.now c.args.spans.now))
    c.self.view_is c.in_ok-self-inside.ensures.held

pub returns-in_err-self-inside-clause-err : goal.returns-in_err-self-inside-clause-err
returns-in_err-self-inside-clause-err g c =
    let p = err_from_is_err_and c.from_residual.result c.from_residual.ensures.1 in
    let sink = transcript_of g.W.Sink.contents g.W.Failures.failure_count c.args.w.now c.push_image.new.w in
    rw (p.1, p.2)
    (subst (λ (v : ImageWriter). IsCutOff sink (pending v.held c.args.g.now c.args.spans.now) v.sent c.in_err-self-inside.field-0.0.written)
    c.self.view_is c.in_err-self-inside.ensures.err)
