use Rattle.std.proofs.Common.{◌≡◌, ◌≤◌, ◌+◌, ◌-◌, ◌∙◌, ℕ, arith, drop, length, subst, sym}
use Rattle.std.proofs.lemmas.Result.{err_from_is_err_and}
use Rattle.devices.specs.Devices.{Fails, greatest_count}
use Rattle.devices.specs.Sent.{IsCutOff, IsSentTo}
use Rattle.devices.specs.Transcript.{transcript_of}
use Rattle.raster.specs.Image.{image_limit, image_of_pixels}
use Rattle.raster.specs.ImageWriter.{ImageWriter, pending}
use Rattle.raster.specs.Span.{covers}
use Rattle.raster.proofs.lemmas.Written.{cut-first, cut-within, first-out, rest-within, whole-out}
use Rattle.raster.proofs.pbm.image.write_layer.Goals as goal

pub returns-in_err-finish-clause-written : goal.returns-in_err-finish-clause-written
returns-in_err-finish-clause-written g c =
    let p = err_from_is_err_and c.from_residual-in_err-finish.result c.from_residual-in_err-finish.ensures.1 in
    let at = c.args.g.now in
    let all : c.add.new.self.sent - 0 ≡ c.add.new.self.sent = omega arith in
    let ok = rw (c.new-writer.ensures, all) at c.in_ok-add.ensures.ok.out in
    let held = rw (c.new-writer.ensures, all) at c.in_ok-add.ensures.held in
    rw (p.1, p.2)
    (first-out (g.W.Sink.contents c.args.w.now) (g.W.Sink.contents c.add.new.w) (g.W.Sink.contents c.finish.new.w)
    (image_of_pixels at.columns at.rows (covers c.args.spans.now)) c.add.new.self.held c.add.new.self.sent c.in_err-finish.field-0.0.written
    ok held c.in_err-finish.ensures.err.low c.in_err-finish.ensures.err.out)

pub returns-clause-ok : goal.returns-clause-ok
returns-clause-ok g c =
    let at = c.args.g.now in
    let all : c.add.new.self.sent - 0 ≡ c.add.new.self.sent = omega arith in
    let ok = rw (c.new-writer.ensures, all) at c.in_ok-add.ensures.ok.out in
    let held = rw (c.new-writer.ensures, all) at c.in_ok-add.ensures.held in
    whole-out (g.W.Sink.contents c.args.w.now) (g.W.Sink.contents c.add.new.w) (g.W.Sink.contents c.finish.new.w)
    (image_of_pixels at.columns at.rows (covers c.args.spans.now)) c.add.new.self.held c.add.new.self.sent ok held c.in_ok-finish.ensures.ok

pub add-requires-clause-form : goal.add-requires-clause-form
add-requires-clause-form g c = c.requires

pub returns-in_err-add-clause-ok : goal.returns-in_err-add-clause-ok
returns-in_err-add-clause-ok g c =
    let p = err_from_is_err_and c.from_residual.result c.from_residual.ensures.1 in
    rw p.1 tt

pub returns-in_err-add-clause-same : goal.returns-in_err-add-clause-same
returns-in_err-add-clause-same g c =
    let p = err_from_is_err_and c.from_residual.result c.from_residual.ensures.1 in
    rw p.1 tt

pub returns-in_err-finish-clause-ok : goal.returns-in_err-finish-clause-ok
returns-in_err-finish-clause-ok g c =
    let p = err_from_is_err_and c.from_residual-in_err-finish.result c.from_residual-in_err-finish.ensures.1 in
    rw p.1 tt

pub returns-in_err-finish-clause-same : goal.returns-in_err-finish-clause-same
returns-in_err-finish-clause-same g c =
    let p = err_from_is_err_and c.from_residual-in_err-finish.result c.from_residual-in_err-finish.ensures.1 in
    rw p.1 tt

pub add-requires-clause-count : goal.add-requires-clause-count
add-requires-clause-count g c =
    subst (λ (v : ImageWriter). v.sent + length v.held + image_limit ≤ greatest_count) (sym c.new-writer.ensures) (omega arith)

pub finish-requires : goal.finish-requires
finish-requires g c =
    let sent = c.add.new.self.sent in
    let held = c.add.new.self.held in
    let few = subst (λ (v : ImageWriter). sent + length held ≤ v.sent + length v.held + image_limit) c.new-writer.ensures c.in_ok-add.ensures.few in
    omega (arith, few)

pub returns-in_err-add-clause-written : goal.returns-in_err-add-clause-written
returns-in_err-add-clause-written g c =
    let p = err_from_is_err_and c.from_residual.result c.from_residual.ensures.1 in
    let at = c.args.g.now in
    let sink = transcript_of g.W.Sink.contents g.W.Failures.failure_count c.args.w.now c.add.new.w in
    let cut = subst (λ (v : ImageWriter). IsCutOff sink (pending v.held at c.args.spans.now) v.sent c.in_err-add.field-0.0.written) c.new-writer.ensures c.in_err-add.ensures.err in
    rw (p.1, p.2) (cut-first sink (image_of_pixels at.columns at.rows (covers c.args.spans.now)) c.in_err-add.field-0.0.written cut)

pub returns-in_err-add-clause-within : goal.returns-in_err-add-clause-within
returns-in_err-add-clause-within g c =
    let p = err_from_is_err_and c.from_residual.result c.from_residual.ensures.1 in
    let at = c.args.g.now in
    let sink = transcript_of g.W.Sink.contents g.W.Failures.failure_count c.args.w.now c.add.new.w in
    let cut = subst (λ (v : ImageWriter). IsCutOff sink (pending v.held at c.args.spans.now) v.sent c.in_err-add.field-0.0.written) c.new-writer.ensures c.in_err-add.ensures.err in
    rw (p.1, p.2) (cut-within sink (image_of_pixels at.columns at.rows (covers c.args.spans.now)) c.in_err-add.field-0.0.written cut)

pub returns-in_err-add-clause-failed : goal.returns-in_err-add-clause-failed
returns-in_err-add-clause-failed g c =
    let p = err_from_is_err_and c.from_residual.result c.from_residual.ensures.1 in
    rw p.1 c.in_err-add.ensures.err.failed

pub returns-in_err-finish-clause-within : goal.returns-in_err-finish-clause-within
returns-in_err-finish-clause-within g c =
    let p = err_from_is_err_and c.from_residual-in_err-finish.result c.from_residual-in_err-finish.ensures.1 in
    let at = c.args.g.now in
    let writer = c.add.new.self in
    let sink = transcript_of g.W.Sink.contents g.W.Failures.failure_count c.args.w.now c.add.new.w in
    let out = subst (λ (v : ImageWriter). IsSentTo sink (pending v.held at c.args.spans.now) v.sent writer.sent) c.new-writer.ensures c.in_ok-add.ensures.ok in
    let held = subst (λ (v : ImageWriter). writer.held ≡ drop (writer.sent - v.sent) (pending v.held at c.args.spans.now)) c.new-writer.ensures c.in_ok-add.ensures.held in
    rw (p.1, p.2)
    (rest-within writer.sent c.in_err-finish.field-0.0.written (image_of_pixels at.columns at.rows (covers c.args.spans.now)) writer.held held out.high
    c.in_err-finish.ensures.err.high)

pub returns-in_err-finish-clause-failed : goal.returns-in_err-finish-clause-failed
returns-in_err-finish-clause-failed g c =
    let p = err_from_is_err_and c.from_residual-in_err-finish.result c.from_residual-in_err-finish.ensures.1 in
    rw p.1 (subst (λ (n : ℕ). Fails n (g.W.Failures.failure_count c.finish.new.w)) c.in_ok-add.ensures.ok.same c.in_err-finish.ensures.err.failed)

pub returns-clause-same : goal.returns-clause-same
returns-clause-same g c = c.in_ok-finish.ensures.same ∙ c.in_ok-add.ensures.ok.same
