use Rattle.std.proofs.Common.{◌∙◌, List, ℕ, refl, subst}
use Rattle.devices.specs.Transcript.{Transcript, transcript_of}
use Rattle.build_book.specs.Job.{Job}
use Rattle.stlslice.specs.Pages.{images_of}
use Rattle.stlslice.specs.SlicedText.{sliced_text}
use Rattle.stlslice.specs.Writing.{IsWritten}
use Rattle.stlslice.specs.declared.write.Output.TheVariants as output
use Rattle.stlslice.proofs.lemmas.Ends.{keeps_self}
use Rattle.stlslice.proofs.lemmas.Put.{made-written, not-made}
use Rattle.stlslice.proofs.write.write_build.Goals as goal

pub returns-in-Images : goal.returns-in-Images
returns-in-Images g c =
    let sink : Transcript = transcript_of g.O.Sink.contents g.O.Failures.failure_count c.args.sink.now c.write_images_by.new.sink in
    rw c.in-Images.is
    (made-written c.write_images_by.result sink (g.O.Sink.is_settled c.write_images_by.new.sink) (images_of c.args.build.now.job)
    c.write_images_by.ensures)

pub returns-in-Pngs : goal.returns-in-Pngs
returns-in-Pngs g c = rw c.in-Pngs.is c.write_pngs_by.ensures

pub returns-in_err-text-in-Report : goal.returns-in_err-text-in-Report
returns-in_err-text-in-Report g c =
    let job : Job = c.args.build.now.job in
    let sink : Transcript = transcript_of g.O.Sink.contents g.O.Failures.failure_count c.args.sink.now c.args.sink.now in
    not-made c.from_residual.result sink (g.O.Sink.is_settled c.args.sink.now) (sliced_text c.args.output job.grid job.rule job.solid.facets)
    c.from_residual.ensures.1 (keeps_self (g.O.Sink.contents c.args.sink.now), refl)

pub returns-in_ok-text-in-Report : goal.returns-in_ok-text-in-Report
returns-in_ok-text-in-Report g c =
    let job : Job = c.args.build.now.job in
    let text : List ℕ = sliced_text output.Report job.grid job.rule job.solid.facets in
    let sink : Transcript = transcript_of g.O.Sink.contents g.O.Failures.failure_count c.args.sink.now c.write_all.new.sink in
    let is_settled = g.O.Sink.is_settled c.write_all.new.sink in
    rw c.in-Report.is
    (made-written c.write_all.result sink is_settled text
    (subst (λ (l : List ℕ). IsWritten c.write_all.result sink is_settled l) (c.as_bytes.ensures.value ∙ c.in_ok-text-in-Report.ensures)
    c.write_all.ensures))
