use Rattle.std.proofs.Common.{◌∙◌, List, ℕ, refl}
use Rattle.mesh_reading.specs.Loading.{IsLoadFault, IsSolidOf}
use Rattle.devices.specs.Transcript.{Transcript, transcript_of}
use Rattle.stlslice.proofs.lemmas.Slicing.{unloaded_slicing, unplaced_slicing}
use Rattle.build_book.specs.Job.{Job}
use Rattle.stlslice.specs.SlicedText.{sliced_text}
use Rattle.stlslice.specs.Outcome.{slicing}
use Rattle.stlslice.specs.declared.run_fault.RunFault.TheVariants as fault
use Rattle.stlslice.proofs.lemmas.Ends.{ended_early, keeps_self, no_memory, ran, sliced_there, unready}
use Rattle.stlslice.proofs.running.run_slicing.Goals as goal

pub returns-in_err-solid : goal.returns-in_err-solid
returns-in_err-solid g c =
    let t = slicing c.args.asked.unit c.args.asked.pitch c.args.asked.layer c.args.asked.rule c.args.asked.workers c.args.asked.given c.args.asked.output in
    let f = c.in_err-solid.field-0.0 in
    let source : Transcript = transcript_of g.I.Source.remaining g.I.Failures.failure_count c.args.source.now c.read_solid_by.new.source in
    let sink : Transcript = transcript_of g.O.Sink.contents g.O.Failures.failure_count c.args.sink.now c.args.sink.now in
    unready c.from_residual.result t source sink (g.O.Sink.is_settled c.args.sink.now) (IsSolidOf c.args.asked.unit) (IsLoadFault c.args.asked.unit) f
    c.from_residual.ensures.1
    c.in_err-solid.ensures
    (λ input h. unloaded_slicing c.args.asked.unit c.args.asked.pitch c.args.asked.layer c.args.asked.rule c.args.asked.workers c.args.asked.given c.args.asked.output input f h)
    (keeps_self (g.O.Sink.contents c.args.sink.now), refl)

pub returns-in_err-grid : goal.returns-in_err-grid
returns-in_err-grid g c =
    let t = slicing c.args.asked.unit c.args.asked.pitch c.args.asked.layer c.args.asked.rule c.args.asked.workers c.args.asked.given c.args.asked.output in
    let f = c.in_err-grid.field-0.0 in
    let source : Transcript = transcript_of g.I.Source.remaining g.I.Failures.failure_count c.args.source.now c.read_solid_by.new.source in
    let sink : Transcript = transcript_of g.O.Sink.contents g.O.Failures.failure_count c.args.sink.now c.args.sink.now in
    ended_early c.from_residual-in_err-grid.result t source sink (g.O.Sink.is_settled c.args.sink.now) (IsSolidOf c.args.asked.unit)
    (IsLoadFault c.args.asked.unit) c.in_ok-solid.solid f
    c.in_ok-solid.ensures (keeps_self (g.O.Sink.contents c.args.sink.now), refl)
    (λ input from. unplaced_slicing c.args.asked.unit c.args.asked.pitch c.args.asked.layer c.args.asked.rule c.args.asked.workers c.args.asked.given c.args.asked.output input
    c.in_ok-solid.solid f from c.in_err-grid.ensures.err)
    c.from_residual-in_err-grid.ensures.1

pub returns-in_err-build : goal.returns-in_err-build
returns-in_err-build g c =
    let t = slicing c.args.asked.unit c.args.asked.pitch c.args.asked.layer c.args.asked.rule c.args.asked.workers c.args.asked.given c.args.asked.output in
    let source : Transcript = transcript_of g.I.Source.remaining g.I.Failures.failure_count c.args.source.now c.read_solid_by.new.source in
    let sink : Transcript = transcript_of g.O.Sink.contents g.O.Failures.failure_count c.args.sink.now c.args.sink.now in
    ended_early c.from_residual-in_err-build.result t source sink (g.O.Sink.is_settled c.args.sink.now) (IsSolidOf c.args.asked.unit)
    (IsLoadFault c.args.asked.unit) c.in_ok-solid.solid fault.Memory
    c.in_ok-solid.ensures (keeps_self (g.O.Sink.contents c.args.sink.now), refl) (λ input from. no_memory t input fault.Memory refl)
    c.from_residual-in_err-build.ensures.1

pub returns : goal.returns
returns g c =
    let t = slicing c.args.asked.unit c.args.asked.pitch c.args.asked.layer c.args.asked.rule c.args.asked.workers c.args.asked.given c.args.asked.output in
    let job : Job = c.in_ok-build.build.job in
    let text : List ℕ = sliced_text c.args.asked.output job.grid job.rule job.solid.facets in
    let source : Transcript = transcript_of g.I.Source.remaining g.I.Failures.failure_count c.args.source.now c.read_solid_by.new.source in
    let sink : Transcript = transcript_of g.O.Sink.contents g.O.Failures.failure_count c.args.sink.now c.write_build.new.sink in
    ran c.write_build.result t source sink (g.O.Sink.is_settled c.write_build.new.sink) (IsSolidOf c.args.asked.unit) (IsLoadFault c.args.asked.unit)
    c.in_ok-solid.solid text
    c.in_ok-solid.ensures
    (λ input from. sliced_there c.args.asked.unit c.args.asked.pitch c.args.asked.layer c.args.asked.rule c.args.asked.workers c.args.asked.given c.args.asked.output input
    c.in_ok-solid.solid c.in_ok-grid.grid job from c.in_ok-grid.ensures.ok (c.in_ok-build.ensures.job ∙ c.new-job.ensures))
    c.write_build.ensures.flushed c.write_build.ensures.ok c.write_build.ensures.same c.write_build.ensures.err
