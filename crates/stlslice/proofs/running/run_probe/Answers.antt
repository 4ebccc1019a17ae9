use Rattle.std.proofs.Common.{List, ℕ, refl}
use Rattle.std.specs.Prelude.{Ok, string_bytes}
use Rattle.mesh_reading.specs.Loading.{IsLoadFault, IsSolidOf}
use Rattle.devices.specs.Transcript.{Transcript, transcript_of}
use Rattle.stlslice.proofs.lemmas.Faults.{probed_fault, probed_there, unloaded, unplaced}
use Rattle.task_words.specs.declared.task.Task.TheVariants as task
use Rattle.stlslice.proofs.lemmas.Ends.{ended_early, keeps_self, ran_line, unready}
use Rattle.stlslice.proofs.running.run_probe.Goals as goal

pub returns-in_err-solid : goal.returns-in_err-solid
returns-in_err-solid g c =
    let t = task.Probe c.args.asked.unit c.args.asked.pitch c.args.asked.layer c.args.asked.given c.args.asked.voxel.0 c.args.asked.voxel.1 c.args.asked.voxel.2 in
    let f = c.in_err-solid.field-0.0 in
    let source : Transcript = transcript_of g.I.Source.remaining g.I.Failures.failure_count c.args.source.now c.read_solid.new.source in
    let sink : Transcript = transcript_of g.O.Sink.contents g.O.Failures.failure_count c.args.sink.now c.args.sink.now in
    unready c.from_residual.result t source sink (g.O.Sink.is_settled c.args.sink.now) (IsSolidOf c.args.asked.unit) (IsLoadFault c.args.asked.unit) f
    c.from_residual.ensures.1
    c.in_err-solid.ensures (λ input h. unloaded t input f refl h) (keeps_self (g.O.Sink.contents c.args.sink.now), refl)

pub returns-in_err-grid : goal.returns-in_err-grid
returns-in_err-grid g c =
    let t = task.Probe c.args.asked.unit c.args.asked.pitch c.args.asked.layer c.args.asked.given c.args.asked.voxel.0 c.args.asked.voxel.1 c.args.asked.voxel.2 in
    let f = c.in_err-grid.field-0.0 in
    let source : Transcript = transcript_of g.I.Source.remaining g.I.Failures.failure_count c.args.source.now c.read_solid.new.source in
    let sink : Transcript = transcript_of g.O.Sink.contents g.O.Failures.failure_count c.args.sink.now c.args.sink.now in
    ended_early c.from_residual-in_err-grid.result t source sink (g.O.Sink.is_settled c.args.sink.now) (IsSolidOf c.args.asked.unit)
    (IsLoadFault c.args.asked.unit) c.in_ok-solid.solid f
    c.in_ok-solid.ensures (keeps_self (g.O.Sink.contents c.args.sink.now), refl)
    (λ input from. unplaced t c.args.asked.pitch c.args.asked.layer c.args.asked.given input c.in_ok-solid.solid f refl (λ cause none. rw none refl) from
    c.in_err-grid.ensures.err)
    c.from_residual-in_err-grid.ensures.1

pub returns-in_err-line : goal.returns-in_err-line
returns-in_err-line g c =
    let t = task.Probe c.args.asked.unit c.args.asked.pitch c.args.asked.layer c.args.asked.given c.args.asked.voxel.0 c.args.asked.voxel.1 c.args.asked.voxel.2 in
    let f = c.in_err-line.field-0.0 in
    let source : Transcript = transcript_of g.I.Source.remaining g.I.Failures.failure_count c.args.source.now c.read_solid.new.source in
    let sink : Transcript = transcript_of g.O.Sink.contents g.O.Failures.failure_count c.args.sink.now c.args.sink.now in
    ended_early c.from_residual-in_err-line.result t source sink (g.O.Sink.is_settled c.args.sink.now) (IsSolidOf c.args.asked.unit)
    (IsLoadFault c.args.asked.unit) c.in_ok-solid.solid f
    c.in_ok-solid.ensures (keeps_self (g.O.Sink.contents c.args.sink.now), refl)
    (λ input from. probed_fault c.args.asked.unit c.args.asked.pitch c.args.asked.layer c.args.asked.given c.args.asked.voxel.0 c.args.asked.voxel.1 c.args.asked.voxel.2 input
    c.in_ok-solid.solid c.in_ok-grid.grid f
    from c.in_ok-grid.ensures.ok c.in_err-line.ensures.err)
    c.from_residual-in_err-line.ensures.1

pub returns : goal.returns
returns g c =
    let t = task.Probe c.args.asked.unit c.args.asked.pitch c.args.asked.layer c.args.asked.given c.args.asked.voxel.0 c.args.asked.voxel.1 c.args.asked.voxel.2 in
    let text : List ℕ = c.as_bytes.result.now in
    let source : Transcript = transcript_of g.I.Source.remaining g.I.Failures.failure_count c.args.source.now c.read_solid.new.source in
    let sink : Transcript = transcript_of g.O.Sink.contents g.O.Failures.failure_count c.args.sink.now c.write_all.new.sink in
    ran_line c.write_all.result t source sink (g.O.Sink.is_settled c.write_all.new.sink) (IsSolidOf c.args.asked.unit) (IsLoadFault c.args.asked.unit)
    c.in_ok-solid.solid text
    c.in_ok-solid.ensures
    (λ input from. rw c.as_bytes.ensures.value
    (probed_there c.args.asked.unit c.args.asked.pitch c.args.asked.layer c.args.asked.given c.args.asked.voxel.0 c.args.asked.voxel.1 c.args.asked.voxel.2 input c.in_ok-solid.solid
    c.in_ok-grid.grid
    (Ok (string_bytes c.in_ok-line.line)) from c.in_ok-grid.ensures.ok c.in_ok-line.ensures.ok))
    c.write_all.ensures.flushed c.write_all.ensures.ok c.write_all.ensures.same c.write_all.ensures.err
