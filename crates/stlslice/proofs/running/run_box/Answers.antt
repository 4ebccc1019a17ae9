use Rattle.std.proofs.Common.{List, ℕ, refl}
use Rattle.std.specs.Prelude.{string_bytes}
use Rattle.mesh_reading.specs.Loading.{IsMisread, IsTextExtent}
use Rattle.devices.specs.Transcript.{Transcript, transcript_of}
use Rattle.stlslice.proofs.lemmas.Faults.{box_there, misread_box}
use Rattle.task_words.specs.declared.task.Task.TheVariants as task
use Rattle.stlslice.specs.declared.run_fault.RunFault.TheVariants as fault
use Rattle.stlslice.proofs.lemmas.Ends.{ended_early, keeps_self, no_memory, ran_line, unready}
use Rattle.stlslice.proofs.running.run_box.Goals as goal

-- The source is left to be found: an edit that reads it by another call takes away its name.

pub returns-in_err-extent : goal.returns-in_err-extent
returns-in_err-extent g c =
    let t = task.Box c.args.unit in
    let f = c.in_err-extent.field-0.0 in
    let sink : Transcript = transcript_of g.O.Sink.contents g.O.Failures.failure_count c.args.sink.now c.args.sink.now in
    unready c.from_residual.result t _ sink (g.O.Sink.is_settled c.args.sink.now) (IsTextExtent c.args.unit) (IsMisread c.args.unit) f
    c.from_residual.ensures.1
    c.in_err-extent.ensures (λ input h. misread_box c.args.unit input f h) (keeps_self (g.O.Sink.contents c.args.sink.now), refl)

pub returns-in_err-line : goal.returns-in_err-line
returns-in_err-line g c =
    let t = task.Box c.args.unit in
    let sink : Transcript = transcript_of g.O.Sink.contents g.O.Failures.failure_count c.args.sink.now c.args.sink.now in
    ended_early c.from_residual-in_err-line.result t _ sink (g.O.Sink.is_settled c.args.sink.now) (IsTextExtent c.args.unit) (IsMisread c.args.unit)
    c.in_ok-extent.extent fault.Memory
    c.in_ok-extent.ensures (keeps_self (g.O.Sink.contents c.args.sink.now), refl) (λ input from. no_memory t input fault.Memory refl)
    c.from_residual-in_err-line.ensures.1

pub returns : goal.returns
returns g c =
    let t = task.Box c.args.unit in
    let text : List ℕ = c.as_bytes.result.now in
    let sink : Transcript = transcript_of g.O.Sink.contents g.O.Failures.failure_count c.args.sink.now c.write_all.new.sink in
    ran_line c.write_all.result t _ sink (g.O.Sink.is_settled c.write_all.new.sink) (IsTextExtent c.args.unit) (IsMisread c.args.unit)
    c.in_ok-extent.extent text
    c.in_ok-extent.ensures
    (λ input from. rw c.as_bytes.ensures.value
    (box_there c.args.unit input c.in_ok-extent.extent (string_bytes c.in_ok-line.line) from c.in_ok-line.ensures))
    c.write_all.ensures.flushed c.write_all.ensures.ok c.write_all.ensures.same c.write_all.ensures.err
