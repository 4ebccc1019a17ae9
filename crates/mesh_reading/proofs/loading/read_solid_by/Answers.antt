use Rattle.std.proofs.Common.{◌≡◌, [], ap}
use Rattle.std.specs.Prelude.{Err}
use Rattle.mesh_reading.specs.Loading.{IsLoadFault, IsSolidOf, IsWeldedAsFed}
use Rattle.devices.specs.Transcript.{Transcript, transcript_of}
use Rattle.mesh_reading.specs.declared.read_fault.ReadFault.TheVariants.{Read}
use Rattle.mesh_reading.proofs.lemmas.Reading.{at_start, solid_read, stopped_as}
use Rattle.mesh_reading.proofs.loading.read_solid_by.Goals as goal

pub returns : goal.returns
returns g c =
    let unit = c.args.unit in
    let start = g.I.Source.remaining c.args.source.now in
    let source : Transcript = transcript_of g.I.Source.remaining g.I.Failures.failure_count c.args.source.now c.weld_by_workers.new.source in
    let read = c.in_ok-weld_by_workers.ensures in
    let all : IsWeldedAsFed unit c.weld_by_workers.new.reader c.weld_by_workers.new.welder start (g.I.Source.remaining c.weld_by_workers.new.source) =
    read.fed unit start ([], (λ few. c.new-welder.ensures), at_start unit c.new-reader.result start c.new-reader.ensures) in
    solid_read c.weld_end_by.result source unit all.0 c.weld_by_workers.new.reader c.weld_by_workers.new.welder c.weld_end_by.ensures all.1 all.2 read.whole
    (read.sound (λ e. cc))

pub returns-in_err-weld_by_workers : goal.returns-in_err-weld_by_workers
returns-in_err-weld_by_workers g c =
    let f = c.in_err-weld_by_workers.field-0.0 in
    let source : Transcript = transcript_of g.I.Source.remaining g.I.Failures.failure_count c.args.source.now c.weld_by_workers.new.source in
    let read = c.in_err-weld_by_workers.ensures in
    stopped_as c.from_residual.result (IsSolidOf c.args.unit) (IsLoadFault c.args.unit) source f
    c.from_residual.ensures.1 read.only (λ e. read.unread (ap Err e))
    (λ other. read.sound (λ e. other (let same : f ≡ Read = cc in same)))
