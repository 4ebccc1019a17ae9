use Rattle.std.proofs.Common.{◌+◌, length, refl}
use Rattle.devices.specs.Transcript.{Transcript, transcript_of}
use Rattle.devices.specs.declared.writing.WriteFault.{WriteFault}
use Rattle.stlslice.proofs.lemmas.Put.{put-none, put-whole}
use Rattle.stlslice.proofs.write.flush.put_more.Goals as goal

pub returns-in-Ok : goal.returns-in-Ok
returns-in-Ok g c =
    let sink : Transcript = transcript_of g.O.Sink.contents g.O.Failures.failure_count c.args.sink.now c.put_all.new.w in
    put-whole (c.args.before + length c.args.part.now) sink c.args.part.now c.args.before refl c.in-Ok.ensures.ok c.in-Ok.ensures.same

pub returns-in-Err : goal.returns-in-Err
returns-in-Err g c =
    let f : WriteFault = c.in-Err.fault in
    let sink : Transcript = transcript_of g.O.Sink.contents g.O.Failures.failure_count c.args.sink.now c.put_all.new.w in
    let out = c.in-Err.ensures in
    put-none (record { written = c.args.before + f.written }) sink c.args.part.now c.args.before f.written refl out.written out.within out.failed
