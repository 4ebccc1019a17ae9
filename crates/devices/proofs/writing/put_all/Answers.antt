use Rattle.std.proofs.Common.{◌-◌, take, drop, length, length-drop, ◌∙◌, arith}
use Rattle.std.proofs.lemmas.List.{take_all}
use Rattle.std.proofs.Math.Seq.{take-add}
use Rattle.std.proofs.KnownBytes.{Appends-kept, Appends-trans}
use Rattle.devices.proofs.writing.put_all.Goals as goal

pub loop-written-preserved : goal.loop-written-preserved
loop-written-preserved g c =
    let rest = take_all (length c.args.chunk.now - c.loop-written.written) (drop c.loop-written.written c.args.chunk.now) (omega (arith, length-drop c.loop-written.written c.args.chunk.now)) in
    let within = rw rest at c.in-Ok.ensures.within in
    let out = rw rest at c.in-Ok.ensures.out in
    record {
      within = omega (arith, within, length-drop c.loop-written.written c.args.chunk.now);
      out = rw (take-add c.loop-written.written c.in-Ok.taken c.args.chunk.now)
          (Appends-trans (g.W.Sink.contents c.args.w.now) (g.W.Sink.contents c.loop-written.w) (g.W.Sink.contents c.put.new.self)
          (take c.loop-written.written c.args.chunk.now) (take c.in-Ok.taken (drop c.loop-written.written c.args.chunk.now))
          c.loop-written.invariant.out out);
      same = c.in-Ok.ensures.ok ∙ c.loop-written.invariant.same;
    }

pub returns-in-Err-clause-written : goal.returns-in-Err-clause-written
returns-in-Err-clause-written g c =
    Appends-kept (g.W.Sink.contents c.args.w.now) (g.W.Sink.contents c.loop-written.w) (g.W.Sink.contents c.put.new.self)
    (take c.loop-written.written c.args.chunk.now) c.loop-written.invariant.out c.in-Err.ensures.none
