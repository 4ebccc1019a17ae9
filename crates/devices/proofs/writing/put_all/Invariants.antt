use Rattle.std.proofs.Common.{◌≡◌, ◌≤◌, ◌-◌, length, take}
use Rattle.std.specs.Io.KnownBytes.{Appends}
use Rattle.devices.proofs.writing.put_all.Given as goal

abbrev pub invariant-loop-written : goal.invariant-loop-written
invariant-loop-written g l =
    record {
      within : l.written ≤ length l.chunk;
      out : Appends (g.W.Sink.contents l.initial.w) (g.W.Sink.contents l.w) (take l.written l.chunk);
      same : g.W.Failures.failure_count l.w ≡ g.W.Failures.failure_count l.initial.w;
    }

abbrev pub decreases-loop-written : goal.decreases-loop-written
decreases-loop-written g l = length l.chunk - l.written
