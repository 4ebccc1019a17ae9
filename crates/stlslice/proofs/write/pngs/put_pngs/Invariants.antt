use Rattle.std.proofs.Common.{◌≡◌, ◌≤◌, [], vec_capacity}
use Rattle.raster.proofs.lemmas.Written.{IsUnderWay}
use Rattle.stlslice.specs.Pngs.{pngs_of}
use Rattle.stlslice.proofs.lemmas.Pngs.{pngs_from}
use Rattle.stlslice.proofs.write.pngs.put_pngs.Given as goal

abbrev pub invariant-loop-layer : goal.invariant-loop-layer
invariant-loop-layer g l =
    record {
      text : IsUnderWay (g.O.Sink.contents l.fn.sink) (g.O.Sink.contents l.sink) (pngs_of l.build.job l.depth l.mirrors)
          0 l.written [] (pngs_from l.build.job l.depth l.mirrors l.layer-index);
      counted : g.O.Failures.failure_count l.sink ≡ g.O.Failures.failure_count l.fn.sink;
      capacity : vec_capacity l.fn.buffer ≤ vec_capacity l.buffer;
    }
