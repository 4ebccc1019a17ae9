use Rattle.std.proofs.Common.{◌≡◌, [], drop}
use Rattle.std.specs.Prelude.{flat_map}
use Rattle.raster.proofs.lemmas.Written.{IsUnderWay}
use Rattle.stlslice.proofs.write.pages.put_pages.Given as goal

abbrev pub invariant-loop-page : goal.invariant-loop-page
invariant-loop-page g l =
    let bytes = g.D.Drawing.bytes in
    record {
      text : IsUnderWay (g.O.Sink.contents l.fn.sink) (g.O.Sink.contents l.sink) (flat_map bytes l.pages) l.before l.written []
          (flat_map bytes (drop l.page-index l.pages));
      counted : g.O.Failures.failure_count l.sink ≡ g.O.Failures.failure_count l.fn.sink;
    }
