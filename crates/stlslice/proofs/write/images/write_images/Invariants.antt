use Rattle.std.proofs.Common.{◌≡◌}
use Rattle.raster.specs.Image.{images}
use Rattle.raster.proofs.lemmas.Written.{IsUnderWay}
use Rattle.stlslice.proofs.lemmas.Stream.{images_from}
use Rattle.stlslice.proofs.write.images.write_images.Given as goal

abbrev pub invariant-loop-layer : goal.invariant-loop-layer
invariant-loop-layer g l =
    let job = l.build.job in
    record {
      text : IsUnderWay (g.O.Sink.contents l.initial.sink) (g.O.Sink.contents l.sink) (images job.grid job.rule job.solid.facets)
          0 l.writer.sent l.writer.held (images_from job l.layer-index);
      counted : g.O.Failures.failure_count l.sink ≡ g.O.Failures.failure_count l.initial.sink;
    }
