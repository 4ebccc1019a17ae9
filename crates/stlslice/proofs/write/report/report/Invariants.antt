use Rattle.std.proofs.Common.{◌≡◌}
use Rattle.std.specs.Prelude.{flat_map, string_bytes}
use Rattle.raster.specs.Filler.{below}
use Rattle.stlslice.specs.SlicedText.{layer_line}
use Rattle.stlslice.proofs.write.report.report.Given as goal

abbrev pub invariant-loop-layer : goal.invariant-loop-layer
invariant-loop-layer g l =
    string_bytes l.text ≡ flat_map (layer_line l.build.job.grid l.build.job.rule l.build.job.solid.facets) (below l.layer-index)
