use Rattle.std.proofs.Common.{◌≡◌, take}
use Rattle.raster.specs.Span.{span_area}
use Rattle.raster.proofs.span.area.Given as goal

abbrev pub invariant-loop-span : goal.invariant-loop-span
invariant-loop-span l = l.sum ≡ span_area (take l.span-index l.spans)
