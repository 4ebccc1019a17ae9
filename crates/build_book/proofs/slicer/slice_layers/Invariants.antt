use Rattle.std.proofs.Common.{◌≡◌, ◌+◌, ◌-◌, length}
use Rattle.raster.specs.Grid.{plane}
use Rattle.build_book.specs.Layer.{AreLawfulFrom}
use Rattle.build_book.proofs.slicer.slice_layers.Given as goal

abbrev pub invariant-loop-k : goal.invariant-loop-k
invariant-loop-k g l = record {
  solid : l.sweep.facets ≡ l.job.solid.facets;
  height : l.sweep.height ≡ plane l.job.grid (l.k - 1);
  whole : l.first + length l.layers.items ≡ l.k;
  lawful : AreLawfulFrom l.job l.first l.layers.items;
}
