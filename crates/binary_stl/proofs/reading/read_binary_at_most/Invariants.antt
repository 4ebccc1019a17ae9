use Rattle.std.proofs.Common.{◌≡◌, length}
use Rattle.binary_stl.specs.Binary.{AreFirstFacets}
use Rattle.binary_stl.proofs.reading.read_binary_at_most.Given as goal

abbrev pub invariant-loop-index : goal.invariant-loop-index
invariant-loop-index g l = record {
  count : length l.facets.items ≡ l.index;
  each : AreFirstFacets l.unit l.bytes l.facets.items;
}
