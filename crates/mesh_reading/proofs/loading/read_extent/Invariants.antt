use Rattle.std.proofs.Common.{◌≡◌, length}
use Rattle.std.specs.Prelude.{List}
use Rattle.geometry.specs.Facet.{Facet}
use Rattle.mesh_reading.specs.Extent.{IsExtentOf}
use Rattle.mesh_reading.specs.Loading.{IsFedBySource}
use Rattle.mesh_reading.specs.declared.window.TheConstants.{WINDOW_LEN}
use Rattle.mesh_reading.proofs.loading.read_extent.Given as goal

abbrev pub invariant-loop : goal.invariant-loop
invariant-loop g l = record {
  fed : (taken : List Facet) × IsExtentOf taken l.extent
      × IsFedBySource l.fn.unit taken l.reader (g.I.Source.remaining l.initial.source) (g.I.Source.remaining l.source);
  counted : g.I.Failures.failure_count l.source ≡ g.I.Failures.failure_count l.initial.source;
  room : length l.window ≡ WINDOW_LEN;
}
