use Rattle.std.proofs.Common.{◌≡◌, ℕ, length}
use Rattle.std.specs.Prelude.{List, Option}
use Rattle.micro_num.specs.declared.unit.Unit.{Unit as LengthUnit}
use Rattle.mesh_reading.specs.Loading.{IsWeldedAsFed}
use Rattle.mesh_reading.specs.declared.window.TheConstants.{WINDOW_LEN}
use Rattle.mesh_reading.proofs.loading.weld_windows.Given as goal

abbrev pub invariant-loop : goal.invariant-loop
invariant-loop g l = record {
  fed : (unit : LengthUnit) (start : Option (List ℕ))
      → IsWeldedAsFed unit l.initial.reader l.initial.welder start (g.I.Source.remaining l.initial.source)
      → IsWeldedAsFed unit l.reader l.welder start (g.I.Source.remaining l.source);
  counted : g.I.Failures.failure_count l.source ≡ g.I.Failures.failure_count l.initial.source;
  room : length l.window ≡ WINDOW_LEN;
}
