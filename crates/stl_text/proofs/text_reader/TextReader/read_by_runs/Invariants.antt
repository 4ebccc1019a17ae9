use Rattle.std.proofs.Common.{◌≡◌, ◌<◌, ℕ, List, [], ◌++◌, All, length}
use Rattle.geometry.specs.Facet.{Facet}
use Rattle.micro_num.specs.declared.unit.Unit.{Unit as LengthUnit}
use Rattle.stl_text.specs.FacetRun.{IsFacetRun}
use Rattle.stl_text.specs.TextReader.{IsAfter, IsReading}
use Rattle.stl_text.proofs.text_reader.TextReader.read_by_runs.Given as goal

abbrev pub invariant-loop-run : goal.invariant-loop-run
invariant-loop-run g l = record {
  reading : (limit : ℕ) (unit : LengthUnit) (taken : List Facet) (fed : List ℕ) → IsAfter limit unit taken l.fn.self fed
      → All (λ run. IsFacetRun unit l.fn.chunk run.facets.items run.from.now run.to.now) l.fn.runs
      → IsReading limit unit taken l.self (fed ++ l.fn.chunk) l.rest;
  free : 0 < length l.rest → l.self.held ≡ [];
}
