use Rattle.std.proofs.Common.{◌≡◌, ◌++◌, true}
use Rattle.std.specs.Prelude.{List, Option, ℕ}
use Rattle.std.specs.Io.KnownBytes.{Consumes, IsAtEnd}
use Rattle.geometry.specs.Facet.{Facet}
use Rattle.geometry.specs.declared.limits.TheConstants.{FACET_LIMIT}
use Rattle.micro_num.specs.declared.unit.Unit.{Unit as LengthUnit}
use Rattle.stl_text.specs.TextReader.{IsAfter}
use Rattle.mesh_reading.specs.Loading.{AreWelded, IsWeldedAsFed}
use Rattle.mesh_reading.proofs.loading.weld_by_workers.Given as goal

-- the round at hand is not read yet, and the facets of the round before are taken off the reader, and not welded yet
abbrev pub invariant-loop : goal.invariant-loop
invariant-loop g l = record {
  fed : (unit : LengthUnit) (start : Option (List ℕ))
      → IsWeldedAsFed unit l.initial.reader l.initial.welder start (g.I.Source.remaining l.initial.source)
      → (welded : List Facet) × AreWelded welded l.welder
      × ((fed : List ℕ) × Consumes start (g.I.Source.remaining l.source) (fed ++ l.rounds.round.bytes)
      × IsAfter FACET_LIMIT unit (welded ++ l.rounds.facets.items) l.reader fed);
  counted : g.I.Failures.failure_count l.source ≡ g.I.Failures.failure_count l.initial.source;
  end : l.rounds.round.is_last ≡ true → IsAtEnd (g.I.Source.remaining l.source);
  next : l.rounds.next.is_last ≡ l.rounds.round.is_last;
}
