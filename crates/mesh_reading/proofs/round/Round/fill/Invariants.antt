use Rattle.std.proofs.Common.{◌≡◌, ◌≤◌, ◌-◌, false, length}
use Rattle.std.specs.Prelude.{take}
use Rattle.std.specs.Io.KnownBytes.{Consumes}
use Rattle.mesh_reading.proofs.round.Round.fill.Given as goal

abbrev pub invariant-round : goal.invariant-round
invariant-round g l = record {
  taken : Consumes (g.I.Source.remaining l.initial.source) (g.I.Source.remaining l.source) (take l.self-inside.len l.self-inside.room.items);
  counted : g.I.Failures.failure_count l.source ≡ g.I.Failures.failure_count l.initial.source;
  within : l.self-inside.len ≤ length l.self-inside.room.items;
  wanted : l.self-inside.wanted ≡ l.initial.self-inside.wanted;
  more : l.self-inside.is_last ≡ false;
}

abbrev pub decreases-round : goal.decreases-round
decreases-round g l = l.self-inside.wanted - l.self-inside.len
