use Rattle.std.proofs.Common.{◌≡◌, [], length}
use Rattle.std.specs.Prelude.{All}
use Rattle.raster.proofs.crossings.make_room.Given as goal

abbrev pub invariant-loop-row : goal.invariant-loop-row
invariant-loop-row g l =
    record {
      rows : length l.rows.items ≡ l._row;
      empty : All (λ row. row.items ≡ []) l.rows.items;
    }
