use Rattle.std.proofs.Common.{◌≡◌, ◌≤◌, ◌+◌, ◌++◌, ℕ, length}
use Rattle.std.specs.Prelude.{All}
use Rattle.geometry.specs.declared.limits.TheConstants.{COLUMN_LIMIT}
use Rattle.raster.specs.Crossings.{crossings_along, crossings_in}
use Rattle.raster.proofs.crossings.push_walk.Given as goal

abbrev pub invariant-loop-row : goal.invariant-loop-row
invariant-loop-row g l =
    record {
      row : l.row ≡ l.walk.row;
      end : l.row-end ≡ l.walk.row + length l.walk.columns;
      rows : length l.out ≡ length l.fn.out;
      few_columns : All (λ column. column ≤ COLUMN_LIMIT) l.walk.columns;
      added : (j : ℕ) → crossings_in l.out j ++ crossings_along l.walk.row l.is_up l.walk.columns j
          ≡ crossings_in l.fn.out j ++ crossings_along l.fn.walk.row l.is_up l.fn.walk.columns j;
    }
