use Rattle.std.proofs.Common.{◌≡◌, ◌≤◌, ℕ, length}
use Rattle.raster.specs.ColumnSums.{AreZero}
use Rattle.raster.specs.Crossings.{AreCrossingsWithin, crossings_in}
use Rattle.raster.specs.Filler.{AreSpansBelow}
use Rattle.raster.proofs.filler.fill_rows.Given as goal

abbrev pub invariant-loop-row : goal.invariant-loop-row
invariant-loop-row g l =
    record {
      rows : length l.crossings ≡ length l.fn.crossings;
      left : (j : ℕ) → l.row ≤ j → crossings_in l.crossings j ≡ crossings_in l.fn.crossings j;
      between_rows : AreZero l.columns.sums.items;
      spans : (columns : ℕ) → AreCrossingsWithin columns l.fn.crossings → AreSpansBelow l.rule columns l.row l.fn.crossings l.out.items;
    }
