use Rattle.std.proofs.Common.{ℕ, ◌<◌, ◌≤◌, length}
use Rattle.raster.specs.Rows.{span_at}
use Rattle.raster.proofs.pbm.rows.start_of_row.Given as goal

abbrev pub invariant-loop-start : goal.invariant-loop-start
invariant-loop-start l =
    record {
      order : l.start ≤ l.end;
      above : (k : ℕ) → l.start ≤ k → k < length l.spans → l.number ≤ (span_at l.spans k).row;
    }

abbrev pub decreases-loop-start : goal.decreases-loop-start
decreases-loop-start l = l.start
