use Rattle.std.proofs.Common.{◌≡◌, ℕ, ◌<◌, take, get_or}
use Rattle.raster.specs.Bits.{pixel_bit}
use Rattle.raster.specs.Rows.{crosses}
use Rattle.raster.proofs.lemmas.Packing.{indicator}
use Rattle.raster.proofs.pbm.rows.draw_row.Given as goal

abbrev pub invariant-loop-span : goal.invariant-loop-span
invariant-loop-span l =
    record {
      bytes : (k : ℕ) → get_or l.row k 0 < 256;
      drawn : (i : ℕ) → pixel_bit l.row i ≡ indicator (crosses (take l.span-index l.spans) i);
    }
