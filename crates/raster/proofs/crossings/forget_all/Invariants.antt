use Rattle.std.proofs.Common.{◌≡◌, ◌<◌, ℕ, [], length, get_or}
use Rattle.raster.proofs.crossings.forget_all.Given as goal

abbrev pub invariant-loop-row : goal.invariant-loop-row
invariant-loop-row g l =
    record {
      rows : length l.rows.items ≡ length l.fn.rows.items;
      empty : (k : ℕ) (d : _) → k < l.row → (get_or l.rows.items k d).items ≡ [];
    }
