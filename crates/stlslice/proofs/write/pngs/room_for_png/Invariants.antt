use Rattle.std.proofs.Common.{◌<◌, ◌≤◌, ℕ, length, slice_index_or}
use Rattle.build_book.specs.Layer.{Layer}
use Rattle.layer_png.specs.Depth.{bits}
use Rattle.layer_png.specs.Text.{most_png_bytes}
use Rattle.stlslice.proofs.write.pngs.room_for_png.Given as goal

abbrev pub invariant-loop-layer : goal.invariant-loop-layer
invariant-loop-layer g l =
    (k : ℕ) (d : Layer) → k < l.layer-index
    → most_png_bytes (bits l.depth) l.grid.columns l.grid.rows (length (slice_index_or l.layer-items k d).spans) ≤ l.room
