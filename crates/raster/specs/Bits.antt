-- The pixels of a row that is packed into bytes, the leftmost in the highest bit.
use Rattle.std.specs.Prelude.{ℕ, ◌-◌, ◌/◌, ◌%◌, List, slice_index}
use Rattle.std.specs.Int.{bit_at}

-- the bit of the pixel in this column, 0 or 1
abbrev pub pixel_bit : List ℕ → ℕ → ℕ
pixel_bit row i = bit_at (slice_index row (i / 8)) (7 - i % 8)
