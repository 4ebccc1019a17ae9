-- The crossings of one scanline with a mesh, each by the column that it falls into.
-- - `signs crossings`: the sum of their signs
-- - `passed crossings i`: the sum of the signs of those in column i or left of it
-- - `passed_before crossings i`: the sum of the signs of those left of column i
use Rattle.std.specs.Prelude.{◌^◌, ℕ, List, ℤ, pos, negsuc, nat_le, nat_lt, if◌then◌else◌}
use Rattle.geometry.specs.Winding.{total}
use Rattle.raster.specs.declared.crossings.RowCrossing.{RowCrossing}

-- a bound for the crossings of one row: no more fit in memory, and a sum of their signs fits an `i64`
abbrev pub row_crossing_limit : ℕ
row_crossing_limit = 2 ^ 62

abbrev pub crossing_sign : RowCrossing → ℤ
crossing_sign m = if m.is_up then pos 1 else negsuc 0

abbrev pub signs : List RowCrossing → ℤ
signs crossings = total crossing_sign crossings

abbrev pub passed : List RowCrossing → ℕ → ℤ
passed crossings i = total (λ m. if nat_le m.column i then crossing_sign m else pos 0) crossings

abbrev pub passed_before : List RowCrossing → ℕ → ℤ
passed_before crossings i = total (λ m. if nat_lt m.column i then crossing_sign m else pos 0) crossings
