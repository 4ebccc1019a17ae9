-- The crossings of the scanlines of a layer with a mesh, row by row.
-- - `crossings_in rows j`: the crossings of row j
-- - `row_signs rows j`: the sum of their signs
-- - `row_passed rows j i`: the sum of the signs of those in column i or left of it
use Rattle.std.specs.Prelude.{◌≡◌, slice_index_or, ℕ, ◌+◌, Bool, true, List, [], ◌∷◌, ℤ, nat_le, ◌==◌, if◌then◌else◌}
use Rattle.std.specs.List.{list_all}
use Rattle.raster.specs.declared.crossings.RowCrossing.{RowCrossing}
use Rattle.raster.specs.RowCrossing.{passed, signs}

abbrev pub crossings_in : List (List RowCrossing) → ℕ → List RowCrossing
crossings_in rows j = slice_index_or rows j []

abbrev pub row_signs : List (List RowCrossing) → ℕ → ℤ
row_signs rows j = signs (crossings_in rows j)

abbrev pub row_passed : List (List RowCrossing) → ℕ → ℕ → ℤ
row_passed rows j i = passed (crossings_in rows j) i

abbrev pub AreCrossingsWithin : ℕ → List (List RowCrossing) → Type 0
AreCrossingsWithin columns rows = (j : ℕ) → list_all (λ m. nat_le m.column columns) (crossings_in rows j) ≡ true

-- what a facet that crosses one row after another, from a row on, adds to row j
abbrev pub crossings_along : ℕ → Bool → List ℕ → ℕ → List RowCrossing
crossings_along row is_up [] j = []
crossings_along row is_up (c ∷ columns) j =
    if row == j then record { column = c; is_up = is_up } ∷ crossings_along (row + 1) is_up columns j else crossings_along (row + 1) is_up columns j
