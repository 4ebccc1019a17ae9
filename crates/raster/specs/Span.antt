-- Spans of filled pixels.
-- - `covers spans i j`: whether the pixel of column i and row j lies in a span
-- - `AreSpans`: spans in a grid, in order, not empty, not touching
-- - `span_area`: the number of pixels in the spans of a layer
use Rattle.std.specs.Prelude.{◌≡◌, ◌≤◌, ℕ, ◌-◌, Bool, true, ◌&&◌, ◌||◌, List, [], ◌∷◌, ◌==◌, nat_lt, nat_le, sum_by}
use Rattle.std.specs.List.{list_all, list_any}
use Rattle.raster.specs.declared.span.Span.{Span}
use Rattle.geometry.specs.declared.limits.TheConstants.{COLUMN_LIMIT}

abbrev pub covers : List Span → ℕ → ℕ → Bool
covers spans i j = list_any (λ s. s.row == j && nat_le s.from i && nat_lt i s.to) spans

-- not empty, and in the grid
abbrev pub is_span_within : ℕ → ℕ → Span → Bool
is_span_within columns rows s = nat_lt s.row rows && nat_lt s.from s.to && nat_le s.to columns

-- in an earlier row, or in the same row with a gap after it
abbrev pub is_span_before : Span → Span → Bool
is_span_before s t = nat_lt s.row t.row || (s.row == t.row && nat_lt s.to t.from)

-- each before all that come after it
abbrev pub are_apart : List Span → Bool
are_apart [] = true
are_apart (s ∷ rest) = list_all (is_span_before s) rest && are_apart rest

pub record AreSpans (columns rows : ℕ) (spans : List Span) : Type 0 where
  pub within : list_all (is_span_within columns rows) spans ≡ true
  pub apart : are_apart spans ≡ true

-- the number of pixels in the spans
abbrev pub span_area : List Span → ℕ
span_area spans = sum_by (λ s. s.to - s.from) spans

-- spans of a layer of some grid
pub record IsLayerOfSpans (spans : List Span) : Type 0 where
  pub columns : ℕ
  pub rows : ℕ
  pub few_columns : columns ≤ COLUMN_LIMIT
  pub few_rows : rows ≤ COLUMN_LIMIT
  pub form : AreSpans columns rows spans
