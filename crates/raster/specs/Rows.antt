-- The spans of one row among those of a layer.
use Rattle.std.specs.Prelude.{◌<◌, ◌≤◌, ℕ, Bool, ◌&&◌, List, length, slice_index_or, nat_lt, nat_le}
use Rattle.std.specs.List.{list_any, list_all}
use Rattle.raster.specs.declared.span.Span.{Span}

abbrev pub span_at : List Span → ℕ → Span
span_at spans k = slice_index_or spans k (record { row = 0; from = 0; to = 0 })

-- the first n spans are those in rows below this one
pub record IsRowStart (spans : List Span) (n row : ℕ) : Type 0 where
  pub within : n ≤ length spans
  pub below : (k : ℕ) → k < n → (span_at spans k).row < row
  pub above : (k : ℕ) → n ≤ k → k < length spans → row ≤ (span_at spans k).row

-- the column lies in one of the spans, whatever their row
abbrev pub crosses : List Span → ℕ → Bool
crosses spans i = list_any (λ s. nat_le s.from i && nat_lt i s.to) spans

-- neither empty nor past this number of columns
abbrev pub are_within : ℕ → List Span → Bool
are_within columns spans = list_all (λ s. nat_lt s.from s.to && nat_le s.to columns) spans
