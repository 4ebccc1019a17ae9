-- Spans of one layer hold no more pixels than the layer.
use Rattle.std.proofs.Common.{◌≡◌, ℕ, ◌+◌, ◌-◌, ◌*◌, ◌<◌, ◌≤◌, ◌⊎◌, inl, inr, List, [], ◌∷◌, true, ap, arith}
use Rattle.std.specs.List.{list_all}
use Rattle.std.proofs.lemmas.List.Sums.{sum_by-cons}
use Rattle.std.proofs.lemmas.Bool.{and_parts}
use Rattle.std.proofs.lemmas.Bool.Decides.{nat_tests}
use Rattle.std.proofs.Math.Nat.{mul-le-mul, mul-le-mul_right}
use Rattle.raster.specs.declared.span.Span.{Span}
use Rattle.raster.specs.Span.{IsLayerOfSpans, are_apart, is_span_before, is_span_within, span_area}
use Rattle.geometry.specs.declared.limits.TheConstants.{COLUMN_LIMIT}

-- what the tests of a span say
pub record IsWithin (columns rows : ℕ) (s : Span) : Type 0 where
  pub row : s.row < rows
  pub some : s.from < s.to
  pub to : s.to ≤ columns

within-test : (columns rows : ℕ) (s : Span) → is_span_within columns rows s ≡ true → IsWithin columns rows s
within-test columns rows s h = record { row = grind (arith, nat_tests); some = grind (arith, nat_tests); to = grind (arith, nat_tests) }

pub before-test : (s t : Span) → is_span_before s t ≡ true → (s.row < t.row) ⊎ ((s.row ≡ t.row) × (s.to < t.from))
before-test s t h = grind (arith, nat_tests)

-- a later span begins no sooner than the earlier one ends, counted along the rows
after : (columns rows : ℕ) (s t : Span) → IsWithin columns rows s → (s.row < t.row) ⊎ ((s.row ≡ t.row) × (s.to < t.from)) → s.row * columns + s.to ≤ t.row * columns + t.from
after columns rows s t w (inl lower) =
    let k : (s.row + 1) * columns ≤ t.row * columns = mul-le-mul_right columns (omega arith) in
    omega (arith, k, w.to)
after columns rows s t w (inr same) =
    let k : s.row * columns ≡ t.row * columns = ap (λ n. n * columns) same.0 in
    omega (arith, k, same.1)

-- the end of a span, counted along the rows
end-le : (columns rows : ℕ) (s : Span) → IsWithin columns rows s → s.row * columns + s.to ≤ columns * rows
end-le columns rows s w =
    let k : (s.row + 1) * columns ≤ rows * columns = mul-le-mul_right columns (omega (arith, w.row)) in
    omega (arith, k, w.to)

-- the first of the spans, if there is one, begins at a place or after it
abbrev Begins : ℕ → ℕ → List Span → Type 0
Begins columns at [] = Unit {0}
Begins columns at (s ∷ rest) = at ≤ s.row * columns + s.from

begins-after : (columns rows : ℕ) (s : Span) (rest : List Span) → IsWithin columns rows s → list_all (is_span_before s) rest ≡ true → Begins columns (s.row * columns + s.to) rest
begins-after columns rows s [] w h = tt
begins-after columns rows s (t ∷ rest) w h =
    after columns rows s t w (before-test s t (and_parts (is_span_before s t) (list_all (is_span_before s) rest) h).0)

step : (columns rows at row from to more : ℕ) → from < to → at ≤ row * columns + from → more + (row * columns + to) ≤ columns * rows → to - from + more + at ≤ columns * rows
step columns rows at row from to more some begins h = omega arith

span_area-le : (columns rows : ℕ) (spans : List Span) (at : ℕ) → at ≤ columns * rows → Begins columns at spans → list_all (is_span_within columns rows) spans ≡ true → are_apart spans ≡ true → span_area spans + at ≤ columns * rows
span_area-le columns rows [] at low begins within apart = omega arith
span_area-le columns rows (s ∷ rest) at low begins within apart =
    let w : IsWithin columns rows s = within-test columns rows s (and_parts (is_span_within columns rows s) (list_all (is_span_within columns rows) rest) within).0 in
    rw (sum_by-cons (λ (t : Span). t.to - t.from) s rest)
    (step columns rows at s.row s.from s.to (span_area rest) w.some begins
    (span_area-le columns rows rest (s.row * columns + s.to) (end-le columns rows s w)
    (begins-after columns rows s rest w (and_parts (list_all (is_span_before s) rest) (are_apart rest) apart).0)
    (and_parts (is_span_within columns rows s) (list_all (is_span_within columns rows) rest) within).1
    (and_parts (list_all (is_span_before s) rest) (are_apart rest) apart).1))

begins-at_zero : (columns : ℕ) (spans : List Span) → Begins columns 0 spans
begins-at_zero columns [] = tt
begins-at_zero columns (s ∷ rest) = omega arith

-- the spans of a layer hold at most as many pixels as the largest layer has
pub span_area-fits : (spans : List Span) → IsLayerOfSpans spans → span_area spans ≤ COLUMN_LIMIT * COLUMN_LIMIT
span_area-fits spans h =
    let k : span_area spans + 0 ≤ h.columns * h.rows = span_area-le h.columns h.rows spans 0 (omega arith) (begins-at_zero h.columns spans) h.form.within h.form.apart in
    let m : h.columns * h.rows ≤ COLUMN_LIMIT * COLUMN_LIMIT = mul-le-mul h.few_columns h.few_rows in
    omega arith
