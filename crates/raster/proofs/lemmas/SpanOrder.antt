-- What the form of spans says of those at their places.
use Rattle.std.proofs.Common.{◌≡◌, ℕ, zero, suc, ◌+◌, ◌-◌, ◌<◌, ◌≤◌, ◌⊎◌, inl, inr, List, [], ◌∷◌, Bool, true, false, ◌&&◌, ◌||◌, length, take, refl, ap, sym, ◌∙◌, arith}
use Rattle.std.specs.Prelude.{nat_le, nat_lt}
use Rattle.std.specs.List.{list_all}
use Rattle.std.proofs.Math.Seq.{take-suc}
use Rattle.std.proofs.lemmas.Bool.{and_parts, cases_lt}
use Rattle.std.proofs.lemmas.List.Folds.{list_any-append}
use Rattle.std.proofs.lemmas.List.Sums.{AllPass-from_list_all}
use Rattle.std.proofs.lemmas.Bool.Decides.{nat_tests}
use Rattle.raster.specs.declared.span.Span.{Span}
use Rattle.raster.specs.Span.{are_apart, is_span_before, is_span_within}
use Rattle.raster.specs.Rows.{IsRowStart, are_within, crosses, span_at}
use Rattle.raster.proofs.lemmas.Areas.{before-test}
use Rattle.raster.proofs.lemmas.Packing.{indicator}

row-le : (s t : Span) → (s.row < t.row) ⊎ ((s.row ≡ t.row) × (s.to < t.from)) → s.row ≤ t.row
row-le s t (inl h) = omega arith
row-le s t (inr h) = omega (arith, h.0)

rows-ascend : (spans : List Span) (k l : ℕ) → are_apart spans ≡ true → k < l → l < length spans → (span_at spans k).row ≤ (span_at spans l).row
rows-ascend [] k l h low room = absurd (omega arith)
rows-ascend (s ∷ rest) k zero h low room = absurd (omega arith)
rows-ascend (s ∷ rest) zero (suc l) h low room =
    row-le s (span_at rest l) (before-test s (span_at rest l) (AllPass-from_list_all (is_span_before s) rest (and_parts (list_all (is_span_before s) rest) (are_apart rest) h).0 l (record { row = 0; from = 0; to = 0 }) (omega arith)))
rows-ascend (s ∷ rest) (suc k) (suc l) h low room =
    rows-ascend rest k l (and_parts (list_all (is_span_before s) rest) (are_apart rest) h).1 (omega arith) (omega arith)

last-or-before : (k n : ℕ) → k < n → (k ≡ n - 1) ⊎ (k < n - 1)
last-or-before k n h = grind arith

within-row : (columns rows : ℕ) (s : Span) → is_span_within columns rows s ≡ true → s.row < rows
within-row columns rows s h = grind (arith, nat_tests, h)

-- all spans are those in rows below the last one
pub split-all : (columns rows : ℕ) (spans : List Span) → list_all (is_span_within columns rows) spans ≡ true → IsRowStart spans (length spans) rows
split-all columns rows spans h = record {
  within = omega arith;
  below = λ k low. within-row columns rows (span_at spans k)
      (AllPass-from_list_all (is_span_within columns rows) spans h k (record { row = 0; from = 0; to = 0 }) low);
  above = λ k low high. absurd (omega (arith, low, high));
}

-- the spans of a row begin after a span of a lower row
pub split-here : (spans : List Span) (start end number : ℕ) → are_apart spans ≡ true → IsRowStart spans end (number + 1) → start ≤ end → 0 < start → ((span_at spans (start - 1)).row ≡ number → ⊥) → ((k : ℕ) → start ≤ k → k < length spans → number ≤ (span_at spans k).row) → IsRowStart spans start number
split-here spans start end number apart split order some other above =
    let last : (span_at spans (start - 1)).row < number = lower (span_at spans (start - 1)).row number (split.below (start - 1) (omega arith)) other in
    record {
      within = omega (arith, split.within);
      below = λ k h. elim (last-or-before k start h) [
        | inl e ↦ omega (arith, ap (λ (n : ℕ). (span_at spans n).row) e, last)
        | inr h' ↦ omega (arith, rows-ascend spans k (start - 1) apart h' (omega (arith, split.within)), last)
      ];
      above = above;
    }
  where
    lower : (r n : ℕ) → r < n + 1 → (r ≡ n → ⊥) → r < n
    lower r n h ne = grind arith

-- a column in a span lies within the width
pub within-crosses : (width : ℕ) (spans : List Span) (i : ℕ) → are_within width spans ≡ true → crosses spans i ≡ (nat_lt i width && crosses spans i)
within-crosses width spans i h = settle (crosses spans i) (nat_lt i width) (λ e. inside spans h e)
  where
    settle : (a b : Bool) → (a ≡ true → b ≡ true) → a ≡ (b && a)
    settle true b f = sym (ap (λ (c : Bool). c && true) (f refl))
    settle false true f = refl
    settle false false f = refl

    inside : (spans : List Span) → are_within width spans ≡ true → crosses spans i ≡ true → nat_lt i width ≡ true
    inside [] h e = absurd (grind arith)
    inside (s ∷ rest) h e = grind (arith, nat_tests, inside rest)

-- a span within the columns
pub span-within : (width : ℕ) (spans : List Span) (k : ℕ) → are_within width spans ≡ true → k < length spans → ((span_at spans k).from < (span_at spans k).to) × ((span_at spans k).to ≤ width)
span-within width spans k h low =
    by_tests (span_at spans k)
    (AllPass-from_list_all (λ s. nat_lt s.from s.to && nat_le s.to width) spans h k (record { row = 0; from = 0; to = 0 }) low)
  where
    by_tests : (s : Span) → (nat_lt s.from s.to && nat_le s.to width) ≡ true → (s.from < s.to) × (s.to ≤ width)
    by_tests s h = (some s (and_parts (nat_lt s.from s.to) (nat_le s.to width) h).0, inside s (and_parts (nat_lt s.from s.to) (nat_le s.to width) h).1)
      where
        some : (s : Span) → nat_lt s.from s.to ≡ true → s.from < s.to
        some s h = grind (arith, nat_tests, h)

        inside : (s : Span) → nat_le s.to width ≡ true → s.to ≤ width
        inside s h = grind (arith, nat_tests, h)

-- a pixel, after those of one more span are set
pub pixel-more : (spans : List Span) (k i old new : ℕ) → k < length spans → old ≡ indicator (crosses (take k spans) i)
    → ((span_at spans k).from ≤ i → i < (span_at spans k).to → new ≡ 1) → (i < (span_at spans k).from → new ≡ old) → ((span_at spans k).to ≤ i → new ≡ old)
    → new ≡ indicator (crosses (take (k + 1) spans) i)
pixel-more spans k i old new low before inside left right =
    settle (crosses (take k spans) i) (span_at spans k).from (span_at spans k).to before inside left right
    ∙ ap indicator (sym one-more)
  where
    one-more : crosses (take (k + 1) spans) i ≡ (crosses (take k spans) i || (nat_le (span_at spans k).from i && nat_lt i (span_at spans k).to))
    one-more =
        let next : k + 1 ≡ suc k = omega arith in
        ap (λ (n : ℕ). crosses (take n spans) i) next
        ∙ ap (λ (l : List Span). crosses l i) (take-suc spans k (record { row = 0; from = 0; to = 0 }) low)
        ∙ list_any-append (λ s. nat_le s.from i && nat_lt i s.to) (take k spans) (span_at spans k ∷ [])
        ∙ ap (λ (b : Bool). crosses (take k spans) i || b) (last (nat_le (span_at spans k).from i && nat_lt i (span_at spans k).to))
      where
        last : (b : Bool) → (b || false) ≡ b
        last true = refl
        last false = refl

    settle : (b : Bool) (from to : ℕ) → old ≡ indicator b → (from ≤ i → i < to → new ≡ 1) → (i < from → new ≡ old) → (to ≤ i → new ≡ old) → new ≡ indicator (b || (nat_le from i && nat_lt i to))
    settle b from to before inside left right = elim (cases_lt i from) [
      | inl low ↦ left low ∙ before ∙ ap indicator (sym (outside-left b from to low))
      | inr there ↦ elim (cases_lt i to) [
        | inl high ↦ inside there high ∙ ap indicator (sym (within b from to there high))
        | inr behind ↦ right behind ∙ before ∙ ap indicator (sym (outside-right b from to behind))
      ]
    ]
      where
        outside-left : (b : Bool) (from to : ℕ) → i < from → (b || (nat_le from i && nat_lt i to)) ≡ b
        outside-left b from to h = grind (arith, nat_tests)

        outside-right : (b : Bool) (from to : ℕ) → to ≤ i → (b || (nat_le from i && nat_lt i to)) ≡ b
        outside-right b from to h = grind (arith, nat_tests)

        within : (b : Bool) (from to : ℕ) → from ≤ i → i < to → (b || (nat_le from i && nat_lt i to)) ≡ true
        within b from to h k = grind (arith, nat_tests)
