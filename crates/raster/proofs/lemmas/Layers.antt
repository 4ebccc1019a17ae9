-- The rows of a layer, one after another, by its crossings.
use Rattle.std.proofs.Common.{◌≡◌, ℕ, ◌+◌, ◌<◌, ◌⊎◌, inl, inr, List, [], ◌∷◌, ◌++◌, Bool, true, false, ◌&&◌, ◌||◌, length, take, drop, refl, ap, sym, subst, ◌∙◌, arith}
use Rattle.std.specs.Prelude.{neg_ℤ, nat_le, nat_lt, ◌==◌}
use Rattle.std.specs.List.{list_all}
use Rattle.std.proofs.lemmas.List.{take-append-drop}
use Rattle.std.proofs.lemmas.Bool.{and_from, and_parts}
use Rattle.std.proofs.lemmas.Bool.Decides.{nat_tests}
use Rattle.exact_int.proofs.lemmas.Lists.{all-weaker}
use Rattle.raster.specs.declared.rule.Rule.{Rule}
use Rattle.raster.specs.declared.span.Span.{Span}
use Rattle.raster.specs.declared.crossings.RowCrossing.{RowCrossing}
use Rattle.raster.specs.Rule.{is_inside}
use Rattle.raster.specs.Span.{are_apart, covers, is_span_before}
use Rattle.raster.specs.RowSpans.{AreRowSpans}
use Rattle.raster.specs.Crossings.{AreCrossingsWithin, crossings_in, row_passed}
use Rattle.raster.specs.Filler.{AreSpansBelow}
use Rattle.raster.proofs.lemmas.Sweeps.{all-join, covers-append, or-false}

covers-not : (p : Span → Bool) (i j : ℕ) → ((s : Span) → p s ≡ true → (s.row == j) ≡ false) → (spans : List Span) → list_all p spans ≡ true → covers spans i j ≡ false
covers-not p i j f [] h = refl
covers-not p i j f (s ∷ spans) h =
    neither (s.row == j) (nat_le s.from i) (nat_lt i s.to) (covers spans i j) (f s (and_parts (p s) (list_all p spans) h).0) (covers-not p i j f spans (and_parts (p s) (list_all p spans) h).1)
  where
    neither : (a b c d : Bool) → a ≡ false → d ≡ false → (a && b && c || d) ≡ false
    neither true b c d h k = absurd (grind arith)
    neither false b c d h k = k

apart-join : (row : ℕ) (xs ys : List Span) → list_all (λ s. nat_lt s.row row) xs ≡ true → list_all (λ s. s.row == row) ys ≡ true → are_apart xs ≡ true → are_apart ys ≡ true → are_apart (xs ++ ys) ≡ true
apart-join row [] ys low here h k = k
apart-join row (s ∷ xs) ys low here h k =
    and_from (list_all (is_span_before s) (xs ++ ys)) (are_apart (xs ++ ys))
    (all-join (is_span_before s) xs ys (and_parts (list_all (is_span_before s) xs) (are_apart xs) h).0
    (all-weaker (λ t. t.row == row) (is_span_before s) (λ t e. before s.row s.to t.row t.from (and_parts (nat_lt s.row row) (list_all (λ t. nat_lt t.row row) xs) low).0 e) ys here))
    (apart-join row xs ys (and_parts (nat_lt s.row row) (list_all (λ t. nat_lt t.row row) xs) low).1 here (and_parts (list_all (is_span_before s) xs) (are_apart xs) h).1 k)
  where
    before : (r to t from : ℕ) → nat_lt r row ≡ true → (t == row) ≡ true → (nat_lt r t || (r == t && nat_lt to from)) ≡ true
    before r to t from h' k' = grind (arith, nat_tests)

last-or-lower : (j row : ℕ) → j < row + 1 → (j < row) ⊎ (j ≡ row)
last-or-lower j row h = grind arith

-- one more row
pub spans-more : (rule : Rule) (columns row : ℕ) (crossings : List (List RowCrossing)) (old new : List Span) → AreCrossingsWithin columns crossings → take (length old) new ≡ old → AreRowSpans rule row (crossings_in crossings row) (drop (length old) new) → AreSpansBelow rule columns row crossings old → AreSpansBelow rule columns (row + 1) crossings new
spans-more rule columns row crossings old new inside kept done h =
    subst (λ (spans : List Span). AreSpansBelow rule columns (row + 1) crossings spans) (ap (λ (l : List Span). l ++ drop (length old) new) (sym kept) ∙ take-append-drop (length old) new)
    (record {
      rows = all-join (λ s. nat_lt s.row (row + 1)) old (drop (length old) new)
          (all-weaker (λ s. nat_lt s.row row) (λ s. nat_lt s.row (row + 1)) (λ s e. lower s.row e) old h.rows)
          (all-weaker (λ s. s.row == row) (λ s. nat_lt s.row (row + 1)) (λ s e. here s.row e) (drop (length old) new) done.rows);
      apart = apart-join row old (drop (length old) new) h.rows done.rows h.apart done.apart;
      within = all-join (λ s. nat_lt s.from s.to && nat_le s.to columns) old (drop (length old) new) h.within
          (done.within columns (inside row));
      filled = λ i j low. elim (last-or-lower j row low) [
        | inl less ↦ covers-append old (drop (length old) new) i j
            ∙ ap (λ (b : Bool). covers old i j || b) (covers-not (λ s. s.row == row) i j (λ s e. elsewhere s.row row j e less) (drop (length old) new) done.rows)
            ∙ or-false (covers old i j) ∙ h.filled i j less
        | inr same ↦ covers-append old (drop (length old) new) i j
            ∙ ap (λ (b : Bool). b || covers (drop (length old) new) i j) (covers-not (λ s. nat_lt s.row row) i j (λ s e. under s.row row j e same) old h.rows)
            ∙ ap (λ (n : ℕ). covers (drop (length old) new) i n) same
            ∙ done.filled i
            ∙ ap (λ (n : ℕ). is_inside rule (neg_ℤ (row_passed crossings n i))) (sym same)
      ];
    })
  where
    lower : (r : ℕ) → nat_lt r row ≡ true → nat_lt r (row + 1) ≡ true
    lower r e = grind (arith, nat_tests)

    here : (r : ℕ) → (r == row) ≡ true → nat_lt r (row + 1) ≡ true
    here r e = grind (arith, nat_tests)

    elsewhere : (a b c : ℕ) → (a == b) ≡ true → c < b → (a == c) ≡ false
    elsewhere a b c e l = grind (arith, nat_tests)

    under : (a b c : ℕ) → nat_lt a b ≡ true → c ≡ b → (a == c) ≡ false
    under a b c e l = grind (arith, nat_tests)
