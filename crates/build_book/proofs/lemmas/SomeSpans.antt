-- For any set of pixels of a grid there are spans that cover exactly these. They are built from the last row to the first,
-- each row from the right.
use Rattle.std.proofs.Common.{◌≡◌, ℕ, zero, suc, ◌+◌, ◌<◌, ◌≤◌, ◌⊎◌, inl, inr, Bool, true, false, ◌&&◌, ◌||◌, List, [], ◌∷◌, refl, sym, ◌∙◌, ap, subst, arith}
use Rattle.std.specs.Prelude.{nat_lt, nat_le, ◌==◌}
use Rattle.std.specs.List.{list_all}
use Rattle.std.proofs.lemmas.Bool.{and_from}
use Rattle.std.proofs.lemmas.Bool.Decides.{nat_tests, leb_tells}
use Rattle.exact_int.proofs.lemmas.Lists.{all-weaker}
use Rattle.raster.specs.declared.span.Span.{Span}
use Rattle.raster.specs.Span.{AreSpans, covers, is_span_within, is_span_before, are_apart}
use Rattle.build_book.proofs.lemmas.OneLayer.{UpTo, none_later, holds, holds-by}

abbrev span : ℕ → ℕ → ℕ → Span
span row from to = record { row = row; from = from; to = to }

-- the spans come after column n of row j, with a gap
abbrev AreAfter : ℕ → ℕ → List Span → Type 0
AreAfter j n spans = list_all (is_span_before (span j 0 n)) spans ≡ true

after-earlier : (j m n : ℕ) (spans : List Span) → n ≤ m → AreAfter j m spans → AreAfter j n spans
after-earlier j m n spans less h = all-weaker _ _ (λ s. by s.row s.from) spans h
  where
    by : (row from : ℕ) → (nat_lt j row || (j == row && nat_lt m from)) ≡ true → (nat_lt j row || (j == row && nat_lt n from)) ≡ true
    by row from h = grind (arith, nat_tests)

after-rows : (j n : ℕ) (spans : List Span) → AreAfter j n spans → list_all (λ s. nat_le j s.row) spans ≡ true
after-rows j n spans h = all-weaker _ _ (λ s. by s.row s.from) spans h
  where
    by : (row from : ℕ) → (nat_lt j row || (j == row && nat_lt n from)) ≡ true → nat_le j row ≡ true
    by row from h = grind (arith, nat_tests)

rows-after : (j n : ℕ) (spans : List Span) → list_all (λ s. nat_le (suc j) s.row) spans ≡ true → AreAfter j n spans
rows-after j n spans h = all-weaker _ _ (λ s. by s.row s.from) spans h
  where
    by : (row from : ℕ) → nat_le (suc j) row ≡ true → (nat_lt j row || (j == row && nat_lt n from)) ≡ true
    by row from h = grind (arith, nat_tests)

holds-not : (i j : ℕ) (s : Span) → (s.row ≡ j → s.from ≤ i → s.to ≤ i) → holds i j s ≡ false
holds-not i j s h = by s.row s.from s.to h
  where
    by : (row from to : ℕ) → (row ≡ j → from ≤ i → to ≤ i) → (row == j && nat_le from i && nat_lt i to) ≡ false
    by row from to h = grind (arith, nat_tests)

module _ (p : ℕ → ℕ → Bool) (columns rows : ℕ) where
  -- the spans have the pixels of the rows after row j, and those of row j from column n on
  record Made (j n : ℕ) (spans : List Span) : Type 0 where
    within : list_all (is_span_within columns rows) spans ≡ true
    apart : are_apart spans ≡ true
    later : (i r : ℕ) → i < columns → j < r → r < rows → covers spans i r ≡ p i r
    here : (i : ℕ) → n ≤ i → i < columns → covers spans i j ≡ p i j

  -- the pixel of the column before is not filled
  skipped : (j n : ℕ) (spans : List Span) → p n j ≡ false → AreAfter j n spans → Made j (suc n) spans → Made j n spans
  unfolding UpTo
  skipped j n spans empty after m = record {
    within = m.within;
    apart = m.apart;
    later = m.later;
    here = λ i low high. by_order i low high (leb_tells (suc n) i);
  }
    where
      by_order : (i : ℕ) → n ≤ i → i < columns → ((nat_le (suc n) i ≡ true) × (suc n ≤ i)) ⊎ ((nat_le (suc n) i ≡ false) × (i < suc n)) → covers spans i j ≡ p i j
      by_order i low high (inl x) = m.here i x.1 high
      by_order i low high (inr x) =
          let same : n ≡ i = omega (arith, x.1, low) in
          none_later (span j 0 n) spans i j after (inr (refl, omega (arith, same))) ∙ sym empty ∙ ap (λ c. p c j) same

  -- a stretch of filled pixels is a span before those after it
  joined : (j from to : ℕ) (spans : List Span) → j < rows → from < to → to ≤ columns → ((i : ℕ) → from ≤ i → i < to → p i j ≡ true)
      → AreAfter j to spans → Made j to spans → Made j from (span j from to ∷ spans)
  joined j from to spans low some within filled after m = record {
    within = and_from _ _ (inside j from to low some within) m.within;
    apart = and_from _ _ after m.apart;
    later = λ i r x y z. ap (λ b. b || covers spans i r) (holds-not i r (span j from to) (λ e f. absurd (omega (arith, e, y)))) ∙ m.later i r x y z;
    here = λ i x y. by_order i x y (leb_tells to i);
  }
    where
      inside : (j from to : ℕ) → j < rows → from < to → to ≤ columns → is_span_within columns rows (span j from to) ≡ true
      inside j from to a b c = grind (arith, nat_tests)

      by_order : (i : ℕ) → from ≤ i → i < columns → ((nat_le to i ≡ true) × (to ≤ i)) ⊎ ((nat_le to i ≡ false) × (i < to)) → covers (span j from to ∷ spans) i j ≡ p i j
      by_order i x y (inl past) =
          ap (λ b. b || covers spans i j) (holds-not i j (span j from to) (λ e f. past.1)) ∙ m.here i past.1 y
      by_order i x y (inr earlier) =
          ap (λ b. b || covers spans i j) (holds-by i j (span j from to) refl x earlier.1) ∙ sym (filled i x earlier.1)

  -- row j from column n on: in `Shut` no span reaches column n, in `Open` the pixels from n up to `to` are filled
  record Shut (j n : ℕ) : Type 0 where
    spans : List Span
    after : AreAfter j n spans
    made : Made j n spans

  record Open (j n : ℕ) : Type 0 where
    spans : List Span
    to : ℕ
    some : n < to
    within : to ≤ columns
    filled : (i : ℕ) → n ≤ i → i < to → p i j ≡ true
    after : AreAfter j to spans
    made : Made j to spans

  record Row (j : ℕ) : Type 0 where
    spans : List Span
    from_row : list_all (λ s. nat_le j s.row) spans ≡ true
    made : Made j 0 spans

  row : (j : ℕ) → j < rows → (n : ℕ) → n ≤ columns → Shut j n ⊎ Open j n → Row j
  row j low zero at (inl s) = record { spans = s.spans; from_row = after-rows j 0 s.spans s.after; made = s.made }
  row j low zero at (inr s) = record {
    spans = span j 0 s.to ∷ s.spans;
    from_row = and_from _ _ (own j) (after-rows j s.to s.spans s.after);
    made = joined j 0 s.to s.spans low s.some s.within s.filled s.after s.made;
  }
    where
      own : (j : ℕ) → nat_le j j ≡ true
      own j = grind (arith, nat_tests)
  row j low (suc n) at (inl s) = by_test (row j low n (omega (arith, at))) (p n j) refl
    where
      by_test : (Shut j n ⊎ Open j n → Row j) → (b : Bool) → p n j ≡ b → Row j
      by_test rest true e = rest (inr (record {
        spans = s.spans;
        to = suc n;
        some = omega arith;
        within = at;
        filled = λ i x y. let same : n ≡ i = omega (arith, x, y) in subst (λ c. p c j ≡ true) same e;
        after = s.after;
        made = s.made;
      }))
      by_test rest false e =
          let after : AreAfter j n s.spans = after-earlier j (suc n) n s.spans (omega arith) s.after in
          rest (inl (record { spans = s.spans; after = after; made = skipped j n s.spans e after s.made }))
  row j low (suc n) at (inr s) = by_test (row j low n (omega (arith, at))) (p n j) refl
    where
      order : (n to : ℕ) → suc n < to → n ≤ to
      order n to h = omega (arith, h)

      longer : (b : p n j ≡ true) (i : ℕ) → n ≤ i → i < s.to → ((nat_le (suc n) i ≡ true) × (suc n ≤ i)) ⊎ ((nat_le (suc n) i ≡ false) × (i < suc n)) → p i j ≡ true
      longer e i x y (inl past) = s.filled i past.1 y
      longer e i x y (inr first) = let same : n ≡ i = omega (arith, x, first.1) in subst (λ c. p c j ≡ true) same e

      first_after : (j n to : ℕ) → is_span_before (span j 0 n) (span j (suc n) to) ≡ true
      first_after j n to = grind (arith, nat_tests)

      by_test : (Shut j n ⊎ Open j n → Row j) → (b : Bool) → p n j ≡ b → Row j
      by_test rest true e = let some : suc n < s.to = s.some in rest (inr (record {
        spans = s.spans;
        to = s.to;
        some = omega (arith, some);
        within = s.within;
        filled = λ i x y. longer e i x y (leb_tells (suc n) i);
        after = s.after;
        made = s.made;
      }))
      by_test rest false e =
          let after : AreAfter j n (span j (suc n) s.to ∷ s.spans) =
          and_from _ _ (first_after j n s.to) (after-earlier j s.to n s.spans (order n s.to s.some) s.after) in
          rest (inl (record {
            spans = span j (suc n) s.to ∷ s.spans;
            after = after;
            made = skipped j n (span j (suc n) s.to ∷ s.spans) e after (joined j (suc n) s.to s.spans low s.some s.within s.filled s.after s.made);
          }))

  -- the rows from j on
  record Rows (j : ℕ) : Type 0 where
    spans : List Span
    from_row : list_all (λ s. nat_le j s.row) spans ≡ true
    within : list_all (is_span_within columns rows) spans ≡ true
    apart : are_apart spans ≡ true
    all : (i r : ℕ) → i < columns → j ≤ r → r < rows → covers spans i r ≡ p i r

  more : (j : ℕ) → j < rows → Rows (suc j) → Rows j
  more j low rest = record {
    spans = this.spans;
    from_row = this.from_row;
    within = this.made.within;
    apart = this.made.apart;
    all = λ i r x y z. by_order i r x y z (leb_tells (suc j) r);
  }
    where
      this : Row j
      this = row j low columns (omega arith) (inl (record {
        spans = rest.spans;
        after = rows-after j columns rest.spans rest.from_row;
        made = record {
          within = rest.within;
          apart = rest.apart;
          later = λ i r x y z. rest.all i r x y z;
          here = λ i x y. absurd (omega (arith, x, y));
        };
      }))

      by_order : (i r : ℕ) → i < columns → j ≤ r → r < rows → ((nat_le (suc j) r ≡ true) × (suc j ≤ r)) ⊎ ((nat_le (suc j) r ≡ false) × (r < suc j)) → covers this.spans i r ≡ p i r
      by_order i r x y z (inl past) = this.made.later i r x past.1 z
      by_order i r x y z (inr first) = let same : j ≡ r = omega (arith, y, first.1) in subst (λ r. covers this.spans i r ≡ p i r) same (this.made.here i (omega arith) x)

  some_rows : (j n : ℕ) → j + n ≡ rows → Rows j
  some_rows j zero e = record {
    spans = [];
    from_row = refl;
    within = refl;
    apart = refl;
    all = λ i r x y z. absurd (omega (arith, e, y, z));
  }
  some_rows j (suc n) e = more j (omega (arith, e)) (some_rows (suc j) n (omega (arith, e)))

  pub some_spans : (spans : List Span) × AreSpans columns rows spans × ((i j : ℕ) → i < columns → j < rows → covers spans i j ≡ p i j)
  some_spans =
      let all : Rows 0 = some_rows 0 rows (omega arith) in
      (all.spans, record { within = all.within; apart = all.apart }, λ i j x y. all.all i j x (omega arith) y)
