-- The lengths of a layer's spans add up to the number of its filled pixels.
use Rattle.std.proofs.Common.{◌≡◌, ℕ, zero, suc, ◌+◌, ◌-◌, ◌*◌, ◌<◌, ◌≤◌, ◌⊎◌, min, max, Bool, true, false, ◌&&◌, ◌||◌, List, [], ◌∷◌, refl, sym, ◌∙◌, ap, inl, inr, arith, cond, sum_by, count_by}
use Rattle.std.specs.Prelude.{nat_lt, nat_le, ◌==◌}
use Rattle.std.specs.List.{list_all, range_with_len}
use Rattle.std.proofs.lemmas.Bool.{eqb-true, and_parts}
use Rattle.std.proofs.lemmas.Bool.Decides.{nat_tests, leb_tells}
use Rattle.std.proofs.lemmas.List.Sums.{sum_by-cons, count_by-le-length}
use Rattle.std.proofs.lemmas.List.FromFn.{length-range_with_len}
use Rattle.raster.specs.declared.span.Span.{Span}
use Rattle.raster.specs.declared.rule.Rule.{Rule}
use Rattle.raster.specs.Span.{AreSpans, covers, is_span_within, is_span_before, are_apart, span_area}
use Rattle.raster.specs.Filler.{area_of, is_filled, below}
use Rattle.raster.specs.Grid.{Grid, centre}
use Rattle.raster.proofs.lemmas.Packing.{indicator}
use Rattle.geometry.specs.Facet.{Facet}
use Rattle.build_book.proofs.lemmas.OneLayer.{holds, Holds, holds-is, none_later, UpTo, within-parts}

-- sums over n numbers from a on

same_sums : (f g : ℕ → ℕ) (a n : ℕ) → ((i : ℕ) → i < a + n → f i ≡ g i)
    → sum_by f (range_with_len a n) ≡ sum_by g (range_with_len a n)
same_sums f g a zero same = refl
same_sums f g a (suc n) same =
    let head : f a ≡ g a = same a (omega arith) in
    let rest : sum_by f (range_with_len (a + 1) n) ≡ sum_by g (range_with_len (a + 1) n) =
    same_sums f g (a + 1) n (λ i h. same i (omega (arith, h))) in
    simp sum_by-cons (omega (arith, head, rest))

added_sums : (f g h : ℕ → ℕ) (a n : ℕ) → ((i : ℕ) → i < a + n → h i ≡ f i + g i)
    → sum_by h (range_with_len a n) ≡ sum_by f (range_with_len a n) + sum_by g (range_with_len a n)
added_sums f g h a zero parts = refl
added_sums f g h a (suc n) parts =
    let head : h a ≡ f a + g a = parts a (omega arith) in
    let rest : sum_by h (range_with_len (a + 1) n) ≡ sum_by f (range_with_len (a + 1) n) + sum_by g (range_with_len (a + 1) n) =
    added_sums f g h (a + 1) n (λ i l. parts i (omega (arith, l))) in
    simp sum_by-cons (omega (arith, head, rest))

no_sum : (f : ℕ → ℕ) (a n : ℕ) → ((i : ℕ) → a ≤ i → f i ≡ 0) → sum_by f (range_with_len a n) ≡ 0
no_sum f a zero none = refl
no_sum f a (suc n) none =
    let head : f a ≡ 0 = none a (omega arith) in
    let rest : sum_by f (range_with_len (a + 1) n) ≡ 0 = no_sum f (a + 1) n (λ i l. none i (omega (arith, l))) in
    simp sum_by-cons (omega (arith, head, rest))

-- how many of n columns from a on lie from `from` up to but not including `to`
between_count : (from to a n : ℕ)
    → sum_by (λ i. indicator (nat_le from i && nat_lt i to)) (range_with_len a n) ≡ min to (a + n) - max from a
between_count from to a zero = omega arith
between_count from to a (suc n) = simp sum_by-cons (by_order (leb_tells from a) (leb_tells (suc a) to) (between_count from to (a + 1) n))
  where
    after : ℕ
    after = sum_by (λ i. indicator (nat_le from i && nat_lt i to)) (range_with_len (a + 1) n)

    by_order : ((nat_le from a ≡ true) × (from ≤ a)) ⊎ ((nat_le from a ≡ false) × (a < from))
        → ((nat_le (suc a) to ≡ true) × (suc a ≤ to)) ⊎ ((nat_le (suc a) to ≡ false) × (to < suc a))
        → after ≡ min to (a + 1 + n) - max from (a + 1)
        → indicator (nat_le from a && nat_lt a to) + after ≡ min to (a + suc n) - max from a
    by_order (inl x) (inl y) rest = rw (x.0, y.0) (omega (arith, x.1, y.1, rest))
    by_order (inl x) (inr y) rest = rw (x.0, y.0) (omega (arith, x.1, y.1, rest))
    by_order (inr x) other rest = rw x.0 (omega (arith, x.1, rest))

elsewhere : (r w j : ℕ) → (r ≡ j → ⊥) → cond (r == j) w 0 ≡ 0
elsewhere r w j apart = by_test (r == j) refl
  where
    by_test : (b : Bool) → (r == j) ≡ b → cond b w 0 ≡ 0
    by_test true e = absurd (apart (eqb-true _ _ e))
    by_test false e = refl

-- w for the one number that is r, 0 for the others, summed over n numbers from a on
once_sum : (r w a n : ℕ) → a ≤ r → r < a + n → sum_by (λ j. cond (r == j) w 0) (range_with_len a n) ≡ w
once_sum r w a zero low high = absurd (omega (arith, low, high))
once_sum r w a (suc n) low high = simp sum_by-cons (by_test (r == a) refl (once_sum r w (a + 1) n))
  where
    after : ℕ
    after = sum_by (λ j. cond (r == j) w 0) (range_with_len (a + 1) n)

    by_test : (b : Bool) → (r == a) ≡ b → (a + 1 ≤ r → r < a + 1 + n → after ≡ w) → cond b w 0 + after ≡ w
    by_test true e later =
        let at : r ≡ a = eqb-true _ _ e in
        let rest : after ≡ 0 = no_sum (λ j. cond (r == j) w 0) (a + 1) n (λ j l. elsewhere r w j (λ same. omega (arith, at, same, l))) in
        omega (arith, rest)
    by_test false e later =
        let apart : r ≡ a → ⊥ = grind (arith, nat_tests) in
        let rest : after ≡ w = later (omega (arith, apart, low)) (omega (arith, high)) in
        omega (arith, rest)

-- the pixels that a span has in one row
row_count : (columns from to : ℕ) (b : Bool) → to ≤ columns
    → sum_by (λ i. indicator (b && nat_le from i && nat_lt i to)) (below columns) ≡ cond b (to - from) 0
row_count columns from to true within = omega (arith, between_count from to 0 columns, within)
row_count columns from to false within = no_sum (λ i. 0) 0 columns (λ i l. refl)

-- the pixels of one span
span_sum : (columns rows : ℕ) (s : Span) → is_span_within columns rows s ≡ true
    → sum_by (λ j. count_by (λ i. holds i j s) (below columns)) (below rows) ≡ s.to - s.from
span_sum columns rows s within =
    let parts : (s.row < rows) × (s.from < s.to) × (s.to ≤ columns) = within-parts columns rows s within in
    same_sums (λ j. count_by (λ i. holds i j s) (below columns)) (λ j. cond (s.row == j) (s.to - s.from) 0) 0 rows
    (λ j l. row_count columns s.from s.to (s.row == j) parts.2)
    ∙ once_sum s.row (s.to - s.from) 0 rows (omega arith) (omega (arith, parts.0))

-- a pixel lies in one span at most
one_span : (s : Span) (ss : List Span) (i j : ℕ) → list_all (is_span_before s) ss ≡ true
    → indicator (covers (s ∷ ss) i j) ≡ indicator (holds i j s) + indicator (covers ss i j)
unfolding UpTo
one_span s ss i j apart = by_test (holds i j s) refl
  where
    by_test : (b : Bool) → holds i j s ≡ b → indicator (b || covers ss i j) ≡ indicator b + indicator (covers ss i j)
    by_test true e =
        let at : Holds i j s = holds-is i j s e in
        let none : covers ss i j ≡ false = none_later s ss i j apart (inr (sym at.row, omega (arith, at.to))) in
        rw none refl
    by_test false e = omega arith

-- the pixels of all spans
pub spans_sum : (columns rows : ℕ) (spans : List Span) → list_all (is_span_within columns rows) spans ≡ true → are_apart spans ≡ true
    → sum_by (λ j. count_by (λ i. covers spans i j) (below columns)) (below rows) ≡ span_area spans
spans_sum columns rows [] within apart = no_sum (λ j. count_by (λ i. false) (below columns)) 0 rows (λ j l. no_sum (λ i. 0) 0 columns (λ i m. refl))
spans_sum columns rows (s ∷ ss) within apart =
    let inside : (is_span_within columns rows s ≡ true) × (list_all (is_span_within columns rows) ss ≡ true) = and_parts _ _ within in
    let ahead : (list_all (is_span_before s) ss ≡ true) × (are_apart ss ≡ true) = and_parts _ _ apart in
    let first : sum_by (λ j. count_by (λ i. holds i j s) (below columns)) (below rows) ≡ s.to - s.from = span_sum columns rows s inside.0 in
    let rest : sum_by (λ j. count_by (λ i. covers ss i j) (below columns)) (below rows) ≡ span_area ss = spans_sum columns rows ss inside.1 ahead.1 in
    let both : sum_by (λ j. count_by (λ i. covers (s ∷ ss) i j) (below columns)) (below rows)
    ≡ sum_by (λ j. count_by (λ i. holds i j s) (below columns)) (below rows) + sum_by (λ j. count_by (λ i. covers ss i j) (below columns)) (below rows) =
    added_sums (λ j. count_by (λ i. holds i j s) (below columns)) (λ j. count_by (λ i. covers ss i j) (below columns)) (λ j. count_by (λ i. covers (s ∷ ss) i j) (below columns)) 0 rows
    (λ j l. added_sums (λ i. indicator (holds i j s)) (λ i. indicator (covers ss i j)) (λ i. indicator (covers (s ∷ ss) i j)) 0 columns (λ i m. one_span s ss i j ahead.0)) in
    both ∙ simp sum_by-cons (omega (arith, first, rest))

-- the spans of a layer's filled pixels are as long together as its area
pub span_area-is : (g : Grid) (rule : Rule) (facets : List Facet) (k : ℕ) (spans : List Span)
    → AreSpans g.columns g.rows spans
    → ((i j : ℕ) → i < g.columns → j < g.rows → covers spans i j ≡ is_filled rule facets (centre g i j k))
    → span_area spans ≡ area_of g rule facets k
span_area-is g rule facets k spans form filled =
    sym (spans_sum g.columns g.rows spans form.within form.apart)
    ∙ same_sums (λ j. count_by (λ i. covers spans i j) (below g.columns)) (λ j. count_by (λ i. is_filled rule facets (centre g i j k)) (below g.columns)) 0 g.rows
    (λ j y. same_sums (λ i. indicator (covers spans i j)) (λ i. indicator (is_filled rule facets (centre g i j k))) 0 g.columns
    (λ i x. ap indicator (filled i j (omega (arith, x)) (omega (arith, y)))))

small_sum : (f : ℕ → ℕ) (m a n : ℕ) → ((i : ℕ) → f i ≤ m) → sum_by f (range_with_len a n) ≤ n * m
small_sum f m a zero small = omega arith
small_sum f m a (suc n) small =
    let head : f a ≤ m = small a in
    let rest : sum_by f (range_with_len (a + 1) n) ≤ n * m = small_sum f m (a + 1) n small in
    simp sum_by-cons (omega (arith, head, rest))

-- an area stays within its rectangle
pub area_of-le : (g : Grid) (rule : Rule) (facets : List Facet) (k : ℕ) → area_of g rule facets k ≤ g.rows * g.columns
area_of-le g rule facets k =
    small_sum (λ j. count_by (λ i. is_filled rule facets (centre g i j k)) (below g.columns)) g.columns 0 g.rows
    (λ j. counted (λ i. is_filled rule facets (centre g i j k)))
  where
    counted : (p : ℕ → Bool) → count_by p (below g.columns) ≤ g.columns
    counted p = omega (arith, count_by-le-length p (below g.columns), length-range_with_len 0 g.columns)
