-- The spans of a layer are determined by the pixels in them, and so is a lawful layer by its job and place.
use Rattle.std.proofs.Common.{◌≡◌, ℕ, suc, ◌<◌, ◌≤◌, Bool, true, false, ◌&&◌, ◌||◌, List, [], ◌∷◌, refl, sym, ◌∙◌, ap, subst, inl, inr, arith, ◌⊎◌}
use Rattle.std.specs.Prelude.{nat_lt, nat_le, ◌==◌}
use Rattle.std.specs.List.{list_all}
use Rattle.std.proofs.lemmas.Bool.{eqb-true, lt-ltb, leb-true, and_parts}
use Rattle.std.proofs.lemmas.Bool.Decides.{nat_tests, leb_tells}
use Rattle.raster.specs.declared.span.Span.{Span}
use Rattle.raster.specs.Span.{AreSpans, covers, is_span_within, is_span_before, are_apart}
use Rattle.build_book.specs.Job.{Job}
use Rattle.build_book.specs.Layer.{Layer, IsLawful}

abbrev pub holds : ℕ → ℕ → Span → Bool
holds i j s = s.row == j && nat_le s.from i && nat_lt i s.to

pub record Holds (i j : ℕ) (s : Span) : Type 0 where
  pub row : s.row ≡ j
  pub from : s.from ≤ i
  pub to : i < s.to

pub holds-is : (i j : ℕ) (s : Span) → holds i j s ≡ true → Holds i j s
holds-is i j s h =
    let outer : ((s.row == j && nat_le s.from i) ≡ true) × (nat_lt i s.to ≡ true) = and_parts _ _ h in
    let inner : ((s.row == j) ≡ true) × (nat_le s.from i ≡ true) = and_parts _ _ outer.0 in
    record { row = eqb-true _ _ inner.0; from = leb-true _ _ inner.1; to = leb-true _ _ outer.1 }

pub holds-by : (i j : ℕ) (s : Span) → s.row ≡ j → s.from ≤ i → i < s.to → holds i j s ≡ true
holds-by i j s row from to = grind (arith, nat_tests)

-- s comes first
Before : Span → Span → Type 0
Before s t = (s.row < t.row) ⊎ ((s.row ≡ t.row) × (s.to < t.from))

before-is : (s t : Span) → is_span_before s t ≡ true → Before s t
unfolding Before
before-is s t h = by_tests (nat_lt s.row t.row) (s.row == t.row) refl refl h
  where
    by_tests : (a b : Bool) → nat_lt s.row t.row ≡ a → (s.row == t.row) ≡ b → (a || (b && nat_lt s.to t.from)) ≡ true
        → (s.row < t.row) ⊎ ((s.row ≡ t.row) × (s.to < t.from))
    by_tests true b low same e = inl (leb-true _ _ low)
    by_tests false true low same e = inr (eqb-true _ _ same, leb-true _ _ e)
    by_tests false false low same e = cc

-- a pixel up to the one after a span
unfoldable pub UpTo : Span → ℕ → ℕ → Type 0
UpTo s i j = (j < s.row) ⊎ ((j ≡ s.row) × (i ≤ s.to))

not_later : (s t : Span) (i j : ℕ) → Before s t → UpTo s i j → Holds i j t → ⊥
unfolding Before UpTo
not_later s t i j (inl row) (inl low) h = omega (arith, row, low, h.row)
not_later s t i j (inl row) (inr same) h = omega (arith, row, same.0, h.row)
not_later s t i j (inr gap) (inl low) h = omega (arith, gap.0, low, h.row)
not_later s t i j (inr gap) (inr same) h = omega (arith, gap.1, same.1, h.from)

pub none_later : (s : Span) (ss : List Span) (i j : ℕ) → list_all (is_span_before s) ss ≡ true → UpTo s i j → covers ss i j ≡ false
none_later s [] i j h up = refl
none_later s (t ∷ ss) i j h up = by_test (holds i j t) refl (none_later s ss i j parts.1 up)
  where
    parts : (is_span_before s t ≡ true) × (list_all (is_span_before s) ss ≡ true)
    parts = and_parts _ _ h

    by_test : (b : Bool) → holds i j t ≡ b → covers ss i j ≡ false → (holds i j t || covers ss i j) ≡ false
    by_test true e rest = absurd (not_later s t i j (before-is s t parts.0) up (holds-is i j t e))
    by_test false e rest = ap (λ b. b || covers ss i j) e ∙ rest

-- the first pixel of one list is not before that of another that has it
not_before : (x : Span) (xs : List Span) (i j : ℕ) → x.from < x.to → list_all (is_span_before x) xs ≡ true → covers (x ∷ xs) i j ≡ true
    → (x.row < j) ⊎ ((x.row ≡ j) × (x.from ≤ i))
unfolding UpTo
not_before x xs i j some apart h = by_order (leb_tells (suc x.row) j) (leb_tells (suc j) x.row)
  where
    Result : Type 0
    Result = (x.row < j) ⊎ ((x.row ≡ j) × (x.from ≤ i))

    by_head : (b : Bool) → holds i j x ≡ b → UpTo x i j → Result
    by_head true e up = let at : Holds i j x = holds-is i j x e in inr (at.row, at.from)
    by_head false e up =
        let clash : true ≡ false = sym h ∙ ap (λ b. b || covers xs i j) e ∙ none_later x xs i j apart up in
        cc

    in_row : x.row ≡ j → ((nat_le i x.to ≡ true) × (i ≤ x.to)) ⊎ ((nat_le i x.to ≡ false) × (x.to < i)) → Result
    in_row same (inl near) = by_head (holds i j x) refl (inr (sym same, near.1))
    in_row same (inr far) = inr (same, omega (arith, some, far.1))

    by_order : ((nat_le (suc x.row) j ≡ true) × (suc x.row ≤ j)) ⊎ ((nat_le (suc x.row) j ≡ false) × (j < suc x.row))
        → ((nat_le (suc j) x.row ≡ true) × (suc j ≤ x.row)) ⊎ ((nat_le (suc j) x.row ≡ false) × (x.row < suc j)) → Result
    by_order (inl above) other = inl above.1
    by_order (inr a) (inl under) = by_head (holds i j x) refl (inl under.1)
    by_order (inr a) (inr b) = in_row (omega (arith, a.1, b.1)) (leb_tells i x.to)

-- the pixel after the first span is in no span of the list
end_free : (x : Span) (xs : List Span) → list_all (is_span_before x) xs ≡ true → covers (x ∷ xs) x.to x.row ≡ false
unfolding UpTo
end_free x xs apart = by_test (holds x.to x.row x) refl
  where
    by_test : (b : Bool) → holds x.to x.row x ≡ b → (holds x.to x.row x || covers xs x.to x.row) ≡ false
    by_test true e = let at : Holds x.to x.row x = holds-is x.to x.row x e in absurd (omega (arith, at.to))
    by_test false e = ap (λ b. b || covers xs x.to x.row) e ∙ none_later x xs x.to x.row apart (inr (refl, omega arith))

starts : (x : Span) (xs : List Span) → x.from < x.to → covers (x ∷ xs) x.from x.row ≡ true
starts x xs some = ap (λ b. b || covers xs x.from x.row) (holds-by x.from x.row x refl (omega arith) some)

-- the ends of spans with one beginning
not_past : (x y : Span) (ys : List Span) → x.row ≡ y.row → x.from ≡ y.from → x.from < x.to → covers (y ∷ ys) x.to x.row ≡ false → y.to ≤ x.to
not_past x y ys row from some free = by_order (leb_tells y.to x.to)
  where
    by_order : ((nat_le y.to x.to ≡ true) × (y.to ≤ x.to)) ⊎ ((nat_le y.to x.to ≡ false) × (x.to < y.to)) → y.to ≤ x.to
    by_order (inl le) = le.1
    by_order (inr over) =
        let inside : holds x.to x.row y ≡ true = holds-by x.to x.row y (sym row) (omega (arith, from, some)) over.1 in
        let clash : true ≡ false = ap (λ b. b || covers ys x.to x.row) (sym inside) ∙ free in
        cc

ordered : (x y : Span) → (x.row < y.row) ⊎ ((x.row ≡ y.row) × (x.from ≤ y.from)) → (y.row < x.row) ⊎ ((y.row ≡ x.row) × (y.from ≤ x.from))
    → (x.row ≡ y.row) × (x.from ≡ y.from)
ordered x y (inl a) (inl b) = absurd (omega (arith, a, b))
ordered x y (inl a) (inr b) = absurd (omega (arith, a, b.0))
ordered x y (inr a) (inl b) = absurd (omega (arith, a.0, b))
ordered x y (inr a) (inr b) = (a.0, omega (arith, a.1, b.1))

-- not empty
abbrev is_some_span : Span → Bool
is_some_span s = nat_lt s.from s.to

first_same : (x y : Span) (xs ys : List Span) → x.from < x.to → y.from < y.to
    → list_all (is_span_before x) xs ≡ true → list_all (is_span_before y) ys ≡ true
    → ((i j : ℕ) → covers (x ∷ xs) i j ≡ covers (y ∷ ys) i j) → x ≡ y
first_same x y xs ys some some' apart apart' same =
    let begin : (x.row ≡ y.row) × (x.from ≡ y.from) =
    ordered x y
    (not_before x xs y.from y.row some apart (same y.from y.row ∙ starts y ys some'))
    (not_before y ys x.from x.row some' apart' (sym (same x.from x.row) ∙ starts x xs some)) in
    let over : y.to ≤ x.to = not_past x y ys begin.0 begin.1 some (sym (same x.to x.row) ∙ end_free x xs apart) in
    let under : x.to ≤ y.to = not_past y x xs (sym begin.0) (sym begin.1) some' (same y.to y.row ∙ end_free y ys apart') in
    let to : x.to ≡ y.to = omega (arith, over, under) in
    λ i. record { row = begin.0 i; from = begin.1 i; to = to i }

same_spans : (xs ys : List Span) → list_all is_some_span xs ≡ true → list_all is_some_span ys ≡ true → are_apart xs ≡ true → are_apart ys ≡ true
    → ((i j : ℕ) → covers xs i j ≡ covers ys i j) → xs ≡ ys
unfolding UpTo
same_spans [] [] some some' apart apart' same = refl
same_spans [] (y ∷ ys) some some' apart apart' same =
    let clash : false ≡ true = same y.from y.row ∙ starts y ys (leb-true _ _ (and_parts _ _ some').0) in
    cc
same_spans (x ∷ xs) [] some some' apart apart' same =
    let clash : false ≡ true = sym (same x.from x.row) ∙ starts x xs (leb-true _ _ (and_parts _ _ some).0) in
    cc
same_spans (x ∷ xs) (y ∷ ys) some some' apart apart' same =
    let a : (is_some_span x ≡ true) × (list_all is_some_span xs ≡ true) = and_parts _ _ some in
    let b : (is_some_span y ≡ true) × (list_all is_some_span ys ≡ true) = and_parts _ _ some' in
    let c : (list_all (is_span_before x) xs ≡ true) × (are_apart xs ≡ true) = and_parts _ _ apart in
    let d : (list_all (is_span_before y) ys ≡ true) × (are_apart ys ≡ true) = and_parts _ _ apart' in
    let first : x ≡ y = first_same x y xs ys (leb-true _ _ a.0) (leb-true _ _ b.0) c.0 d.0 same in
    let rest : xs ≡ ys = same_spans xs ys a.1 b.1 c.1 d.1 (λ i j. tails i j first c.0 d.0 (holds i j x) refl) in
    λ i. first i ∷ rest i
  where
    tails : (i j : ℕ) → x ≡ y → list_all (is_span_before x) xs ≡ true → list_all (is_span_before y) ys ≡ true
        → (h : Bool) → holds i j x ≡ h → covers xs i j ≡ covers ys i j
    tails i j first c d true e =
        let at : Holds i j x = holds-is i j x e in
        let at' : Holds i j y = subst (Holds i j) first at in
        none_later x xs i j c (inr (sym at.row, omega (arith, at.to)))
        ∙ sym (none_later y ys i j d (inr (sym at'.row, omega (arith, at'.to))))
    tails i j first c d false e =
        ap (λ b. b || covers xs i j) (sym e) ∙ same i j ∙ ap (λ b. b || covers ys i j) (ap (holds i j) (sym first) ∙ e)

pub within-parts : (columns rows : ℕ) (s : Span) → is_span_within columns rows s ≡ true → (s.row < rows) × (s.from < s.to) × (s.to ≤ columns)
within-parts columns rows s h =
    let outer : ((nat_lt s.row rows && nat_lt s.from s.to) ≡ true) × (nat_le s.to columns ≡ true) = and_parts _ _ h in
    let inner : (nat_lt s.row rows ≡ true) × (nat_lt s.from s.to ≡ true) = and_parts _ _ outer.0 in
    (leb-true _ _ inner.0, leb-true _ _ inner.1, leb-true _ _ outer.1)

some_spans : (columns rows : ℕ) (spans : List Span) → list_all (is_span_within columns rows) spans ≡ true → list_all is_some_span spans ≡ true
some_spans columns rows [] h = refl
some_spans columns rows (s ∷ ss) h =
    let parts : (is_span_within columns rows s ≡ true) × (list_all (is_span_within columns rows) ss ≡ true) = and_parts _ _ h in
    rw (lt-ltb s.from s.to (within-parts columns rows s parts.0).1) (some_spans columns rows ss parts.1)

-- outside the grid no pixel lies in a span
outside_grid : (columns rows : ℕ) (spans : List Span) (i j : ℕ) → list_all (is_span_within columns rows) spans ≡ true
    → (columns ≤ i) ⊎ (rows ≤ j) → covers spans i j ≡ false
outside_grid columns rows [] i j h out = refl
outside_grid columns rows (s ∷ ss) i j h out = by_test (holds i j s) refl (outside_grid columns rows ss i j parts.1 out)
  where
    parts : (is_span_within columns rows s ≡ true) × (list_all (is_span_within columns rows) ss ≡ true)
    parts = and_parts _ _ h

    bounds : (s.row < rows) × (s.from < s.to) × (s.to ≤ columns)
    bounds = within-parts columns rows s parts.0

    clash : Holds i j s → (columns ≤ i) ⊎ (rows ≤ j) → ⊥
    clash at (inl right) = omega (arith, right, at.to, bounds.2)
    clash at (inr above) = omega (arith, above, at.row, bounds.0)

    by_test : (b : Bool) → holds i j s ≡ b → covers ss i j ≡ false → (holds i j s || covers ss i j) ≡ false
    by_test true e rest = absurd (clash (holds-is i j s e) out)
    by_test false e rest = ap (λ b. b || covers ss i j) e ∙ rest

-- spans of one grid with the same pixels are the same
pub one_list : (columns rows : ℕ) (xs ys : List Span) → AreSpans columns rows xs → AreSpans columns rows ys
    → ((i j : ℕ) → i < columns → j < rows → covers xs i j ≡ covers ys i j) → xs ≡ ys
one_list columns rows xs ys a b same =
    same_spans xs ys (some_spans columns rows xs a.within) (some_spans columns rows ys b.within) a.apart b.apart
    (λ i j. everywhere i j (leb_tells (suc i) columns) (leb_tells (suc j) rows))
  where
    out : (i j : ℕ) → (columns ≤ i) ⊎ (rows ≤ j) → covers xs i j ≡ covers ys i j
    out i j o = outside_grid columns rows xs i j a.within o ∙ sym (outside_grid columns rows ys i j b.within o)

    everywhere : (i j : ℕ) → ((nat_le (suc i) columns ≡ true) × (suc i ≤ columns)) ⊎ ((nat_le (suc i) columns ≡ false) × (columns < suc i))
        → ((nat_le (suc j) rows ≡ true) × (suc j ≤ rows)) ⊎ ((nat_le (suc j) rows ≡ false) × (rows < suc j)) → covers xs i j ≡ covers ys i j
    everywhere i j (inl x) (inl y) = same i j x.1 y.1
    everywhere i j (inr x) other = out i j (inl (omega (arith, x.1)))
    everywhere i j (inl x) (inr y) = out i j (inr (omega (arith, y.1)))

-- two layers that are lawful at the same place of the same job are equal
pub one_layer : (job : Job) (k : ℕ) (a b : Layer) → IsLawful job k a → IsLawful job k b → a ≡ b
one_layer job k a b l m =
    let spans_are : a.spans ≡ b.spans =
    one_list job.grid.columns job.grid.rows a.spans b.spans l.spans m.spans (λ i j x y. l.filled i j x y ∙ sym (m.filled i j x y)) in
    λ i. record {
      number = (l.number ∙ sym m.number) i;
      loops = (l.loops_are ∙ sym m.loops_are) i;
      spans = spans_are i;
      area = (l.area ∙ sym m.area) i;
    }
