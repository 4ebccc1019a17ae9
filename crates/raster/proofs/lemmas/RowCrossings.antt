-- The crossings of a layer's rows, each row's in a list of its own.
use Rattle.std.proofs.Common.{◌≡◌, ◌≢◌, ℕ, zero, suc, ◌+◌, ◌<◌, Vec, List, [], ◌∷◌, map, set, length, get_or, refl, ap, sym, subst, ◌∙◌, inl, inr, arith}
use Rattle.std.specs.Prelude.{All}
use Rattle.std.proofs.lemmas.Bool.{cases_lt}
use Rattle.std.proofs.lemmas.List.{get_or-set_other, get_or-set_same, length-map, length-set, map-set, set-get_or}
use Rattle.raster.specs.declared.crossings.RowCrossing.{RowCrossing}
use Rattle.raster.specs.Crossings.{crossings_in}

-- the row that is changed
pub changed-here : {V : Type 0} (f : V → List RowCrossing) (rows : List V) (old : List (List RowCrossing)) (i : ℕ) (v : V) → map f rows ≡ old → i < length old → crossings_in (map f (set rows i v)) i ≡ f v
changed-here f rows old i v e low =
    ap (λ (l : List (List RowCrossing)). crossings_in l i) (map-set f rows i v)
    ∙ get_or-set_same (map f rows) i (f v) [] (subst (λ (l : List (List RowCrossing)). i < length l) (sym e) low)

-- and the others
pub changed-elsewhere : {V : Type 0} (f : V → List RowCrossing) (rows : List V) (old : List (List RowCrossing)) (i : ℕ) (v : V) → map f rows ≡ old → (j : ℕ) → j ≢ i → crossings_in (map f (set rows i v)) j ≡ crossings_in old j
changed-elsewhere f rows old i v e j other =
    ap (λ (l : List (List RowCrossing)). crossings_in l j) (map-set f rows i v)
    ∙ get_or-set_other (map f rows) i j (f v) [] other
    ∙ ap (λ (l : List (List RowCrossing)). crossings_in l j) e

-- rows without crossings
pub none-in : {V : Type 0} (f : V → List RowCrossing) (rows : List V) → All (λ v. f v ≡ []) rows → (j : ℕ) → crossings_in (map f rows) j ≡ []
none-in f [] h j = refl
none-in f (v ∷ rows) h zero = h 0 v (omega arith)
none-in f (v ∷ rows) h (suc j) = none-in f rows (λ k d low. h (suc k) d (omega (arith, low))) j

-- a row that is read
pub read-row : {V : Type 0} (f : V → List RowCrossing) (rows : List V) (old : List (List RowCrossing)) (i : ℕ) (v : V) → map f rows ≡ old → i < length old → v ≡ get_or rows i v → f v ≡ crossings_in old i
read-row f rows old i v e low read =
    ap f read ∙ sym (get_or-map-at f rows i v (subst (λ (l : List (List RowCrossing)). i < length l) (sym e) low)) ∙ ap (λ (l : List (List RowCrossing)). crossings_in l i) e
  where
    get_or-map-at : {V : Type 0} (f : V → List RowCrossing) (rows : List V) (i : ℕ) (v : V) → i < length (map f rows) → crossings_in (map f rows) i ≡ f (get_or rows i v)
    get_or-map-at f [] i v low = absurd (omega arith)
    get_or-map-at f (x ∷ rows) zero v low = refl
    get_or-map-at f (x ∷ rows) (suc i) v low = get_or-map-at f rows i v (omega (arith, low))

-- a row of a vector of rows
pub row-inside : {V Z : Type 0} (f : V → List RowCrossing) (rows : Vec V Z) (old : List (List RowCrossing)) (i : ℕ) → map f rows.items ≡ old → i < length old → i < rows.len
row-inside f rows old i e low = omega (arith, ap (λ (l : List (List RowCrossing)). length l) e, length-map rows.items f, rows.ok.0)

-- as many rows as before
pub same-count : {V : Type 0} (f : V → List RowCrossing) (rows : List V) (old : List (List RowCrossing)) (i : ℕ) (v : V) → map f rows ≡ old → length (map f (set rows i v)) ≡ length old
same-count f rows old i v e =
    length-map (set rows i v) f ∙ length-set rows i v ∙ sym (length-map rows f) ∙ ap (λ (l : List (List RowCrossing)). length l) e

-- a row that stays as it was
pub unchanged : {V : Type 0} (f : V → List RowCrossing) (rows : List V) (old : List (List RowCrossing)) (i : ℕ) (v w : V) → map f rows ≡ old → v ≡ get_or rows i v → w ≡ v → map f (set rows i w) ≡ old
unchanged f rows old i v w e read same =
    ap (λ (l : List _). map f l) (ap (λ x. set rows i x) (same ∙ read) ∙ set-get_or rows i v) ∙ e

-- one row more is empty
pub empty-more : {V : Type 0} (f : V → List RowCrossing) (rows : List V) (i : ℕ) (v : V) → f v ≡ [] → i < length rows → ((k : ℕ) (d : V) → k < i → f (get_or rows k d) ≡ [])
    → (k : ℕ) (d : V) → k < i + 1 → f (get_or (set rows i v) k d) ≡ []
empty-more f rows i v none inside before k d low =
    elim (cases_lt k i) [
      | inl below ↦ ap f (get_or-set_other rows i k v d (λ e. omega (arith, e, below))) ∙ before k d below
      | inr high ↦
          let here : k ≡ i = omega (arith, low, high) in
          ap (λ (j : ℕ). f (get_or (set rows i v) j d)) here ∙ ap f (get_or-set_same rows i v d inside) ∙ none
    ]
