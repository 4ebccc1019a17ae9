-- What the crossings of one facet add to each row.
use Rattle.std.proofs.Common.{◌≡◌, ◌≢◌, ℕ, zero, suc, ◌+◌, ◌-◌, ◌<◌, ◌≤◌, ◌⊎◌, inl, inr, List, [], ◌∷◌, ◌++◌, Bool, true, false, cond, length, refl, ap, sym, subst, ◌∙◌, append_assoc, arith}
use Rattle.std.specs.Prelude.{All, ℤ, pos, negsuc, ◌+ℤ◌, ◌-ℤ◌, nat_le, ◌==◌, slice_index}
use Rattle.std.specs.Ordering.{int_eq}
use Rattle.std.specs.List.{list_all}
use Rattle.std.proofs.lemmas.Int.{ints}
use Rattle.std.proofs.lemmas.List.{append-nil, get_or_default}
use Rattle.std.proofs.lemmas.List.Folds.{list_all-append}
use Rattle.std.proofs.lemmas.Bool.{and_from, cases_lt, cases_order, eq-eqb, le-leb, lt-leb}
use Rattle.std.proofs.lemmas.Bool.Decides.{nat_tests}
use mir.Syntax.{w16}
use mir.Val.{Fits}
use lib.IntN.{+ℤ_idr}
use Rattle.geometry.specs.Facet.{Facet}
use Rattle.geometry.specs.Winding.{hit, wind}
use Rattle.geometry.specs.declared.limits.TheConstants.{COLUMN_LIMIT}
use Rattle.mesh_weld.proofs.lemmas.Sums.{total-append}
use Rattle.exact_cut.specs.Walk.{Walk, IsWalkOf}
use Rattle.exact_cut.specs.Lattice.{IsUncrossed, pixel, row_y}
use Rattle.exact_cut.specs.declared.dda.lattice.Lattice.{Lattice}
use Rattle.exact_cut.proofs.lemmas.Steps.{no_hit}
use Rattle.raster.specs.declared.crossings.RowCrossing.{RowCrossing}
use Rattle.raster.specs.RowCrossing.{passed, crossing_sign, signs}
use Rattle.raster.specs.Crossings.{AreCrossingsWithin, crossings_along, crossings_in, row_passed, row_signs}

abbrev unit : Bool → ℤ
unit b = cond b (pos 1) (negsuc 0)

other-row : (a b : ℕ) → (a < b) ⊎ (b < a) → (a == b) ≡ false
other-row a b h = grind (arith, nat_tests)

-- a crossing in another row adds nothing
along-skip : (row : ℕ) (up : Bool) (c : ℕ) (columns : List ℕ) (j : ℕ) → (row < j) ⊎ (j < row) → crossings_along row up (c ∷ columns) j ≡ crossings_along (row + 1) up columns j
along-skip row up c columns j h =
    ap (λ (b : Bool). cond b ((record { column = c; is_up = up }) ∷ crossings_along (row + 1) up columns j) (crossings_along (row + 1) up columns j)) (other-row row j h)

along-take : (row : ℕ) (up : Bool) (c : ℕ) (columns : List ℕ) (j : ℕ) → row ≡ j → crossings_along row up (c ∷ columns) j ≡ (record { column = c; is_up = up }) ∷ crossings_along (row + 1) up columns j
along-take row up c columns j h =
    ap (λ (b : Bool). cond b ((record { column = c; is_up = up }) ∷ crossings_along (row + 1) up columns j) (crossings_along (row + 1) up columns j)) (eq-eqb row j h)

along-none : (row : ℕ) (up : Bool) (columns : List ℕ) (j : ℕ) → (j < row) ⊎ (row + length columns ≤ j) → crossings_along row up columns j ≡ []
along-none row up [] j h = refl
along-none row up (c ∷ columns) j (inl h) = along-skip row up c columns j (inr h) ∙ along-none (row + 1) up columns j (inl (omega arith))
along-none row up (c ∷ columns) j (inr h) = along-skip row up c columns j (inl (omega arith)) ∙ along-none (row + 1) up columns j (inr (omega arith))

along-one : (row : ℕ) (up : Bool) (columns : List ℕ) (n : ℕ) → n < length columns → crossings_along row up columns (row + n) ≡ (record { column = slice_index columns n; is_up = up }) ∷ []
along-one row up [] n h = absurd (omega arith)
along-one row up (c ∷ columns) zero h =
    along-take row up c columns (row + 0) (omega arith)
    ∙ ap (λ (l : List RowCrossing). (record { column = c; is_up = up }) ∷ l) (along-none (row + 1) up columns (row + 0) (inl (omega arith)))
along-one row up (c ∷ columns) (suc n) h =
    let next : row + suc n ≡ row + 1 + n = omega arith in
    along-skip row up c columns (row + suc n) (inl (omega arith))
    ∙ ap (λ (j : ℕ). crossings_along (row + 1) up columns j) next
    ∙ along-one (row + 1) up columns n (omega arith)

unit-sign : (sign : ℤ) → (sign ≡ pos 1) ⊎ (sign ≡ negsuc 0) → unit (int_eq sign (pos 1)) ≡ sign
unit-sign sign (inl h) = subst (λ (z : ℤ). unit (int_eq z (pos 1)) ≡ z) (sym h) refl
unit-sign sign (inr h) = subst (λ (z : ℤ). unit (int_eq z (pos 1)) ≡ z) (sym h) refl

-- a row is before the walk, after it, or on it
data Placed (row size j : ℕ) : Type 0 where
  before : j < row → Placed row size j
  behind : row + size ≤ j → Placed row size j
  within : (n : ℕ) → n < size → j ≡ row + n → Placed row size j

placed : (row size j : ℕ) → Placed row size j
placed row size j = go (cases_lt j row) (cases_lt j (row + size))
  where
    go : (j < row) ⊎ (row ≤ j) → (j < row + size) ⊎ (row + size ≤ j) → Placed row size j
    go (inl h) k = before h
    go (inr h) (inr k) = behind k
    go (inr h) (inl k) = within (j - row) (omega arith) (omega arith)

-- the signs that a facet adds to a row are its wind there
walked-signs : (t : Facet) (z : ℤ) (l : Lattice) (c : Walk) (j : ℕ) → IsWalkOf t z l c → j < l.rows → signs (crossings_along c.row (int_eq c.sign (pos 1)) c.columns j) ≡ wind t (row_y l j) z
walked-signs t z l c j h low = go (placed c.row (length c.columns) j)
  where
    go : Placed c.row (length c.columns) j → signs (crossings_along c.row (int_eq c.sign (pos 1)) c.columns j) ≡ wind t (row_y l j) z
    go (before k) = ap signs (along-none c.row (int_eq c.sign (pos 1)) c.columns j (inl k)) ∙ sym (h.before j k)
    go (behind k) = ap signs (along-none c.row (int_eq c.sign (pos 1)) c.columns j (inr k)) ∙ sym (h.after j k low)
    go (within n k e) =
        ap (λ (m : ℕ). signs (crossings_along c.row (int_eq c.sign (pos 1)) c.columns m)) e
        ∙ ap signs (along-one c.row (int_eq c.sign (pos 1)) c.columns n k)
        ∙ +ℤ_idr (unit (int_eq c.sign (pos 1)))
        ∙ unit-sign c.sign h.unit
        ∙ (h.crossed n k).crosses.sign_is
        ∙ ap (λ (m : ℕ). wind t (row_y l m) z) (sym e)

no-difference : (w x : ℤ) → w ≡ pos 0 → x ≡ pos 0 → pos 0 ≡ w -ℤ x
no-difference w x h k = omega (arith, ints)

all-difference : (s w x : ℤ) → s ≡ w → x ≡ pos 0 → s ≡ w -ℤ x
all-difference s w x h k = omega (arith, ints)

same-difference : (s w x : ℤ) → s ≡ w → x ≡ s → pos 0 ≡ w -ℤ x
same-difference s w x h k = omega (arith, ints)

-- those left of a pixel's centre, or on it, are the wind less the hit
walked-passed : (t : Facet) (z : ℤ) (l : Lattice) (c : Walk) (i j : ℕ) → IsWalkOf t z l c → i < l.columns → j < l.rows → passed (crossings_along c.row (int_eq c.sign (pos 1)) c.columns j) i ≡ wind t (row_y l j) z -ℤ hit t (pixel l z i j)
walked-passed t z l c i j h inside low = go (placed c.row (length c.columns) j)
  where
    at : (n : ℕ) → n < length c.columns → cond (nat_le (slice_index c.columns n) i) (unit (int_eq c.sign (pos 1))) (pos 0) ≡ wind t (row_y l (c.row + n)) z -ℤ hit t (pixel l z i (c.row + n))
    at n k = elim (cases_lt i (slice_index c.columns n)) [
      | inl left ↦ ap (λ (b : Bool). cond b (unit (int_eq c.sign (pos 1))) (pos 0)) (lt-leb (slice_index c.columns n) i left)
          ∙ same-difference c.sign (wind t (row_y l (c.row + n)) z) (hit t (pixel l z i (c.row + n))) (h.crossed n k).crosses.sign_is ((h.crossed n k).ahead i left)
      | inr right ↦ ap (λ (b : Bool). cond b (unit (int_eq c.sign (pos 1))) (pos 0)) (le-leb (slice_index c.columns n) i right)
          ∙ all-difference (unit (int_eq c.sign (pos 1))) (wind t (row_y l (c.row + n)) z) (hit t (pixel l z i (c.row + n))) (unit-sign c.sign h.unit ∙ (h.crossed n k).crosses.sign_is) ((h.crossed n k).passed i right inside)
    ]

    go : Placed c.row (length c.columns) j → passed (crossings_along c.row (int_eq c.sign (pos 1)) c.columns j) i ≡ wind t (row_y l j) z -ℤ hit t (pixel l z i j)
    go (before k) = ap (λ (l : List RowCrossing). passed l i) (along-none c.row (int_eq c.sign (pos 1)) c.columns j (inl k)) ∙ no-difference (wind t (row_y l j) z) (hit t (pixel l z i j)) (h.before j k) (no_hit t (pixel l z i j) (h.before j k))
    go (behind k) = ap (λ (l : List RowCrossing). passed l i) (along-none c.row (int_eq c.sign (pos 1)) c.columns j (inr k)) ∙ no-difference (wind t (row_y l j) z) (hit t (pixel l z i j)) (h.after j k low) (no_hit t (pixel l z i j) (h.after j k low))
    go (within n k e) =
        ap (λ (m : ℕ). passed (crossings_along c.row (int_eq c.sign (pos 1)) c.columns m) i) e
        ∙ ap (λ (l : List RowCrossing). passed l i) (along-one c.row (int_eq c.sign (pos 1)) c.columns n k)
        ∙ +ℤ_idr (cond (nat_le (slice_index c.columns n) i) (unit (int_eq c.sign (pos 1))) (pos 0))
        ∙ at n k
        ∙ ap (λ (m : ℕ). wind t (row_y l m) z -ℤ hit t (pixel l z i m)) (sym e)

along-within : (n row : ℕ) (up : Bool) (columns : List ℕ) (j : ℕ) → ((k : ℕ) → k < length columns → slice_index columns k ≤ n) → list_all (λ m. nat_le m.column n) (crossings_along row up columns j) ≡ true
along-within n row up [] j h = refl
along-within n row up (c ∷ columns) j h =
    one (row == j) (crossings_along (row + 1) up columns j) (le-leb c n (h 0 (omega arith))) (along-within n (row + 1) up columns j (λ k low. h (suc k) (omega (arith, low))))
  where
    one : (b : Bool) (crossings : List RowCrossing) → nat_le c n ≡ true → list_all (λ m. nat_le m.column n) crossings ≡ true → list_all (λ m. nat_le m.column n) (cond b ((record { column = c; is_up = up }) ∷ crossings) crossings) ≡ true
    one true crossings e f = and_from (nat_le c n) (list_all (λ m. nat_le m.column n) crossings) e f
    one false crossings e f = f

-- each row has the crossings that it had, and those of a walk
abbrev AreAlong : Walk → List (List RowCrossing) → List (List RowCrossing) → Type 0
AreAlong c old new = (j : ℕ) → crossings_in new j ≡ crossings_in old j ++ crossings_along c.row (int_eq c.sign (pos 1)) c.columns j

pub signs-more : (t : Facet) (z : ℤ) (l : Lattice) (c : Walk) (old new : List (List RowCrossing)) → IsWalkOf t z l c → AreAlong c old new → (j : ℕ) → j < l.rows → row_signs new j ≡ row_signs old j +ℤ wind t (row_y l j) z
signs-more t z l c old new h e j low =
    ap signs (e j)
    ∙ total-append crossing_sign (crossings_in old j) (crossings_along c.row (int_eq c.sign (pos 1)) c.columns j)
    ∙ ap (λ (s : ℤ). row_signs old j +ℤ s) (walked-signs t z l c j h low)

pub passed-more : (t : Facet) (z : ℤ) (l : Lattice) (c : Walk) (old new : List (List RowCrossing)) → IsWalkOf t z l c → AreAlong c old new → (i j : ℕ) → i < l.columns → j < l.rows → row_passed new j i ≡ row_passed old j i +ℤ (wind t (row_y l j) z -ℤ hit t (pixel l z i j))
passed-more t z l c old new h e i j inside low =
    ap (λ (crossings : List RowCrossing). passed crossings i) (e j)
    ∙ total-append (λ m. cond (nat_le m.column i) (crossing_sign m) (pos 0)) (crossings_in old j) (crossings_along c.row (int_eq c.sign (pos 1)) c.columns j)
    ∙ ap (λ (s : ℤ). row_passed old j i +ℤ s) (walked-passed t z l c i j h inside low)

pub within-more : (t : Facet) (z : ℤ) (l : Lattice) (c : Walk) (old new : List (List RowCrossing)) → IsWalkOf t z l c → AreAlong c old new → AreCrossingsWithin l.columns old → AreCrossingsWithin l.columns new
within-more t z l c old new h e k = λ j.
    ap (list_all (λ m. nat_le m.column l.columns)) (e j)
    ∙ list_all-append (λ m. nat_le m.column l.columns) (crossings_in old j) (crossings_along c.row (int_eq c.sign (pos 1)) c.columns j)
    ∙ and_from (list_all (λ m. nat_le m.column l.columns) (crossings_in old j)) (list_all (λ m. nat_le m.column l.columns) (crossings_along c.row (int_eq c.sign (pos 1)) c.columns j)) (k j)
    (along-within l.columns c.row (int_eq c.sign (pos 1)) c.columns j (λ n m. (h.crossed n m).least.in_row))

pub passed-none : (t : Facet) (z : ℤ) (l : Lattice) (s : ℤ) → IsUncrossed t z l → (i j : ℕ) → j < l.rows → s ≡ s +ℤ (wind t (row_y l j) z -ℤ hit t (pixel l z i j))
passed-none t z l s h i j low = none s (wind t (row_y l j) z) (hit t (pixel l z i j)) (h j low) (no_hit t (pixel l z i j) (h j low))
  where
    none : (s w x : ℤ) → w ≡ pos 0 → x ≡ pos 0 → s ≡ s +ℤ (w -ℤ x)
    none s w x h' k = omega (arith, ints)

-- one crossing of a walk
pub along-more : (old new : List (List RowCrossing)) (all : List RowCrossing) (at row next column : ℕ) (up : Bool) (columns rest : List ℕ) → columns ≡ column ∷ rest → at ≡ row → next ≡ row + 1
    → crossings_in new at ≡ crossings_in old at ++ (record { column = column; is_up = up }) ∷ []
    → ((j : ℕ) → j ≢ at → crossings_in new j ≡ crossings_in old j)
    → (j : ℕ) → crossings_in old j ++ crossings_along row up columns j ≡ all → crossings_in new j ++ crossings_along next up rest j ≡ all
along-more old new all at row next column up columns rest first here later pushed kept j h =
    ap (λ (n : ℕ). crossings_in new j ++ crossings_along n up rest j) later
    ∙ by-row (cases_order row j)
    ∙ ap (λ (l : List ℕ). crossings_in old j ++ crossings_along row up l j) (sym first)
    ∙ h
  where
    by-row : (row ≡ j) ⊎ (row < j) ⊎ (j < row) → crossings_in new j ++ crossings_along (row + 1) up rest j ≡ crossings_in old j ++ crossings_along row up (column ∷ rest) j
    by-row (inl e) =
        ap (λ (l : List RowCrossing). l ++ crossings_along (row + 1) up rest j)
        (subst (λ (n : ℕ). crossings_in new n ≡ crossings_in old n ++ (record { column = column; is_up = up }) ∷ []) (here ∙ e) pushed)
        ∙ append_assoc (crossings_in old j) ((record { column = column; is_up = up }) ∷ []) (crossings_along (row + 1) up rest j)
        ∙ ap (λ (l : List RowCrossing). crossings_in old j ++ l) (sym (along-take row up column rest j e))
    by-row (inr other) =
        ap (λ (l : List RowCrossing). l ++ crossings_along (row + 1) up rest j) (kept j (apart other))
        ∙ ap (λ (l : List RowCrossing). crossings_in old j ++ l) (sym (along-skip row up column rest j other))
      where
        apart : (row < j) ⊎ (j < row) → j ≢ at
        apart k e = elim k [ inl low ↦ omega (arith, low, e, here) | inr low ↦ omega (arith, low, e, here) ]

-- the columns that are left
pub columns-left : (n column : ℕ) (columns rest : List ℕ) → columns ≡ column ∷ rest → All (λ c. c ≤ n) columns → All (λ c. c ≤ n) rest
columns-left n column columns rest first h =
    let all : All (λ c. c ≤ n) (column ∷ rest) = subst (λ (l : List ℕ). All (λ c. c ≤ n) l) first h in
    λ k d low. all (suc k) d (omega (arith, low))

-- if a line does not wind round a facet, nothing is added
pub nothing-more : (a w : ℤ) → w ≡ pos 0 → a ≡ a +ℤ w
nothing-more a w h = omega (arith, ints)

-- ---- a walk row by row
pub some-left : (row end at n : ℕ) → row < end → row ≡ at → end ≡ at + n → 0 < n
some-left row end at n h e f = omega arith

pub first-fits : (columns rest : List ℕ) (c : ℕ) → columns ≡ c ∷ rest → All (λ x. x ≤ COLUMN_LIMIT) columns → Fits w16 c
first-fits columns rest c e h =
    let low : c ≤ COLUMN_LIMIT = subst (λ (l : List ℕ). All (λ x. x ≤ COLUMN_LIMIT) l) e h 0 0 (omega arith) in
    record { fits = omega arith }

pub row-in : (row end n out old : ℕ) → row < end → end ≡ n → n ≤ old → out ≡ old → row < out
row-in row end n out old h e k f = omega arith

pub falls-on : (n i : ℕ) → i < n → n - (i + 1) < n - i
falls-on n i h = omega arith

pub columns-few : (t : Facet) (z : ℤ) (l : Lattice) (c : Walk) → IsWalkOf t z l c → l.columns ≤ COLUMN_LIMIT → All (λ x. x ≤ COLUMN_LIMIT) c.columns
columns-few t z l c h few k d low =
    let inside : slice_index c.columns k ≤ l.columns = (h.crossed k low).least.in_row in
    subst (λ (x : ℕ). x ≤ COLUMN_LIMIT) (sym (get_or_default c.columns k d 0 low)) (omega arith)

pub along-all : (row end at start : ℕ) (up sign : Bool) (columns all : List ℕ) (out old : List RowCrossing) (j : ℕ) → end ≤ row → row ≡ at → end ≡ at + length columns
    → out ++ crossings_along at up columns j ≡ old ++ crossings_along start up all j → up ≡ sign → out ≡ old ++ crossings_along start sign all j
along-all row end at start up sign [] all out old j h e f k same = sym (append-nil out) ∙ k ∙ ap (λ (b : Bool). old ++ crossings_along start b all j) same
along-all row end at start up sign (c ∷ columns) all out old j h e f k same = absurd (omega arith)
