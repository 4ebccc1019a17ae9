-- What `Walk` gives: its columns are those of the facet's crossings, row by row, and they say which rays hit.
use Rattle.std.proofs.Common.{◌≡◌, ◌⊎◌, inl, inr, Bool, true, false, ◌&&◌, nat_lt, nat_le, if◌then◌else◌, ℕ, zero, suc, ◌+◌, ◌-◌, ◌<◌, ◌≤◌, [], ◌∷◌, List, length, slice_index, ℤ, pos, negsuc, ◌+ℤ◌, ◌-ℤ◌, ◌*ℤ◌, refl, sym, ◌∙◌, subst, arith}
use Rattle.exact_int.proofs.lemmas.Identity.{reads, identity}
use Rattle.exact_int.proofs.lemmas.Signs.{not_both, at_most_from_not_above}
use Rattle.geometry.specs.Facet.{Facet}
use Rattle.geometry.specs.Winding.{wind, volume, hit}
use Rattle.exact_cut.specs.Column.{centre_x, IsLeastColumn}
use Rattle.exact_cut.specs.Crossing.{Crosses}
use Rattle.exact_cut.specs.Lattice.{row_y, pixel, IsUncrossed}
use Rattle.exact_cut.specs.Walk.{Walk, IsCrossedAt, IsWalkOf, walk_hit}
use Rattle.exact_cut.specs.Section.{IsSection, slope_between, num_between, den_between}
use Rattle.exact_cut.specs.Dda.{IsDda, columns_along, position_of, increment_of}
use Rattle.exact_cut.specs.Laws.{CrossingsSplitRows, UncrossedRowsHaveNoHits, WalksTellHits}
use Rattle.exact_cut.specs.declared.scanline.cut_point.CutPoint.{CutPoint}
use Rattle.exact_cut.specs.declared.scanline.section.Section.{Section}
use Rattle.exact_cut.specs.declared.dda.lattice.Lattice.{Lattice}
use Rattle.exact_cut.specs.declared.dda.Dda.{Dda}
use Rattle.exact_cut.proofs.lemmas.Hitting.{hit-wind, hit-zero}
use Rattle.exact_cut.proofs.lemmas.Least.{ceiling_by, least_clamp}
use Rattle.exact_cut.proofs.lemmas.Scanlines.{not_before}
use Rattle.exact_cut.proofs.lemmas.Sections.{both_alike, up_ahead, down_ahead}
use Rattle.exact_cut.proofs.lemmas.Steps.{no_hit}
use Rattle.exact_cut.proofs.lemmas.DdaSteps.{after, IsDda-after, Advance-after, ceiling_of, column-after}

-- ---- the columns of a DDA
-- n rows on, the position has grown by n increments
grown : (a d k x y s r n : ℤ) → (a +ℤ (y +ℤ pos 2 *ℤ s *ℤ r) *ℤ k -ℤ x *ℤ d) +ℤ n *ℤ (pos 2 *ℤ s *ℤ k) ≡ a +ℤ (y +ℤ pos 2 *ℤ s *ℤ (r +ℤ n)) *ℤ k -ℤ x *ℤ d
grown a d k x y s r n = identity (a ∷ d ∷ k ∷ x ∷ y ∷ s ∷ r ∷ n ∷ []) (search reads depth 40 fits 5000) refl

module _ (p q : CutPoint) (l : Lattice) (row : ℕ) (s : Dda) (h : IsDda s)
    (unit : s.unit ≡ pos 2 *ℤ pos l.step *ℤ den_between p q)
    (position : position_of s ≡ num_between p q (row_y l row) -ℤ l.x2 *ℤ den_between p q)
    (left : ℕ) (increment : 1 < left → increment_of s ≡ pos 2 *ℤ pos l.step *ℤ slope_between p q) where
  position-after : (n : ℕ) → n < left → position_of (after n s) ≡ num_between p q (row_y l (row + n)) -ℤ l.x2 *ℤ den_between p q
  position-after zero b = subst (λ r. position_of s ≡ num_between p q (row_y l r) -ℤ l.x2 *ℤ den_between p q) same_row position
    where
      same_row : row ≡ row + zero
      same_row = omega arith
  position-after (suc n) b = let e = increment (omega arith) in
      (Advance-after (suc n) s).position ∙ (λ i. position i +ℤ pos (suc n) *ℤ e i)
      ∙ grown (p.x *ℤ q.y -ℤ p.y *ℤ q.x) (den_between p q) (slope_between p q) l.x2 l.y2 (pos l.step) (pos row) (pos (suc n))

  pub columns-least : (n : ℕ) → n < left
      → IsLeastColumn (num_between p q (row_y l (row + n))) (den_between p q) l.x2 l.step l.columns (slice_index (columns_along left l.columns s) n)
  columns-least n b =
      subst (IsLeastColumn (num_between p q (row_y l (row + n))) (den_between p q) l.x2 l.step l.columns) (sym (column-after left n l.columns s b))
      (least_clamp (after n s).whole (num_between p q (row_y l (row + n))) (den_between p q) l.x2 l.step l.columns
      (ceiling_by (num_between p q (row_y l (row + n))) (den_between p q) l.x2 (pos l.step) (ceiling_of (after n s) (IsDda-after n s h)) (position-after n b) ((Advance-after n s).unit ∙ unit)))

-- ---- one row
pub splits : CrossingsSplitRows
splits t y z sign num den first step columns column c k = (
  λ i b. hit-wind t (record { x = centre_x first step i; y = y; z = z }) ((c.ahead_of (centre_x first step i)).0 (k.before_left i b)) ∙ sym c.sign_is,
  λ i b e.
      hit-zero t (record { x = centre_x first step i; y = y; z = z })
      (at_most_from_not_above (pos 0) (wind t y z *ℤ volume t (record { x = centre_x first step i; y = y; z = z })) (λ a. not_both (centre_x first step i *ℤ den) num ((c.ahead_of (centre_x first step i)).1 a) (not_before num den first step columns column i c.den_positive k b e))),
)

crossed_at : (t : Facet) (z : ℤ) (l : Lattice) (sign : ℤ) (j column : ℕ) (num den : ℤ) → Crosses t (row_y l j) z sign num den → IsLeastColumn num den l.x2 l.step l.columns column → IsCrossedAt t z l sign j column
crossed_at t z l sign j column num den c k =
    let h = splits t (row_y l j) z sign num den l.x2 l.step l.columns column c k in
    record { num = num; den = den; crosses = c; least = k; ahead = h.0; passed = h.1 }

-- ---- all rows
abbrev with_columns : ℕ → ℤ → List ℕ → Walk
with_columns row sign columns = record { row = row; sign = sign; columns = columns }

module _ (t : Facet) (z : ℤ) (l : Lattice) (s : Section) (h : IsSection t z s) (lo hi : ℕ)
    (is_lo : IsLeastColumn s.down.y s.down.d l.y2 l.step l.rows lo) (is_hi : IsLeastColumn s.up.y s.up.d l.y2 l.step l.rows hi) where
  both_before : (j : ℕ) → j < lo → j < hi → wind t (row_y l j) z ≡ pos 0
  both_before j a b = both_alike t (row_y l j) z s h (inl (is_lo.before_left j a, is_hi.before_left j b))

  both_after : (j : ℕ) → lo ≤ j → hi ≤ j → j < l.rows → wind t (row_y l j) z ≡ pos 0
  both_after j a b c =
      both_alike t (row_y l j) z s h (inr (not_before s.down.y s.down.d l.y2 l.step l.rows lo j s.down.d_positive is_lo a c, not_before s.up.y s.up.d l.y2 l.step l.rows hi j s.up.d_positive is_hi b c))

  pub crosses_upward : (j : ℕ) → lo ≤ j → j < hi → Crosses t (row_y l j) z (pos 1) (num_between s.down s.up (row_y l j)) (den_between s.down s.up)
  crosses_upward j a b = up_ahead t (row_y l j) z s h (is_hi.before_left j b) (not_before s.down.y s.down.d l.y2 l.step l.rows lo j s.down.d_positive is_lo a (let k = is_hi.in_row in omega arith))

  pub crosses_downward : (j : ℕ) → hi ≤ j → j < lo → Crosses t (row_y l j) z (negsuc 0) (num_between s.up s.down (row_y l j)) (den_between s.up s.down)
  crosses_downward j a b = down_ahead t (row_y l j) z s h (not_before s.up.y s.up.d l.y2 l.step l.rows hi j s.up.d_positive is_hi a (let k = is_lo.in_row in omega arith)) (is_lo.before_left j b)

  pub uncrossed : lo ≡ hi → IsUncrossed t z l
  uncrossed e j b = by (below_or_not j lo)
    where
      below_or_not : (i k : ℕ) → (i < k) ⊎ (k ≤ i)
      below_or_not i k = grind arith

      by : (j < lo) ⊎ (lo ≤ j) → wind t (row_y l j) z ≡ pos 0
      by (inl k) = both_before j k (omega arith)
      by (inr k) = both_after j k (omega arith) b

  pub upward : lo < hi → (columns : List ℕ) → length columns ≡ hi - lo
      → ((n : ℕ) → n < hi - lo → IsLeastColumn (num_between s.down s.up (row_y l (lo + n))) (den_between s.down s.up) l.x2 l.step l.columns (slice_index columns n))
      → IsWalkOf t z l (record { row = lo; sign = pos 1; columns = columns })
  upward b columns e k = record {
    some = omega arith;
    in_rows = let r = is_hi.in_row in omega arith;
    unit = inl refl;
    before = λ j a. both_before j a (omega arith);
    after = λ j a c. both_after j (omega arith) (omega arith) c;
    crossed = λ n a. crossed_at t z l (pos 1) (lo + n) (slice_index columns n) _ _ (crosses_upward (lo + n) (omega arith) (omega arith)) (k n (omega arith));
  }

  pub downward : hi < lo → (columns : List ℕ) → length columns ≡ lo - hi
      → ((n : ℕ) → n < lo - hi → IsLeastColumn (num_between s.up s.down (row_y l (hi + n))) (den_between s.up s.down) l.x2 l.step l.columns (slice_index columns n))
      → IsWalkOf t z l (record { row = hi; sign = negsuc 0; columns = columns })
  downward b columns e k = record {
    some = omega arith;
    in_rows = let r = is_lo.in_row in omega arith;
    unit = inr refl;
    before = λ j a. both_before j (omega arith) a;
    after = λ j a c. both_after j (omega arith) (omega arith) c;
    crossed = λ n a. crossed_at t z l (negsuc 0) (hi + n) (slice_index columns n) _ _ (crosses_downward (hi + n) (omega arith) (omega arith)) (k n (omega arith));
  }

-- a walk by its parts
pub walk_as : {t : Facet} {z : ℤ} {l : Lattice} (c : Walk) (row : ℕ) (sign : ℤ) → c.row ≡ row → c.sign ≡ sign → IsWalkOf t z l (record { row = row; sign = sign; columns = c.columns }) → IsWalkOf t z l c
walk_as {t} {z} {l} c row sign e f h = subst (IsWalkOf t z l) (λ i. with_columns (sym e i) (sym f i) c.columns) h

-- ---- all pixels
pub uncrossed-hits : UncrossedRowsHaveNoHits
uncrossed-hits t z l h i j b = no_hit t (pixel l z i j) (h j b)

inside : (a b c : Bool) (x : ℤ) → a ≡ true → b ≡ true → c ≡ true → (if a && b && c then x else pos 0) ≡ x
inside a b c x e f g = λ k. if e k && f k && g k then x else pos 0

left_out : (a b c : Bool) (x : ℤ) → a ≡ false → (if a && b && c then x else pos 0) ≡ pos 0
left_out a b c x e = λ k. if e k && b && c then x else pos 0

right_out : (a b c : Bool) (x : ℤ) → a ≡ true → b ≡ false → (if a && b && c then x else pos 0) ≡ pos 0
right_out a b c x e f = λ k. if e k && f k && c then x else pos 0

last_out : (a b c : Bool) (x : ℤ) → a ≡ true → b ≡ true → c ≡ false → (if a && b && c then x else pos 0) ≡ pos 0
last_out a b c x e f g = λ k. if e k && f k && g k then x else pos 0

pub walks-hits : WalksTellHits
walks-hits t z l c h i j b d = by (nat_le c.row j) (nat_lt j (c.row + length c.columns)) (nat_lt i (slice_index c.columns (j - c.row))) refl refl refl
  where
    n : ℕ
    n = j - c.row

    le : (a b : ℕ) → nat_le a b ≡ true → a ≤ b
    le a b e = grind arith

    not_le : (a b : ℕ) → nat_le a b ≡ false → b < a
    not_le a b e = grind arith

    lt : (a b : ℕ) → nat_lt a b ≡ true → a < b
    lt a b e = grind arith

    not_lt : (a b : ℕ) → nat_lt a b ≡ false → b ≤ a
    not_lt a b e = grind arith

    none : wind t (row_y l j) z ≡ pos 0 → hit t (pixel l z i j) ≡ pos 0
    none e = no_hit t (pixel l z i j) e

    in_walk : (k : ℕ) → j ≡ c.row + k → k < length c.columns → IsCrossedAt t z l c.sign j (slice_index c.columns k)
    in_walk k e a = subst (λ j. IsCrossedAt t z l c.sign j (slice_index c.columns k)) (sym e) (h.crossed k a)

    by : (p q r : Bool) → nat_le c.row j ≡ p → nat_lt j (c.row + length c.columns) ≡ q → nat_lt i (slice_index c.columns (j - c.row)) ≡ r → hit t (pixel l z i j) ≡ walk_hit c i j
    by false q r e f g = none (h.before j (not_le c.row j e)) ∙ sym (left_out _ _ _ c.sign e)
    by true false r e f g = none (h.after j (not_lt j (c.row + length c.columns) f) d) ∙ sym (right_out _ _ _ c.sign e f)
    by true true true e f g =
        let a = le c.row j e in
        let k = lt j (c.row + length c.columns) f in
        (in_walk n (omega arith) (omega arith)).ahead i (lt i (slice_index c.columns n) g) ∙ sym (inside _ _ _ c.sign e f g)
    by true true false e f g =
        let a = le c.row j e in
        let k = lt j (c.row + length c.columns) f in
        (in_walk n (omega arith) (omega arith)).passed i (not_lt i (slice_index c.columns n) g) b ∙ sym (last_out _ _ _ c.sign e f g)
