-- What a DDA's steps keep: its position grows by the increment, and its whole units are the position over the unit, rounded up.
use Rattle.std.proofs.Common.{◌≡◌, ◌⊎◌, inl, inr, ℕ, zero, suc, ◌+◌, ◌*◌, ◌-◌, ◌<◌, ◌≤◌, Bool, true, false, List, [], ◌∷◌, length, slice_index, ℤ, pos, ◌+ℤ◌, ◌-ℤ◌, ◌*ℤ◌, ◌≤ℤ◌, ◌<ℤ◌, unsigned_abs, int_lt, if◌then◌else◌, refl, sym, ◌∙◌, ap, subst, arith}
use Rattle.std.proofs.Math.Nat.{mul-suc}
use Rattle.std.proofs.lemmas.Bool.{cases_lt}
use Rattle.std.proofs.lemmas.Int.{ints}
use lib.IntN.{+ℤ_idr, -ℤ-+ℤ_cancel, *ℤ_comm}
use Rattle.exact_int.specs.Bounds.{IsAtMost}
use Rattle.exact_int.proofs.lemmas.Identity.{reads, identity}
use Rattle.exact_int.proofs.lemmas.Signs.{at_most_or_above, next_at_most, add_not_negative, mul_le_left, difference_from_le}
use Rattle.exact_int.proofs.lemmas.Tests.{plain_less}
use Rattle.exact_int.specs.Division.{IsCeilDiv}
use Rattle.exact_cut.specs.Bounds.{step_limit, whole_limit}
use Rattle.exact_cut.specs.Column.{clamp}
use Rattle.exact_cut.specs.Dda.{IsDda, IsOnRows, next, columns_along, position_of, increment_of}
use Rattle.exact_cut.specs.declared.dda.Dda.{Dda}

-- ---- one step, by its two cases
abbrev pub near : Dda → Dda
near s = record { unit = s.unit; whole = s.whole +ℤ s.increment; remainder = s.remainder +ℤ s.increment_remainder; increment = s.increment; increment_remainder = s.increment_remainder }

abbrev pub far : Dda → Dda
far s = record { unit = s.unit; whole = s.whole +ℤ s.increment -ℤ pos 1; remainder = s.remainder +ℤ s.increment_remainder -ℤ s.unit; increment = s.increment; increment_remainder = s.increment_remainder }

next-near : (s : Dda) → int_lt (s.remainder +ℤ s.increment_remainder) s.unit ≡ true → next s ≡ near s
next-near s e = ap (λ (b : Bool). if b then near s else far s) e

next-far : (s : Dda) → int_lt (s.remainder +ℤ s.increment_remainder) s.unit ≡ false → next s ≡ far s
next-far s e = ap (λ (b : Bool). if b then near s else far s) e

-- one step by an excess over the unit, which is below 0 exactly in the first case
module _ (s : Dda) where
  abbrev pub excess : ℤ
  excess = s.remainder +ℤ s.increment_remainder -ℤ s.unit

  abbrev pub stepped_by : ℤ → ℤ → Dda
  stepped_by one unit = record { unit = s.unit; whole = s.whole +ℤ s.increment -ℤ pos 1 +ℤ one; remainder = excess +ℤ unit; increment = s.increment; increment_remainder = s.increment_remainder }

  pub stepped-next : (one unit : ℤ) → one ≡ (if int_lt excess (pos 0) then pos 1 else pos 0) → unit ≡ (if int_lt excess (pos 0) then s.unit else pos 0) → stepped_by one unit ≡ next s
  stepped-next one unit h k = by (int_lt excess (pos 0)) (int_lt (s.remainder +ℤ s.increment_remainder) s.unit) refl refl h k
    where
      clash : (a u : ℤ) → int_lt (a -ℤ u) (pos 0) ≡ true → int_lt a u ≡ false → ⊥
      clash a u e f = omega (arith, ints)

      clash' : (a u : ℤ) → int_lt (a -ℤ u) (pos 0) ≡ false → int_lt a u ≡ true → ⊥
      clash' a u e f = omega (arith, ints)

      by : (b c : Bool) → int_lt excess (pos 0) ≡ b → int_lt (s.remainder +ℤ s.increment_remainder) s.unit ≡ c
          → one ≡ (if b then pos 1 else pos 0) → unit ≡ (if b then s.unit else pos 0) → stepped_by one unit ≡ next s
      by true true e f h k =
          (λ i. stepped_by (h i) (k i))
          ∙ (λ i. record { unit = s.unit; whole = -ℤ-+ℤ_cancel (s.whole +ℤ s.increment) (pos 1) i; remainder = -ℤ-+ℤ_cancel (s.remainder +ℤ s.increment_remainder) s.unit i; increment = s.increment; increment_remainder = s.increment_remainder })
          ∙ sym (next-near s f)
      by false false e f h k =
          (λ i. stepped_by (h i) (k i))
          ∙ (λ i. record { unit = s.unit; whole = +ℤ_idr (s.whole +ℤ s.increment -ℤ pos 1) i; remainder = +ℤ_idr excess i; increment = s.increment; increment_remainder = s.increment_remainder })
          ∙ sym (next-far s f)
      by true false e f h k = absurd (clash (s.remainder +ℤ s.increment_remainder) s.unit e f)
      by false true e f h k = absurd (clash' (s.remainder +ℤ s.increment_remainder) s.unit e f)

-- a number or 0 is within the number's bound
pub kept_in : {m : ℕ} (b : Bool) (n : ℤ) {k : ℤ} → k ≡ (if b then n else pos 0) → IsAtMost m n → IsAtMost m k
kept_in true n e h = subst (IsAtMost _) (sym e) h
kept_in false n e h = subst (IsAtMost _) (sym e) (record { at_most = omega arith })

-- what holds of both cases holds of the step
by_cases : (s : Dda) (P : Dda → Type 0) → ((s.remainder +ℤ s.increment_remainder) <ℤ s.unit → P (near s)) → (s.unit ≤ℤ (s.remainder +ℤ s.increment_remainder) → P (far s)) → P (next s)
by_cases s P h k = by (int_lt (s.remainder +ℤ s.increment_remainder) s.unit) refl
  where
    not_less : (a b : ℤ) → int_lt a b ≡ false → b ≤ℤ a
    not_less a b e = omega (arith, ints)

    by : (b : Bool) → int_lt (s.remainder +ℤ s.increment_remainder) s.unit ≡ b → P (if b then near s else far s)
    by true e = h ((plain_less (s.remainder +ℤ s.increment_remainder) s.unit).0 e)
    by false e = k (not_less (s.remainder +ℤ s.increment_remainder) s.unit e)

IsDda-next : (s : Dda) → IsDda s → IsDda (next s)
IsDda-next s h =
    by_cases s IsDda (λ l. record {
      unit_in = h.unit_in;
      increment_in = h.increment_in;
      not_negative = add_not_negative s.remainder s.increment_remainder h.not_negative h.increment_not_negative;
      below = l;
      increment_not_negative = h.increment_not_negative;
      increment_below = h.increment_below;
    }) (λ l. record {
      unit_in = h.unit_in;
      increment_in = h.increment_in;
      not_negative = difference_from_le s.unit (s.remainder +ℤ s.increment_remainder) l;
      below = less s.remainder s.increment_remainder s.unit h.below h.increment_below;
      increment_not_negative = h.increment_not_negative;
      increment_below = h.increment_below;
    })
  where
    less : (a b c : ℤ) → a <ℤ c → b <ℤ c → ((a +ℤ b) -ℤ c) <ℤ c
    less a b c h k = omega (arith, ints)

-- ---- positions
-- m is s with its position grown by `distance`
pub record Advance (s : Dda) (distance : ℤ) (m : Dda) : Type 0 where
  pub unit : m.unit ≡ s.unit
  pub increment : increment_of m ≡ increment_of s
  pub position : position_of m ≡ position_of s +ℤ distance

Advance-next : (s : Dda) → Advance s (increment_of s) (next s)
Advance-next s =
    by_cases s (Advance s (increment_of s)) (λ _. record {
      unit = refl;
      increment = refl;
      position = identity (s.unit ∷ s.whole ∷ s.remainder ∷ s.increment ∷ s.increment_remainder ∷ []) (search reads depth 40) refl;
    }) (λ _. record {
      unit = refl;
      increment = refl;
      position = identity (s.unit ∷ s.whole ∷ s.remainder ∷ s.increment ∷ s.increment_remainder ∷ []) (search reads depth 40) refl;
    })

-- the DDA n steps on
abbrev pub after : ℕ → Dda → Dda
after zero s = s
after (suc n) s = after n (next s)

pub IsDda-after : (n : ℕ) (s : Dda) → IsDda s → IsDda (after n s)
IsDda-after zero s h = h
IsDda-after (suc n) s h = IsDda-after n (next s) (IsDda-next s h)

pub Advance-after : (n : ℕ) (s : Dda) → Advance s (pos n *ℤ increment_of s) (after n s)
Advance-after zero s = record {
  unit = refl;
  increment = refl;
  position = identity (s.unit ∷ s.whole ∷ s.remainder ∷ s.increment ∷ s.increment_remainder ∷ []) (search reads depth 40) refl;
}
Advance-after (suc n) s =
    let h = Advance-after n (next s) in
    let k = Advance-next s in
    record {
      unit = h.unit ∙ k.unit;
      increment = h.increment ∙ k.increment;
      position = h.position ∙ (λ i. k.position i +ℤ pos n *ℤ k.increment i) ∙ one_more (pos n) (pos (suc n)) (position_of s) (increment_of s) (omega (arith, ints));
    }
  where
    one_more : (n m a b : ℤ) → m ≡ n +ℤ pos 1 → (a +ℤ b) +ℤ n *ℤ b ≡ a +ℤ m *ℤ b
    one_more n m a b e = identity (n ∷ a ∷ b ∷ []) (search reads depth 40) refl ∙ ap (λ m. a +ℤ m *ℤ b) (sym e)

-- ---- the columns of a walk
pub length-columns_along : (n count : ℕ) (s : Dda) → length (columns_along n count s) ≡ n
length-columns_along zero count s = refl
length-columns_along (suc n) count s = ap suc (length-columns_along n count (next s))

pub column-after : (left n count : ℕ) (s : Dda) → n < left → slice_index (columns_along left count s) n ≡ clamp (after n s).whole count
column-after zero n count s h = absurd (omega arith)
column-after (suc left) zero count s h = refl
column-after (suc left) (suc n) count s h = column-after left n count (next s) (omega arith)

pub columns_along-first : (left count : ℕ) (s : Dda) → 0 < left → columns_along left count s ≡ clamp s.whole count ∷ columns_along (left - 1) count (next s)
columns_along-first left count s h = let e : left ≡ suc (left - 1) = omega arith in ap (λ n. columns_along n count s) e

-- a walk with a column left has a row left
pub some_left : (left count : ℕ) (s : Dda) {columns : List ℕ} → columns_along left count s ≡ columns → 0 < length columns → 0 < left
some_left left count s e h = subst (λ n. 0 < n) (sym (ap length e) ∙ length-columns_along left count s) h

-- ---- the ceiling
pub ceiling_of : (s : Dda) → IsDda s → IsCeilDiv s.whole (position_of s) s.unit
ceiling_of s h q = (λ l. up (s.unit *ℤ s.whole) (s.unit *ℤ q) _ s.remainder _ (mul_le_left s.unit s.whole q positive l) (*ℤ_comm s.unit s.whole) (*ℤ_comm s.unit q) h.not_negative, λ l. by (at_most_or_above s.whole q) l)
  where
    weak : (u l : ℤ) → pos 0 ≤ℤ l → l <ℤ u → pos 0 ≤ℤ u
    weak u l h k = omega (arith, ints)

    positive : pos 0 ≤ℤ s.unit
    positive = weak s.unit s.remainder h.not_negative h.below

    up : (a b c d e : ℤ) → a ≤ℤ b → a ≡ c → b ≡ e → pos 0 ≤ℤ d → (c -ℤ d) ≤ℤ e
    up a b c d e h k l m = omega (arith, ints)

    clash : (a b c d u : ℤ) → a ≤ℤ b → a ≡ d +ℤ u → b ≡ c → (l : ℤ) → l <ℤ u → (c -ℤ l) ≤ℤ d → ⊥
    clash a b c d u h e f l k m = omega (arith, ints)

    by : (s.whole ≤ℤ q) ⊎ (q <ℤ s.whole) → position_of s ≤ℤ (q *ℤ s.unit) → s.whole ≤ℤ q
    by (inl p) l = p
    by (inr p) l =
        absurd (clash (s.unit *ℤ (q +ℤ pos 1)) (s.unit *ℤ s.whole) (s.whole *ℤ s.unit) (q *ℤ s.unit) s.unit
        (mul_le_left s.unit (q +ℤ pos 1) s.whole positive (next_at_most q s.whole p))
        (identity (q ∷ s.unit ∷ []) (search reads depth 40) refl) (*ℤ_comm s.unit s.whole) s.remainder h.below l)

-- ---- numbers that fit
pub remainder_in : {m : ℕ} (l u : ℤ) → pos 0 ≤ℤ l → l <ℤ u → IsAtMost m u → IsAtMost m l
remainder_in {m} l u h k b = record { at_most = omega (arith, ints, b.at_most) }

whole_next : (s : Dda) → IsDda s → unsigned_abs (next s).whole ≤ unsigned_abs s.whole + step_limit
whole_next s h =
    by_cases s (λ m. unsigned_abs m.whole ≤ unsigned_abs s.whole + step_limit)
    (λ _. one s.whole s.increment h.increment_in.at_most) (λ _. other s.whole s.increment h.increment_in.at_most)
  where
    one : {m : ℕ} (w p : ℤ) → unsigned_abs p ≤ m → unsigned_abs (w +ℤ p) ≤ unsigned_abs w + (m + 1)
    one w p h = omega (arith, ints)

    other : {m : ℕ} (w p : ℤ) → unsigned_abs p ≤ m → unsigned_abs (w +ℤ p -ℤ pos 1) ≤ unsigned_abs w + (m + 1)
    other w p h = omega (arith, ints)

fewer : (left v w s m : ℕ) → 0 < left → v ≤ w + s → w + s * left ≤ m → v + s * (left - 1) ≤ m
fewer left v w s m a b c =
    let e : left ≡ suc (left - 1) = omega arith in
    one_less (left - 1) v w s m (s * left) (ap (λ n. s * n) e ∙ mul-suc s (left - 1)) b c
  where
    one_less : (n v w s m p : ℕ) → p ≡ s * n + s → v ≤ w + s → w + p ≤ m → v + s * n ≤ m
    one_less n v w s m p e b c = omega arith

pub IsOnRows-next : (row left : ℕ) (sign : ℤ) (s : Dda) → 0 < left → IsOnRows row left sign s → IsOnRows (row + 1) (left - 1) sign (next s)
IsOnRows-next row left sign s some h = record {
  unit = h.unit;
  dda = IsDda-next s h.dda;
  rows_in = let k = h.rows_in in omega arith;
  whole_in = fewer left (unsigned_abs (next s).whole) (unsigned_abs s.whole) step_limit whole_limit some (whole_next s h.dda) h.whole_in;
}

-- ---- the DDA of the next row; after the last row it stays as it is
module _ (left : ℕ) (s e : Dda) (is_next : 1 < left → e ≡ next s) where
  pub IsOnRows-followed : (row : ℕ) (sign : ℤ) → 0 < left → (left ≤ 1 → e ≡ s) → IsOnRows row left sign s → IsOnRows (row + 1) (left - 1) sign e
  IsOnRows-followed row sign some is_same h = by (cases_lt 1 left)
    where
      by : (1 < left) ⊎ (left ≤ 1) → IsOnRows (row + 1) (left - 1) sign e
      by (inl m) = subst (IsOnRows (row + 1) (left - 1) sign) (sym (is_next m)) (IsOnRows-next row left sign s some h)
      by (inr m) = subst (IsOnRows (row + 1) (left - 1) sign) (sym (is_same m)) (record {
        unit = h.unit;
        dda = h.dda;
        rows_in = let k = h.rows_in in omega arith;
        whole_in = fewer left (unsigned_abs s.whole) (unsigned_abs s.whole) step_limit whole_limit some (omega arith) h.whole_in;
      })

  pub columns_along-followed : (count : ℕ) → columns_along (left - 1) count (next s) ≡ columns_along (left - 1) count e
  columns_along-followed count = by (cases_lt 1 left)
    where
      by : (1 < left) ⊎ (left ≤ 1) → columns_along (left - 1) count (next s) ≡ columns_along (left - 1) count e
      by (inl m) = ap (columns_along (left - 1) count) (sym (is_next m))
      by (inr m) =
          let none : left - 1 ≡ 0 = omega arith in
          ap (λ n. columns_along n count (next s)) none ∙ sym (ap (λ n. columns_along n count e) none)

pub whole_left : (row left : ℕ) (sign : ℤ) (s : Dda) → IsOnRows row left sign s → IsAtMost whole_limit s.whole
whole_left row left sign s h = record { at_most = at_most (unsigned_abs s.whole) (step_limit * left) whole_limit h.whole_in }
  where
    at_most : (a b m : ℕ) → a + b ≤ m → a ≤ m
    at_most a b m h = omega arith
