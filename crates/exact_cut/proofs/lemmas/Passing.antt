-- Which edges pass a height, by where the corners lie.
use Rattle.std.proofs.Common.{◌≡◌, ◌↔◌, IsTrue, Bool, true, false, not, ◌&&◌, ℕ, ◌+◌, ◌*◌, zero, suc, ◌<◌, ◌⊎◌, ℤ, refl, subst, arith, inl, inr}
use mir.Val.{bool_byte}
use mathlib.Core.Bool.{beq}
use Rattle.exact_int.proofs.lemmas.Signs.{at_most_or_above, not_both}
use Rattle.geometry.specs.TieRule.{IsBelow, IsAbove}
use Rattle.geometry.specs.Point.{Point}
use Rattle.geometry.specs.Facet.{Facet}
use Rattle.exact_cut.specs.Cut.{start, finish, Rises, IsBetween, IsCut}

pub rises : (u v : Point) (z : ℤ) → IsBelow u.z z → IsAbove v.z z → Rises u v z
rises u v z h k = record { low = h; high = k }

-- the tie rule's result for a corner, if the code's plane z' is z
pub below_by : {height z' z : ℤ} → z' ≡ z → IsTrue true ↔ IsBelow height z' → IsBelow height z
below_by {height} e h = subst (IsBelow height) e (h.0 refl)

pub above_by : {height z' z : ℤ} → z' ≡ z → IsTrue false ↔ IsBelow height z' → IsAbove height z
above_by {height} {z'} e h = subst (IsAbove height) e (by (at_most_or_above height z'))
  where
    by : IsBelow height z' ⊎ IsAbove height z' → IsAbove height z'
    by (inl k) = let never = h.1 k in absurd (cc)
    by (inr k) = k

-- where a corner of this height lies, by the result of the tie rule
abbrev pub IsSide : Bool → ℤ → ℤ → Type 0
IsSide true height z = IsBelow height z
IsSide false height z = IsAbove height z

-- the same, if the code's numbers are the height and the plane
pub side_by : (below : Bool) {height' height z' z : ℤ} → height' ≡ height → z' ≡ z → IsTrue below ↔ IsBelow height' z' → IsSide below height z
side_by true {z = z} e g h = subst (λ y. IsBelow y z) e (below_by g h)
side_by false {z = z} e g h = subst (λ y. IsAbove y z) e (above_by g h)

not_low : (u v : Point) (z : ℤ) → IsAbove u.z z → Rises u v z → ⊥
not_low u v z h k = not_both z u.z h k.low

not_high : (u v : Point) (z : ℤ) → IsBelow v.z z → Rises u v z → ⊥
not_high u v z h k = not_both z v.z k.high h

-- the edge with this number passes z downward, or upward
abbrev FallsAt : Facet → ℤ → ℕ → Type 0
FallsAt t z e = Rises (finish t e) (start t e) z

abbrev RisesAt : Facet → ℤ → ℕ → Type 0
RisesAt t z e = Rises (start t e) (finish t e) z

-- the one of three edges of which P holds
module _ (P : ℕ → Type 0) where
  only_0 : (P 1 → ⊥) → (P 2 → ⊥) → (e : ℕ) → e < 3 → P e → e ≡ 0
  only_0 m n zero l h = refl
  only_0 m n (suc zero) l h = absurd (m h)
  only_0 m n (suc (suc zero)) l h = absurd (n h)
  only_0 m n (suc (suc (suc e))) l h = absurd (omega arith)

  only_1 : (P 0 → ⊥) → (P 2 → ⊥) → (e : ℕ) → e < 3 → P e → e ≡ 1
  only_1 m n zero l h = absurd (m h)
  only_1 m n (suc zero) l h = refl
  only_1 m n (suc (suc zero)) l h = absurd (n h)
  only_1 m n (suc (suc (suc e))) l h = absurd (omega arith)

  only_2 : (P 0 → ⊥) → (P 1 → ⊥) → (e : ℕ) → e < 3 → P e → e ≡ 2
  only_2 m n zero l h = absurd (m h)
  only_2 m n (suc zero) l h = absurd (n h)
  only_2 m n (suc (suc zero)) l h = refl
  only_2 m n (suc (suc (suc e))) l h = absurd (omega arith)

pub cut-below-above-above : (t : Facet) (z : ℤ) → IsBelow t.a.z z → IsAbove t.b.z z → IsAbove t.c.z z → IsCut t z (record { down = 2; up = 0 })
cut-below-above-above t z a b c = record {
  down_in = omega arith;
  up_in = omega arith;
  falls = rises t.a t.c z a c;
  rises = rises t.a t.b z a b;
  one_down = only_2 (FallsAt t z) (not_low t.b t.a z b) (not_low t.c t.b z c);
  one_up = only_0 (RisesAt t z) (not_low t.b t.c z b) (not_low t.c t.a z c);
}

pub cut-above-below-above : (t : Facet) (z : ℤ) → IsAbove t.a.z z → IsBelow t.b.z z → IsAbove t.c.z z → IsCut t z (record { down = 0; up = 1 })
cut-above-below-above t z a b c = record {
  down_in = omega arith;
  up_in = omega arith;
  falls = rises t.b t.a z b a;
  rises = rises t.b t.c z b c;
  one_down = only_0 (FallsAt t z) (not_low t.c t.b z c) (not_low t.a t.c z a);
  one_up = only_1 (RisesAt t z) (not_low t.a t.b z a) (not_low t.c t.a z c);
}

pub cut-below-below-above : (t : Facet) (z : ℤ) → IsBelow t.a.z z → IsBelow t.b.z z → IsAbove t.c.z z → IsCut t z (record { down = 2; up = 1 })
cut-below-below-above t z a b c = record {
  down_in = omega arith;
  up_in = omega arith;
  falls = rises t.a t.c z a c;
  rises = rises t.b t.c z b c;
  one_down = only_2 (FallsAt t z) (not_high t.b t.a z a) (not_low t.c t.b z c);
  one_up = only_1 (RisesAt t z) (not_high t.a t.b z b) (not_low t.c t.a z c);
}

pub cut-above-above-below : (t : Facet) (z : ℤ) → IsAbove t.a.z z → IsAbove t.b.z z → IsBelow t.c.z z → IsCut t z (record { down = 1; up = 2 })
cut-above-above-below t z a b c = record {
  down_in = omega arith;
  up_in = omega arith;
  falls = rises t.c t.b z c b;
  rises = rises t.c t.a z c a;
  one_down = only_1 (FallsAt t z) (not_low t.b t.a z b) (not_low t.a t.c z a);
  one_up = only_2 (RisesAt t z) (not_low t.a t.b z a) (not_low t.b t.c z b);
}

pub cut-below-above-below : (t : Facet) (z : ℤ) → IsBelow t.a.z z → IsAbove t.b.z z → IsBelow t.c.z z → IsCut t z (record { down = 1; up = 0 })
cut-below-above-below t z a b c = record {
  down_in = omega arith;
  up_in = omega arith;
  falls = rises t.c t.b z c b;
  rises = rises t.a t.b z a b;
  one_down = only_1 (FallsAt t z) (not_low t.b t.a z b) (not_high t.a t.c z c);
  one_up = only_0 (RisesAt t z) (not_low t.b t.c z b) (not_high t.c t.a z a);
}

pub cut-above-below-below : (t : Facet) (z : ℤ) → IsAbove t.a.z z → IsBelow t.b.z z → IsBelow t.c.z z → IsCut t z (record { down = 0; up = 2 })
cut-above-below-below t z a b c = record {
  down_in = omega arith;
  up_in = omega arith;
  falls = rises t.b t.a z b a;
  rises = rises t.c t.a z c a;
  one_down = only_0 (FallsAt t z) (not_high t.c t.b z b) (not_low t.a t.c z a);
  one_up = only_2 (RisesAt t z) (not_low t.a t.b z a) (not_high t.b t.c z c);
}

pub cut-below-below-below : (t : Facet) (z : ℤ) → IsBelow t.a.z z → IsBelow t.b.z z → IsBelow t.c.z z → IsBetween t z → ⊥
cut-below-below-below t z a b c h = by h.some_above
  where
    by : IsAbove t.a.z z ⊎ IsAbove t.b.z z ⊎ IsAbove t.c.z z → ⊥
    by (inl k) = not_both z t.a.z k a
    by (inr (inl k)) = not_both z t.b.z k b
    by (inr (inr k)) = not_both z t.c.z k c

pub cut-above-above-above : (t : Facet) (z : ℤ) → IsAbove t.a.z z → IsAbove t.b.z z → IsAbove t.c.z z → IsBetween t z → ⊥
cut-above-above-above t z a b c h = by h.some_below
  where
    by : IsBelow t.a.z z ⊎ IsBelow t.b.z z ⊎ IsBelow t.c.z z → ⊥
    by (inl k) = not_both z t.a.z a k
    by (inr (inl k)) = not_both z t.b.z b k
    by (inr (inr k)) = not_both z t.c.z c k

-- the same eight, by the results of the tie rule for the corners
pub not_cut : (a b c : Bool) (t : Facet) (z : ℤ) → beq a b ≡ true → beq b c ≡ true
    → IsSide a t.a.z z → IsSide b t.b.z z → IsSide c t.c.z z → IsBetween t z → ⊥
not_cut true true true t z e g = cut-below-below-below t z
not_cut true true false t z e g = absurd (cc)
not_cut true false c t z e g = absurd (cc)
not_cut false true c t z e g = absurd (cc)
not_cut false false true t z e g = absurd (cc)
not_cut false false false t z e g = cut-above-above-above t z

pub cut_by : (a b c : Bool) (t : Facet) (z : ℤ) → (beq a b ≡ true → beq b c ≡ true → ⊥)
    → IsSide a t.a.z z → IsSide b t.b.z z → IsSide c t.c.z z
    → IsCut t z (record { down = bool_byte (not b && c) + 2 * bool_byte (not c && a); up = bool_byte (b && not c) + 2 * bool_byte (c && not a) })
cut_by true true true t z none = absurd (none refl refl)
cut_by true true false t z none = cut-below-below-above t z
cut_by true false true t z none = cut-below-above-below t z
cut_by true false false t z none = cut-below-above-above t z
cut_by false true true t z none = cut-above-below-below t z
cut_by false true false t z none = cut-above-below-above t z
cut_by false false true t z none = cut-above-above-below t z
cut_by false false false t z none = absurd (none refl refl)
