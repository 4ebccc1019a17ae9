-- A number over a unit, rounded up: the remainder is at least 0 and less than a unit.
use Rattle.std.proofs.Common.{◌≡◌, ◌⊎◌, inl, inr, ℕ, ◌+◌, ◌*◌, ◌≤◌, [], ◌∷◌, ℤ, pos, ◌+ℤ◌, ◌-ℤ◌, ◌*ℤ◌, ◌≤ℤ◌, ◌<ℤ◌, unsigned_abs, FitsSigned, refl, ◌∙◌, ap, arith}
use Rattle.std.proofs.lemmas.Int.{ints, unsigned_abs-mul}
use Rattle.std.proofs.Math.Nat.{mul-le-mul}
use mir.Syntax.{w64, w128}
use Rattle.exact_int.specs.Bounds.{IsAtMost}
use Rattle.exact_int.proofs.lemmas.Identity.{reads, identity}
use Rattle.exact_int.proofs.lemmas.Signs.{at_most_or_above, difference_from_le}
use Rattle.exact_int.specs.Division.{IsCeilDiv}
use Rattle.exact_cut.specs.Bounds.{increment_limit, unit_limit}
use Rattle.exact_cut.specs.Dda.{IsDivisionOf, IsDda}
use Rattle.exact_cut.specs.declared.dda.Division.{Division}
use Rattle.exact_cut.specs.declared.dda.Dda.{Dda}

-- a factor is within a bound of the product, if the other one is above 0
pub factor_in : {s : ℕ} (w u : ℤ) → pos 0 <ℤ u → unsigned_abs (w *ℤ u) ≤ s → unsigned_abs w ≤ s
factor_in {s} w u p h = by (unsigned_abs w) (unsigned_abs u) (unsigned_abs (w *ℤ u)) s (one u p) (unsigned_abs-mul w u) h
  where
    one : (u : ℤ) → pos 0 <ℤ u → 1 ≤ unsigned_abs u
    one u h = omega (arith, ints)

    by : (w u p s : ℕ) → 1 ≤ u → p ≡ w * u → p ≤ s → w ≤ s
    by w u p s h e k = omega (arith, mul-le-mul {n₁ = w} {m₁ = 1} {n₂ = w} {m₂ = u} (omega arith) h)

-- w is the ceiling of n / u
module _ (n u w : ℤ) (h : IsCeilDiv w n u) where
  self : w ≤ℤ w
  self = omega (arith, ints)

  pub remainder_not_negative : pos 0 ≤ℤ (w *ℤ u -ℤ n)
  remainder_not_negative = difference_from_le n (w *ℤ u) ((h w).0 self)

  pub remainder_below : (w *ℤ u -ℤ n) <ℤ u
  remainder_below = by (at_most_or_above n ((w -ℤ pos 1) *ℤ u))
    where
      no : (w : ℤ) → w ≤ℤ (w -ℤ pos 1) → ⊥
      no w h = omega (arith, ints)

      below : (n u a b : ℤ) → b <ℤ n → a ≡ b +ℤ u → (a -ℤ n) <ℤ u
      below n u a b h e = omega (arith, ints)

      by : (n ≤ℤ ((w -ℤ pos 1) *ℤ u)) ⊎ (((w -ℤ pos 1) *ℤ u) <ℤ n) → (w *ℤ u -ℤ n) <ℤ u
      by (inl k) = absurd (no w ((h (w -ℤ pos 1)).1 k))
      by (inr k) = below n u (w *ℤ u) ((w -ℤ pos 1) *ℤ u) k (identity (w ∷ u ∷ []) (search reads depth 40) refl)

  pub product_in : unsigned_abs (w *ℤ u) ≤ unsigned_abs n + unsigned_abs u
  product_in = by n u (w *ℤ u) remainder_not_negative remainder_below
    where
      by : (n u a : ℤ) → pos 0 ≤ℤ (a -ℤ n) → (a -ℤ n) <ℤ u → unsigned_abs a ≤ unsigned_abs n + unsigned_abs u
      by n u a h k = omega (arith, ints)

  pub quotient_in : pos 0 <ℤ u → unsigned_abs w ≤ unsigned_abs n + unsigned_abs u
  quotient_in p = factor_in w u p product_in

  pub product_at_most : {a b : ℕ} → IsAtMost a n → IsAtMost b u → IsAtMost (a + b) (w *ℤ u)
  product_at_most h k = record { at_most = omega (arith, product_in, h.at_most, k.at_most) }

  pub quotient_at_most : {a b : ℕ} → pos 0 <ℤ u → IsAtMost a n → IsAtMost b u → IsAtMost (a + b) w
  quotient_at_most p h k = record { at_most = omega (arith, quotient_in p, h.at_most, k.at_most) }

  pub division_of : IsDivisionOf n u (record { quotient = w; remainder = w *ℤ u -ℤ n })
  division_of = record {
    value = identity (n ∷ u ∷ w ∷ []) (search reads depth 40) refl;
    not_negative = remainder_not_negative;
    below = remainder_below;
  }

-- ---- a division by a guess g, whose product p exceeds n by e
pub division_at : (n u g p e : ℤ) → p ≡ g *ℤ u → e ≡ p -ℤ n → pos 0 ≤ℤ e → e <ℤ u → IsDivisionOf n u (record { quotient = g; remainder = e })
division_at n u g p e h k a b = record { value = given n p e k ∙ ap (λ x. x -ℤ e) h; not_negative = a; below = b }
  where
    given : (n p e : ℤ) → e ≡ p -ℤ n → n ≡ p -ℤ e
    given n p e k = omega (arith, ints)

pub division_above : (n u g p e : ℤ) → p ≡ g *ℤ u → e ≡ p -ℤ n → e <ℤ pos 0 → (pos 0 -ℤ u) <ℤ e → IsDivisionOf n u (record { quotient = g +ℤ pos 1; remainder = e +ℤ u })
division_above n u g p e h k a b = record { value = given n p e u k ∙ ap (λ x. (x +ℤ u) -ℤ (e +ℤ u)) h ∙ ap (λ x. x -ℤ (e +ℤ u)) (once_more g u); not_negative = positive e u b; below = less e u a }
  where
    given : (n p e u : ℤ) → e ≡ p -ℤ n → n ≡ (p +ℤ u) -ℤ (e +ℤ u)
    given n p e u k = omega (arith, ints)

    once_more : (g u : ℤ) → g *ℤ u +ℤ u ≡ (g +ℤ pos 1) *ℤ u
    once_more g u = identity (g ∷ u ∷ []) (search reads depth 40) refl

    positive : (e u : ℤ) → (pos 0 -ℤ u) <ℤ e → pos 0 ≤ℤ (e +ℤ u)
    positive e u b = omega (arith, ints)

    less : (e u : ℤ) → e <ℤ pos 0 → (e +ℤ u) <ℤ u
    less e u a = omega (arith, ints)

pub opposite_fits : (u : ℤ) → pos 0 <ℤ u → FitsSigned w64 u → FitsSigned w64 (pos 0 -ℤ u)
opposite_fits u h f = omega (arith, ints, f)

pub next_remainder_fits : (e u : ℤ) → FitsSigned w64 u → e <ℤ pos 0 → (pos 0 -ℤ u) <ℤ e → FitsSigned w64 (e +ℤ u)
next_remainder_fits e u f a b = omega (arith, ints, f)

pub one_more : (g : ℤ) → FitsSigned w64 g → FitsSigned w128 (g +ℤ pos 1)
one_more g f = omega (arith, ints, f)

-- ---- the DDA of two numbers over one unit
abbrev dda_of : ℤ → Division → Division → Dda
dda_of u p q = record { unit = u; whole = p.quotient; remainder = p.remainder; increment = q.quotient; increment_remainder = q.remainder }

pub IsDda-of : (n u : ℤ) (p q : Division) → IsDivisionOf n u p → pos 0 ≤ℤ q.remainder → q.remainder <ℤ u → IsAtMost unit_limit u → IsAtMost increment_limit q.quotient → IsDda (dda_of u p q)
IsDda-of n u p q a b e c d = record {
  unit_in = c;
  increment_in = d;
  not_negative = a.not_negative;
  below = a.below;
  increment_not_negative = b;
  increment_below = e;
}

pub quotient_within : {a b : ℕ} (m : ℕ) (n u w : ℤ) → unsigned_abs w ≤ unsigned_abs n + unsigned_abs u → IsAtMost a n → IsAtMost b u → a + b ≤ m → IsAtMost m w
quotient_within {a} {b} m n u w h k l s = record { at_most = by (unsigned_abs w) (unsigned_abs n) (unsigned_abs u) a b m h k.at_most l.at_most s }
  where
    by : (w n u a b m : ℕ) → w ≤ n + u → n ≤ a → u ≤ b → a + b ≤ m → w ≤ m
    by w n u a b m h k l s = omega arith
