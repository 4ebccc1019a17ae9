-- The least number of micrometres that is a whole number of either side of a pixel.
use Rattle.std.proofs.Common.{◌≡◌, ℕ, zero, suc, ◌+◌, ◌<◌, ◌≤◌, ◌⊎◌, inl, inr, subst, arith}
use Rattle.part_on_screen.specs.Pitch.{IsMultiple}
use Rattle.part_on_screen.specs.declared.pixel_side.PixelSide.{PixelSide}

-- so many micrometres are not a whole number of both sides
abbrev pub IsNoPitch : PixelSide → PixelSide → ℕ → Type 0
IsNoPitch width depth p = 1 ≤ p → IsMultiple p width → IsMultiple p depth → ⊥

pub below-or-not : (a b : ℕ) → (a < b) ⊎ (b ≤ a)
below-or-not zero zero = inr (omega arith)
below-or-not zero (suc b) = inl (omega arith)
below-or-not (suc a) zero = inr (omega arith)
below-or-not (suc a) (suc b) = next (below-or-not a b)
  where
    next : (a < b) ⊎ (b ≤ a) → (suc a < suc b) ⊎ (suc b ≤ suc a)
    next (inl h) = inl (omega arith)
    next (inr h) = inr (omega arith)

-- if no number below this one is a pitch, any pitch is at least this
pub least-from : (width depth : PixelSide) (p : ℕ) → ((q : ℕ) → q < p → IsNoPitch width depth q)
    → (other : ℕ) → 1 ≤ other → IsMultiple other width → IsMultiple other depth → p ≤ other
least-from width depth p none other some w d = by (below-or-not other p)
  where
    by : (other < p) ⊎ (p ≤ other) → p ≤ other
    by (inl h) = absurd (none other h some w d)
    by (inr h) = h

pub none-more : (width depth : PixelSide) (p : ℕ) → ((q : ℕ) → q < p → IsNoPitch width depth q) → IsNoPitch width depth p → (q : ℕ) → q < p + 1 → IsNoPitch width depth q
none-more width depth p none here q h = by (below-or-not q p)
  where
    by : (q < p) ⊎ (p ≤ q) → IsNoPitch width depth q
    by (inl k) = none q k
    by (inr k) = subst (IsNoPitch width depth) (same q p h k) here
      where
        same : (q p : ℕ) → q < p + 1 → p ≤ q → p ≡ q
        same q p h k = omega (arith, h, k)
