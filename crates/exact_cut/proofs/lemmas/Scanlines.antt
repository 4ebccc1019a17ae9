-- The rows of a lattice: their centres are in range, and which of them are before a cut point.
use Rattle.std.proofs.Common.{◌≡◌, ℕ, ◌<◌, ◌≤◌, [], ◌∷◌, ℤ, pos, ◌+ℤ◌, ◌*ℤ◌, ◌≤ℤ◌, ◌<ℤ◌, refl, subst, arith}
use Rattle.std.proofs.lemmas.Int.{ints}
use lib.IntN.{*ℤ_comm}
use Rattle.exact_int.specs.Bounds.{IsAtMost}
use Rattle.exact_int.proofs.lemmas.Identity.{reads, identity}
use Rattle.exact_int.proofs.lemmas.Signs.{mul_le_left, mul_not_negative, le_trans}
use Rattle.exact_cut.specs.Column.{centre_x, IsLeastColumn}
use Rattle.geometry.specs.declared.limits.TheConstants.{CENTRE_LIMIT}

step_positive : (step : ℕ) → pos 0 ≤ℤ (pos 2 *ℤ pos step)
step_positive step = omega (arith, ints)

pub scanline_in : (y : ℤ) (step rows row : ℕ) → IsAtMost CENTRE_LIMIT y → (y +ℤ pos 2 *ℤ pos step *ℤ pos rows) ≤ℤ (pos CENTRE_LIMIT +ℤ pos 2 *ℤ pos step) → row < rows → IsAtMost CENTRE_LIMIT (centre_x y step row)
scanline_in y step rows row b l h =
    by y (pos 2 *ℤ pos step) (pos 2 *ℤ pos step *ℤ pos row) (pos 2 *ℤ pos step *ℤ pos rows) b l
    (mul_not_negative (pos 2 *ℤ pos step) (pos row) (step_positive step) (omega (arith, ints)))
    (subst (λ p. p ≤ℤ (pos 2 *ℤ pos step *ℤ pos rows)) (one_more (pos 2 *ℤ pos step) (pos row))
    (mul_le_left (pos 2 *ℤ pos step) (pos row +ℤ pos 1) (pos rows) (step_positive step) (omega (arith, ints))))
  where
    one_more : (a r : ℤ) → a *ℤ (r +ℤ pos 1) ≡ a *ℤ r +ℤ a
    one_more a r = identity (a ∷ r ∷ []) (search reads depth 40) refl

    by : (y a p q : ℤ) → IsAtMost CENTRE_LIMIT y → (y +ℤ q) ≤ℤ (pos CENTRE_LIMIT +ℤ a) → pos 0 ≤ℤ p → (p +ℤ a) ≤ℤ q → IsAtMost CENTRE_LIMIT (y +ℤ p)
    by y a p q b l h k = record { at_most = omega (arith, ints, b.at_most) }

-- a centre is not before one with a lower number
centre-mono : (first : ℤ) (step i j : ℕ) → i ≤ j → centre_x first step i ≤ℤ centre_x first step j
centre-mono first step i j h = by first _ _ (mul_le_left (pos 2 *ℤ pos step) (pos i) (pos j) (step_positive step) (omega (arith, ints)))
  where
    by : (f a b : ℤ) → a ≤ℤ b → (f +ℤ a) ≤ℤ (f +ℤ b)
    by f a b h = omega (arith, ints)

-- from the least row or column on, no centre is before num / den
pub not_before : (num den first : ℤ) (step count i j : ℕ) → pos 0 <ℤ den → IsLeastColumn num den first step count i → i ≤ j → j < count → num ≤ℤ (centre_x first step j *ℤ den)
not_before num den first step count i j p h l b =
    le_trans num (centre_x first step i *ℤ den) (centre_x first step j *ℤ den) (h.not_left (omega arith))
    (subst (λ x. x ≤ℤ (centre_x first step j *ℤ den)) (*ℤ_comm den (centre_x first step i))
    (subst (λ x. (den *ℤ centre_x first step i) ≤ℤ x) (*ℤ_comm den (centre_x first step j)) (mul_le_left den (centre_x first step i) (centre_x first step j) (omega (arith, ints)) (centre-mono first step i j l))))
