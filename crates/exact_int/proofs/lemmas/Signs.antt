-- Signs of products over ℤ. `≤ℤ` and `<ℤ` bind tighter than `*ℤ`, so a product beside them is in parentheses.
use Rattle.std.proofs.Common.{◌≡◌, zero, suc, ◌<◌, ◌⊎◌, [], ◌∷◌, ℤ, pos, negsuc, ◌+ℤ◌, ◌-ℤ◌, ◌*ℤ◌, neg_ℤ, ◌≤ℤ◌, ◌<ℤ◌, refl, sym, ◌∙◌, ap, subst, arith, inl, inr}
use Rattle.std.proofs.Math.Nat.{mul-pos}
use Rattle.std.proofs.lemmas.Int.{ints}
use Rattle.exact_int.proofs.lemmas.Identity.{reads, identity}

-- ---- the three signs
pub sign_cases : (a : ℤ) → (a <ℤ pos 0) ⊎ (a ≡ pos 0) ⊎ (pos 0 <ℤ a)
sign_cases (pos zero) = inr (inl refl)
sign_cases (pos (suc n)) = inr (inr (omega (arith, ints)))
sign_cases (negsuc n) = inl (omega (arith, ints))

pub weak : (a : ℤ) → pos 0 <ℤ a → pos 0 ≤ℤ a
weak a h = omega (arith, ints)

pub weak_below : (a : ℤ) → a <ℤ pos 0 → a ≤ℤ pos 0
weak_below a h = omega (arith, ints)

pub neg_not_negative : (a : ℤ) → a ≤ℤ pos 0 → pos 0 ≤ℤ neg_ℤ a
neg_not_negative a h = omega (arith, ints)

pub at_most_or_above : (a b : ℤ) → (a ≤ℤ b) ⊎ (b <ℤ a)
at_most_or_above a b = grind (arith, ints)

pub not_both : (a b : ℤ) → a <ℤ b → b ≤ℤ a → ⊥
not_both a b h k = omega (arith, ints)

pub at_most_from_not_above : (a b : ℤ) → (a <ℤ b → ⊥) → b ≤ℤ a
at_most_from_not_above a b h = by (at_most_or_above b a)
  where
    by : (b ≤ℤ a) ⊎ (a <ℤ b) → b ≤ℤ a
    by (inl k) = k
    by (inr k) = absurd (h k)

pub le_trans : (a b c : ℤ) → a ≤ℤ b → b ≤ℤ c → a ≤ℤ c
le_trans a b c h k = omega (arith, ints)

pub antisym : (a b : ℤ) → a ≤ℤ b → b ≤ℤ a → a ≡ b
antisym a b h k = omega (arith, ints)

pub next_at_most : (a b : ℤ) → a <ℤ b → (a +ℤ pos 1) ≤ℤ b
next_at_most a b h = omega (arith, ints)

-- ---- sums
pub add_not_negative : (a b : ℤ) → pos 0 ≤ℤ a → pos 0 ≤ℤ b → pos 0 ≤ℤ (a +ℤ b)
add_not_negative a b h k = omega (arith, ints)

pub add_positive_left : (a b : ℤ) → pos 0 <ℤ a → pos 0 ≤ℤ b → pos 0 <ℤ (a +ℤ b)
add_positive_left a b h k = omega (arith, ints)

pub add_positive_right : (a b : ℤ) → pos 0 ≤ℤ a → pos 0 <ℤ b → pos 0 <ℤ (a +ℤ b)
add_positive_right a b h k = omega (arith, ints)

-- ---- products
pub mul_positive : (a b : ℤ) → pos 0 <ℤ a → pos 0 <ℤ b → pos 0 <ℤ (a *ℤ b)
mul_positive (pos m) (pos n) h k = let p : 0 < m = omega (arith, ints) in let q : 0 < n = omega (arith, ints) in omega (arith, ints, mul-pos p q)
mul_positive (pos m) (negsuc n) h k = absurd (omega (arith, ints))
mul_positive (negsuc m) b h k = absurd (omega (arith, ints))

pub mul_not_negative : (a b : ℤ) → pos 0 ≤ℤ a → pos 0 ≤ℤ b → pos 0 ≤ℤ (a *ℤ b)
mul_not_negative (pos m) (pos n) h k = omega (arith, ints)
mul_not_negative (pos m) (negsuc n) h k = absurd (omega (arith, ints))
mul_not_negative (negsuc m) b h k = absurd (omega (arith, ints))

-- the lemmas below apply these two to differences and negations, and rewrite by an identity
pub neg_right : (a b : ℤ) → a *ℤ neg_ℤ b ≡ neg_ℤ (a *ℤ b)
neg_right a b = identity (a ∷ b ∷ []) (search reads depth 40) refl

below_zero : (a : ℤ) → pos 0 <ℤ neg_ℤ a → a <ℤ pos 0
below_zero a h = omega (arith, ints)

pub mul_negative_right : (a b : ℤ) → pos 0 <ℤ a → b <ℤ pos 0 → (a *ℤ b) <ℤ pos 0
mul_negative_right a b h k = below_zero (a *ℤ b) (subst (λ z. pos 0 <ℤ z) (neg_right a b) (mul_positive a (neg_ℤ b) h (omega (arith, ints))))

pub two_negs : (a b : ℤ) → neg_ℤ a *ℤ neg_ℤ b ≡ a *ℤ b
two_negs a b = identity (a ∷ b ∷ []) (search reads depth 40) refl

pub mul_not_positive_right : (a b : ℤ) → pos 0 ≤ℤ a → b ≤ℤ pos 0 → (a *ℤ b) ≤ℤ pos 0
mul_not_positive_right a b h k =
    let p : pos 0 ≤ℤ neg_ℤ (a *ℤ b) = subst (λ z. pos 0 ≤ℤ z) (neg_right a b) (mul_not_negative a (neg_ℤ b) h (neg_not_negative b k)) in
    turn (a *ℤ b) p
  where
    turn : (z : ℤ) → pos 0 ≤ℤ neg_ℤ z → z ≤ℤ pos 0
    turn z h = omega (arith, ints)

zero_left : (a b : ℤ) → a ≡ pos 0 → a *ℤ b ≡ pos 0
zero_left a b e = ap (λ z. z *ℤ b) e ∙ identity (b ∷ []) (search reads depth 40) refl

zero_right : (a b : ℤ) → b ≡ pos 0 → a *ℤ b ≡ pos 0
zero_right a b e = ap (λ z. a *ℤ z) e ∙ identity (a ∷ []) (search reads depth 40) refl

-- ---- the sign of a factor, from the sign of the product
pub clash : (z : ℤ) → pos 0 <ℤ z → z ≤ℤ pos 0 → ⊥
clash z h k = omega (arith, ints)

clash_zero : (z : ℤ) → pos 0 <ℤ z → z ≡ pos 0 → ⊥
clash_zero z h k = omega (arith, ints)

pub right_of_positive : (a b : ℤ) → pos 0 ≤ℤ a → pos 0 <ℤ (a *ℤ b) → pos 0 <ℤ b
right_of_positive a b h k = by (sign_cases b)
  where
    by : (b <ℤ pos 0) ⊎ (b ≡ pos 0) ⊎ (pos 0 <ℤ b) → pos 0 <ℤ b
    by (inl n) = absurd (clash (a *ℤ b) k (mul_not_positive_right a b h (weak_below b n)))
    by (inr (inl e)) = absurd (clash_zero (a *ℤ b) k (zero_right a b e))
    by (inr (inr p)) = p

-- the left factor is not 0
left_not_zero : (a b : ℤ) → pos 0 <ℤ (a *ℤ b) → a ≡ pos 0 → ⊥
left_not_zero a b k e = clash_zero (a *ℤ b) k (zero_left a b e)

pub left_positive : (a b : ℤ) → pos 0 ≤ℤ a → pos 0 <ℤ (a *ℤ b) → pos 0 <ℤ a
left_positive a b h k = by (sign_cases a)
  where
    by : (a <ℤ pos 0) ⊎ (a ≡ pos 0) ⊎ (pos 0 <ℤ a) → pos 0 <ℤ a
    by (inl n) = absurd (omega (arith, ints))
    by (inr (inl e)) = absurd (left_not_zero a b k e)
    by (inr (inr p)) = p

-- ---- a positive factor on both sides
pub lt_from_difference : (a b : ℤ) → pos 0 <ℤ (b -ℤ a) → a <ℤ b
lt_from_difference a b h = omega (arith, ints)

pub difference_from_lt : (a b : ℤ) → a <ℤ b → pos 0 <ℤ (b -ℤ a)
difference_from_lt a b h = omega (arith, ints)

pub difference_from_le : (a b : ℤ) → a ≤ℤ b → pos 0 ≤ℤ (b -ℤ a)
difference_from_le a b h = omega (arith, ints)

spread : (k a b : ℤ) → k *ℤ (b -ℤ a) ≡ k *ℤ b -ℤ k *ℤ a
spread k a b = identity (k ∷ a ∷ b ∷ []) (search reads depth 40) refl

pub lt_of_mul_left : (k a b : ℤ) → pos 0 ≤ℤ k → (k *ℤ a) <ℤ (k *ℤ b) → a <ℤ b
lt_of_mul_left k a b h l = lt_from_difference a b (right_of_positive k (b -ℤ a) h (subst (λ z. pos 0 <ℤ z) (sym (spread k a b)) (difference_from_lt (k *ℤ a) (k *ℤ b) l)))

pub mul_le_left : (k a b : ℤ) → pos 0 ≤ℤ k → a ≤ℤ b → (k *ℤ a) ≤ℤ (k *ℤ b)
mul_le_left k a b h l = by (k *ℤ a) (k *ℤ b) (subst (λ z. pos 0 ≤ℤ z) (spread k a b) (mul_not_negative k (b -ℤ a) h (difference_from_le a b l)))
  where
    by : (x y : ℤ) → pos 0 ≤ℤ (y -ℤ x) → x ≤ℤ y
    by x y h = omega (arith, ints)
