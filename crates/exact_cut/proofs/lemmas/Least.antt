-- The first column that is not left of a crossing, by one division that rounds up.
use Rattle.std.proofs.Common.{◌≡◌, ℕ, ◌≤◌, Bool, true, false, nat_lt, if◌then◌else◌, negsuc, ◌<◌, ◌↔◌, ◌⊎◌, inl, inr, [], ◌∷◌, ℤ, pos, ◌+ℤ◌, ◌-ℤ◌, ◌*ℤ◌, ◌≤ℤ◌, ◌<ℤ◌, refl, sym, subst, arith}
use Rattle.std.proofs.lemmas.Int.{ints}
use Rattle.exact_int.proofs.lemmas.Identity.{reads, identity}
use Rattle.exact_int.proofs.lemmas.Signs.{at_most_or_above, not_both, mul_positive}
use Rattle.exact_int.specs.Division.{IsCeilDiv}
use Rattle.exact_cut.specs.Column.{IsLeastColumn, clamp}

-- i is the ceiling of (num - first * den) / (2 * step * den)
abbrev IsCeiling : ℤ → ℤ → ℤ → ℤ → ℤ → Type 0
IsCeiling i num den first step = IsCeilDiv i (num -ℤ first *ℤ den) (pos 2 *ℤ step *ℤ den)

-- centre k is not left of the crossing exactly if i is at most k
moved : (first step k den : ℤ) → (first +ℤ pos 2 *ℤ step *ℤ k) *ℤ den ≡ first *ℤ den +ℤ k *ℤ (pos 2 *ℤ step *ℤ den)
moved first step k den = identity (first ∷ step ∷ k ∷ den ∷ []) (search reads depth 40) refl

le_moved : (num a b c : ℤ) → c ≡ a +ℤ b → (num -ℤ a) ≤ℤ b → num ≤ℤ c
le_moved num a b c e h = omega (arith, ints)

le_back : (num a b c : ℤ) → c ≡ a +ℤ b → num ≤ℤ c → (num -ℤ a) ≤ℤ b
le_back num a b c e h = omega (arith, ints)

not_left : (i num den first step k : ℤ) → IsCeiling i num den first step → (i ≤ℤ k) ↔ (num ≤ℤ ((first +ℤ pos 2 *ℤ step *ℤ k) *ℤ den))
not_left i num den first step k h = (
  λ l. le_moved num (first *ℤ den) (k *ℤ (pos 2 *ℤ step *ℤ den)) ((first +ℤ pos 2 *ℤ step *ℤ k) *ℤ den) (moved first step k den) ((h k).0 l),
  λ l. (h k).1 (le_back num (first *ℤ den) (k *ℤ (pos 2 *ℤ step *ℤ den)) ((first +ℤ pos 2 *ℤ step *ℤ k) *ℤ den) (moved first step k den) l),
)

before : (i num den first step k : ℤ) → IsCeiling i num den first step → k <ℤ i → ((first +ℤ pos 2 *ℤ step *ℤ k) *ℤ den) <ℤ num
before i num den first step k h l = by (at_most_or_above num ((first +ℤ pos 2 *ℤ step *ℤ k) *ℤ den))
  where
    by : (num ≤ℤ ((first +ℤ pos 2 *ℤ step *ℤ k) *ℤ den)) ⊎ (((first +ℤ pos 2 *ℤ step *ℤ k) *ℤ den) <ℤ num) → ((first +ℤ pos 2 *ℤ step *ℤ k) *ℤ den) <ℤ num
    by (inl p) = absurd (not_both k i l ((not_left i num den first step k h).1 p))
    by (inr p) = p

module _ (i num den first : ℤ) (step columns : ℕ) (h : IsCeiling i num den first (pos step)) where
  pub least_first : i ≤ℤ pos 0 → IsLeastColumn num den first step columns 0
  least_first l = record {
    in_row = omega arith;
    not_left = λ _. (not_left i num den first (pos step) (pos 0) h).0 l;
    before_left = λ k b. absurd (omega arith);
  }

  pub least_none : pos columns ≤ℤ i → IsLeastColumn num den first step columns columns
  least_none l = record {
    in_row = omega arith;
    not_left = λ b. absurd (omega arith);
    before_left = λ k b. before i num den first (pos step) (pos k) h (omega (arith, ints));
  }

  pub least_at : (n : ℕ) → i ≡ pos n → n < columns → IsLeastColumn num den first step columns n
  least_at n e l = record {
    in_row = omega arith;
    not_left = λ b. (not_left i num den first (pos step) (pos n) h).0 (omega (arith, ints));
    before_left = λ k b. before i num den first (pos step) (pos k) h (omega (arith, ints));
  }

pub ceiling_by : {i g u : ℤ} (num den first step : ℤ) → IsCeilDiv i g u → g ≡ num -ℤ first *ℤ den → u ≡ pos 2 *ℤ step *ℤ den → IsCeiling i num den first step
ceiling_by {i} {g} {u} num den first step h e f =
    subst (λ x. IsCeilDiv i x (pos 2 *ℤ step *ℤ den)) e (subst (IsCeilDiv i g) f h)

pub ceiling_step : (i num den first s : ℤ) (n : ℕ) → s ≡ pos n → IsCeiling i num den first s → IsCeiling i num den first (pos n)
ceiling_step i num den first s n e h = subst (IsCeiling i num den first) e h

pub positive_by : {a : ℤ} (b : ℤ) → a ≡ b → pos 0 <ℤ b → pos 0 <ℤ a
positive_by b e h = subst (λ x. pos 0 <ℤ x) (sym e) h

pub unit_positive : (s den : ℤ) (n : ℕ) → s ≡ pos n → 0 < n → pos 0 <ℤ den → pos 0 <ℤ (pos 2 *ℤ s *ℤ den)
unit_positive s den n e p h = mul_positive (pos 2 *ℤ s) den (omega (arith, ints)) h

-- the number from 0 to `columns` that is nearest to the ceiling
pub least_clamp : (i num den first : ℤ) (step columns : ℕ) → IsCeiling i num den first (pos step) → IsLeastColumn num den first step columns (clamp i columns)
least_clamp (negsuc i) num den first step columns h = least_first (negsuc i) num den first step columns h (omega (arith, ints))
least_clamp (pos i) num den first step columns h = by (nat_lt i columns) refl
  where
    inside : nat_lt i columns ≡ true → i < columns
    inside e = grind arith

    outside : nat_lt i columns ≡ false → columns ≤ i
    outside e = grind arith

    by : (b : Bool) → nat_lt i columns ≡ b → IsLeastColumn num den first step columns (if b then i else columns)
    by true e = least_at (pos i) num den first step columns h i refl (inside e)
    by false e = let l = outside e in least_none (pos i) num den first step columns h (omega (arith, ints))
