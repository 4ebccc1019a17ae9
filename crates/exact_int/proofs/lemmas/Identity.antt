-- Polynomial identities of integers. `search reads` reads both sides as polynomials in given variables, and `refl` shows that
-- these are equal. A number that the code stores in the bits of a width and reads back counts as the number itself, if a bound
-- shows that it fits. So list `sizes` and the bounds of the variables too.
use Rattle.std.proofs.Common.{◌≡◌, ℕ, suc, ◌^◌, ltb, List, ◌∷◌, ℤ, pos, negsuc, ◌+ℤ◌, ◌*ℤ◌, neg_ℤ, Bool, true, false, refl, sym, ◌∙◌, ap}
use Rattle.std.proofs.lemmas.Int.{to_z-of_z}
use mir.Syntax.{Width}
use mir.Val.{hbits, to_z, of_z}
use Rattle.exact_int.proofs.lemmas.Sizes.{Size, fits}
use Rattle.exact_int.proofs.lemmas.Ring.{Ex, var, con, ◌⊕◌, ◌⊖◌, ◌⊗◌, opp, at, value, Poly, norm, none, term, left_over, ring}

-- z is the n-th variable
pub record Place (ρ : List ℤ) (z : ℤ) : Type 0 where
  pub number : ℕ
  pub is : at ρ number ≡ z

-- z is the value of `ex`, if each number that is stored in bits fits its width
pub record Read (ρ : List ℤ) (z : ℤ) : Type 0 where
  pub ex : Ex
  pub all_fit : Bool
  pub is : all_fit ≡ true → value ρ ex ≡ z

abbrev both : Bool → Bool → Bool
both true b = b
both false b = false

both-left : (a b : Bool) → both a b ≡ true → a ≡ true
both-left true b e = refl
both-left false b e = e

both-right : (a b : Bool) → both a b ≡ true → b ≡ true
both-right true b e = e
both-right false b e = cc

abbrev pub here : {ρ : List ℤ} {z : ℤ} → Place (z ∷ ρ) z
here = record { number = 0; is = refl }

abbrev pub there : {ρ : List ℤ} {y z : ℤ} → Place ρ z → Place (y ∷ ρ) z
there p = record { number = suc p.number; is = p.is }

abbrev pub read_var : {ρ : List ℤ} {z : ℤ} → Place ρ z → Read ρ z
read_var p = record { ex = var p.number; all_fit = true; is = λ _. p.is }

abbrev pub read_pos : {ρ : List ℤ} (n : ℕ) → Read ρ (pos n)
read_pos n = record { ex = con (pos n); all_fit = true; is = λ _. refl }

abbrev pub read_negsuc : {ρ : List ℤ} (n : ℕ) → Read ρ (negsuc n)
read_negsuc n = record { ex = con (negsuc n); all_fit = true; is = λ _. refl }

module _ {ρ : List ℤ} {a b : ℤ} (p : Read ρ a) (q : Read ρ b) where
  pub add-is : both p.all_fit q.all_fit ≡ true → value ρ (p.ex ⊕ q.ex) ≡ a +ℤ b
  add-is e = ap (λ z. z +ℤ value ρ q.ex) (p.is (both-left p.all_fit q.all_fit e)) ∙ ap (λ z. a +ℤ z) (q.is (both-right p.all_fit q.all_fit e))

  pub mul-is : both p.all_fit q.all_fit ≡ true → value ρ (p.ex ⊗ q.ex) ≡ a *ℤ b
  mul-is e = ap (λ z. z *ℤ value ρ q.ex) (p.is (both-left p.all_fit q.all_fit e)) ∙ ap (λ z. a *ℤ z) (q.is (both-right p.all_fit q.all_fit e))

  abbrev pub read_add : Read ρ (a +ℤ b)
  read_add = record { ex = p.ex ⊕ q.ex; all_fit = both p.all_fit q.all_fit; is = add-is }

  abbrev pub read_mul : Read ρ (a *ℤ b)
  read_mul = record { ex = p.ex ⊗ q.ex; all_fit = both p.all_fit q.all_fit; is = mul-is }

abbrev pub read_neg : {ρ : List ℤ} {a : ℤ} → Read ρ a → Read ρ (neg_ℤ a)
read_neg {ρ} {a} p = record { ex = opp p.ex; all_fit = p.all_fit; is = λ e. ap neg_ℤ (p.is e) }

module _ {ρ : List ℤ} (w : Width) (z : ℤ) (p : Read ρ z) (s : Size z) where
  pub back-is : both p.all_fit (ltb s.bound (2 ^ hbits w)) ≡ true → value ρ p.ex ≡ to_z w (of_z w z)
  back-is e = p.is (both-left p.all_fit (ltb s.bound (2 ^ hbits w)) e) ∙ sym (to_z-of_z w z (fits w s (sym (both-right p.all_fit (ltb s.bound (2 ^ hbits w)) e))))

  abbrev pub read_back : Read ρ (to_z w (of_z w z))
  read_back = record { ex = p.ex; all_fit = both p.all_fit (ltb s.bound (2 ^ hbits w)); is = back-is }

-- both sides of an identity
pub record Sides (ρ : List ℤ) (a b : ℤ) : Type 0 where
  pub left : Read ρ a
  pub right : Read ρ b

abbrev pub read_sides : {ρ : List ℤ} {a b : ℤ} → Read ρ a → Read ρ b → Sides ρ a b
read_sides p q = record { left = p; right = q }

pub ruleset reads = (read_sides, read_add, read_mul, read_neg, read_back, read_pos, read_negsuc, read_var, here, there)

-- the verdict on an identity: it holds, the two sides differ by these terms, or a number may not fit the width that it is
-- stored in
pub data Verdict : Type 0 where
  holds : Verdict
  differs : Poly → Verdict
  may_not_fit : Verdict

abbrev by_terms : Poly → Verdict
by_terms none = holds
by_terms (term c m p) = differs (term c m p)

abbrev verdict_of : Bool → Poly → Verdict
verdict_of true p = by_terms p
verdict_of false p = may_not_fit

abbrev verdict : {ρ : List ℤ} {a b : ℤ} → Sides ρ a b → Verdict
verdict s = verdict_of (both s.left.all_fit s.right.all_fit) (left_over (norm (s.left.ex ⊖ s.right.ex)))

no_terms : (p : Poly) → by_terms p ≡ holds → p ≡ none
no_terms none e = refl
no_terms (term c m p) e = cc

all_hold : (b : Bool) (p : Poly) → verdict_of b p ≡ holds → (b ≡ true) × (p ≡ none)
all_hold true p e = (refl, no_terms p e)
all_hold false p e = cc

-- `a ≡ b` in the variables ρ; a call is `identity (x ∷ y ∷ []) (search reads depth 40 fits 5000) refl`. The verdict is
-- on the right of its equation: `refl` takes its term from the left, so this is the short `holds`, and not the verdict
-- written out
pub identity : (ρ : List ℤ) {a b : ℤ} → (s : Sides ρ a b) → holds ≡ verdict s → a ≡ b
identity ρ s e =
    let h = all_hold (both s.left.all_fit s.right.all_fit) (left_over (norm (s.left.ex ⊖ s.right.ex))) (sym e) in
    sym (s.left.is (both-left s.left.all_fit s.right.all_fit h.0)) ∙ ring ρ s.left.ex s.right.ex h.1 ∙ s.right.is (both-right s.left.all_fit s.right.all_fit h.0)
