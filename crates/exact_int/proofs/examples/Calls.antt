-- How the lemmas of `proofs/lemmas` are called.
use Rattle.std.proofs.Common.{◌≡◌, ℕ, ◌≤◌, [], ◌∷◌, ℤ, pos, negsuc, ◌+ℤ◌, ◌-ℤ◌, ◌*ℤ◌, FitsSigned, refl}
use mir.Syntax.{w128, w64}
use mir.Val.{to_z, of_z}
use Rattle.exact_int.specs.Bounds.{IsAtMost}
use Rattle.exact_int.proofs.lemmas.Sizes.{sizes, fits, cast_in, is_at_most}
use Rattle.exact_int.proofs.lemmas.Identity.{reads, identity}

-- the variables, then how the two sides are read, then the check
small : (a b c : ℤ) → (a +ℤ b) *ℤ c ≡ c *ℤ b +ℤ a *ℤ c
small a b c = identity (a ∷ b ∷ c ∷ []) (search reads depth 40) refl

constants : (a b : ℤ) → (a +ℤ negsuc 0) *ℤ (a +ℤ pos 1) +ℤ pos 2 *ℤ b ≡ a *ℤ a -ℤ (pos 1 -ℤ b) +ℤ b
constants a b = identity (a ∷ b ∷ []) (search reads depth 40) refl

-- a definition that unfolds is read as its body; 12 variables need more than the 1,000 fits that a search has
abbrev det : ℤ → ℤ → ℤ → ℤ → ℤ → ℤ → ℤ → ℤ → ℤ → ℤ
det a b c d e f g h i = a *ℤ (e *ℤ i -ℤ f *ℤ h) -ℤ b *ℤ (d *ℤ i -ℤ f *ℤ g) +ℤ c *ℤ (d *ℤ h -ℤ e *ℤ g)

turned : (ax ay az bx by bz cx cy cz x y z : ℤ)
    → det (ax -ℤ x) (ay -ℤ y) (az -ℤ z) (bx -ℤ x) (by -ℤ y) (bz -ℤ z) (cx -ℤ x) (cy -ℤ y) (cz -ℤ z)
    ≡ det (bx -ℤ x) (by -ℤ y) (bz -ℤ z) (cx -ℤ x) (cy -ℤ y) (cz -ℤ z) (ax -ℤ x) (ay -ℤ y) (az -ℤ z)
turned ax ay az bx by bz cx cy cz x y z =
    identity (ax ∷ ay ∷ az ∷ bx ∷ by ∷ bz ∷ cx ∷ cy ∷ cz ∷ x ∷ y ∷ z ∷ []) (search reads depth 40 fits 5000) refl

-- fields, and calls that do not unfold, are variables too
record Pair : Type 0 where
  one : ℤ
  two : ℤ

fields : (p : Pair) (f : ℤ → ℤ) → (p.one +ℤ f p.two) *ℤ (p.one -ℤ f p.two) ≡ p.one *ℤ p.one -ℤ f p.two *ℤ f p.two
fields p f = identity (p.one ∷ f p.two ∷ []) (search reads depth 40) refl

-- a result fits its type, by bounds on the magnitudes of the numbers that it is computed from; these bounds are examples
fitting : (x y z : ℤ) → IsAtMost 1000000000 x → IsAtMost 1000000000 y → IsAtMost 2000000000 z → FitsSigned w128 ((pos 2 *ℤ x -ℤ z) *ℤ (pos 2 *ℤ y -ℤ x) *ℤ z -ℤ z *ℤ z *ℤ z *ℤ z)
fitting x y z hx hy hz = fits w128 (search sizes depth 40) refl

bounded : (x y : ℤ) → IsAtMost 10 x → IsAtMost 20 y → IsAtMost 230 (x *ℤ y +ℤ pos 3 *ℤ x)
bounded x y hx hy = is_at_most 230 (search sizes depth 40) refl

-- a goal of the code: each result is stored in the bits of its type and read back
as_in_code : (x y : ℤ) → IsAtMost 1000000000 x → IsAtMost 1000000000 y → to_z w64 (of_z w64 (pos 2 *ℤ to_z w64 (of_z w64 x))) *ℤ to_z w64 (of_z w64 y) ≡ y *ℤ x +ℤ x *ℤ y
as_in_code x y hx hy = identity (x ∷ y ∷ []) (search (reads, sizes) depth 40 fits 5000) refl

-- a cast of an unsigned number counts as one variable
cast : (x : ℤ) (n : ℕ) → IsAtMost 1000000000 x → n ≤ 1000000 → to_z w64 (of_z w64 (pos 2 *ℤ to_z w64 n)) *ℤ to_z w64 (of_z w64 x) ≡ x *ℤ (pos 2 *ℤ to_z w64 n)
cast x n hx hn =
    let h = cast_in w64 n 1000000 hn in
    identity (x ∷ to_z w64 n ∷ []) (search (reads, sizes) depth 40 fits 5000) refl
