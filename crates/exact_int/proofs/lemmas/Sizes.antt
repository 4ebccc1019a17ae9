-- Bounds on the magnitudes of computed numbers, by `search sizes`: they show that a result fits its type.
use Rattle.std.proofs.Common.{◌≡◌, ℕ, ◌+◌, ◌*◌, ◌^◌, ◌≤◌, ◌<◌, Bool, true, false, not, suc, ◌-◌, ltb, T, ℤ, pos, negsuc, ◌+ℤ◌, ◌*ℤ◌, neg_ℤ, unsigned_abs, FitsSigned, refl, sym, subst, arith}
use Rattle.std.proofs.lemmas.Int.{ints, unsigned_abs-mul, fits_signed_from_abs}
use Rattle.std.proofs.Math.Nat.{mul-le-mul}
use mir.Syntax.{Width, w8, w16, w32, w64, w128}
use mir.Val.{hbits, bits, sel, to_z, of_z}
use lib.Dec.{ltb→lt, nltb→le, lit≤}
use Rattle.exact_int.specs.Bounds.{IsAtMost}

-- a bound on the magnitude of z, found from how z is computed
pub record Size (z : ℤ) : Type 0 where
  pub bound : ℕ
  pub ok : unsigned_abs z ≤ bound

abbrev pub size_known : {m : ℕ} {z : ℤ} → IsAtMost m z → Size z
size_known {m} {z} h = record { bound = m; ok = h.at_most }

abbrev pub size_pos : (n : ℕ) → Size (pos n)
size_pos n = record { bound = n; ok = omega arith }

pub sum_of : (a b : ℤ) (m n : ℕ) → unsigned_abs a ≤ m → unsigned_abs b ≤ n → unsigned_abs (a +ℤ b) ≤ m + n
sum_of a b m n h k = omega (arith, ints)

pub neg_of : (a : ℤ) (m : ℕ) → unsigned_abs a ≤ m → unsigned_abs (neg_ℤ a) ≤ m
neg_of a m h = omega (arith, ints)

pub mul_of : (a b : ℤ) (m n : ℕ) → unsigned_abs a ≤ m → unsigned_abs b ≤ n → unsigned_abs (a *ℤ b) ≤ m * n
mul_of a b m n h k = omega (arith, unsigned_abs-mul a b, mul-le-mul h k)

abbrev pub size_add : {a b : ℤ} → Size a → Size b → Size (a +ℤ b)
size_add {a} {b} p q = record { bound = p.bound + q.bound; ok = sum_of a b p.bound q.bound p.ok q.ok }

abbrev pub size_mul : {a b : ℤ} → Size a → Size b → Size (a *ℤ b)
size_mul {a} {b} p q = record { bound = p.bound * q.bound; ok = mul_of a b p.bound q.bound p.ok q.ok }

abbrev pub size_neg : {a : ℤ} → Size a → Size (neg_ℤ a)
size_neg {a} p = record { bound = p.bound; ok = neg_of a p.bound p.ok }

pub within : (a b c : ℕ) → a ≤ b → b ≤ c → a ≤ c
within a b c h k = omega arith

-- z fits the width; a call is `fits w (search sizes) refl`. The test is on the right of its equation: `refl` takes its
-- term from the left, so this is the short `true`, and not the test written out
pub fits : (w : Width) {z : ℤ} (s : Size z) → true ≡ ltb s.bound (2 ^ hbits w) → FitsSigned w z
fits w {z} s e = fits_signed_from_abs w z (below (unsigned_abs z) s.bound (2 ^ hbits w) s.ok (ltb→lt s.bound (2 ^ hbits w) (subst T e tt)))
  where
    below : (a b c : ℕ) → a ≤ b → b < c → a < c
    below a b c h k = omega arith

-- storing a number in the bits of a width and reading it back never raises its magnitude, whether it fits or not
halves : (w : Width) → (2 ^ bits w ≡ 2 ^ hbits w + 2 ^ hbits w) × (0 < 2 ^ hbits w)
halves w8 = (refl, lit≤ tt)
halves w16 = (refl, lit≤ tt)
halves w32 = (refl, lit≤ tt)
halves w64 = (refl, lit≤ tt)
halves w128 = (refl, lit≤ tt)

back_pos : (H B n : ℕ) → B ≡ H + H → 0 < H → (t : Bool) → ltb n H ≡ t → unsigned_abs (sel t (pos n) (negsuc (B - suc n))) ≤ n
back_pos H B n e h true d = omega arith
back_pos H B n e h false d = let p : H ≤ n = nltb→le n H (subst (λ (t : Bool). T (not t)) (sym d) tt) in omega arith

back_neg : (H B n : ℕ) → B ≡ H + H → 0 < H → (t : Bool) → ltb (B - suc n) H ≡ t → unsigned_abs (sel t (pos (B - suc n)) (negsuc (B - suc (B - suc n)))) ≤ suc n
back_neg H B n e h true d = let p : B - suc n < H = ltb→lt (B - suc n) H (subst T (sym d) tt) in omega arith
back_neg H B n e h false d = let p : H ≤ B - suc n = nltb→le (B - suc n) H (subst (λ (t : Bool). T (not t)) (sym d) tt) in omega arith

pub back_of : (w : Width) (z : ℤ) → unsigned_abs (to_z w (of_z w z)) ≤ unsigned_abs z
back_of w (pos n) = back_pos (2 ^ hbits w) (2 ^ bits w) n (halves w).0 (halves w).1 (ltb n (2 ^ hbits w)) refl
back_of w (negsuc n) = back_neg (2 ^ hbits w) (2 ^ bits w) n (halves w).0 (halves w).1 (ltb (2 ^ bits w - suc n) (2 ^ hbits w)) refl

abbrev pub size_back : (w : Width) (z : ℤ) → Size z → Size (to_z w (of_z w z))
size_back w z s = record { bound = s.bound; ok = within (unsigned_abs (to_z w (of_z w z))) (unsigned_abs z) s.bound (back_of w z) s.ok }

-- a cast of an unsigned number
cast_of : (w : Width) (n : ℕ) → unsigned_abs (to_z w n) ≤ n
cast_of w n = back_pos (2 ^ hbits w) (2 ^ bits w) n (halves w).0 (halves w).1 (ltb n (2 ^ hbits w)) refl

pub cast_in : (w : Width) (n m : ℕ) → n ≤ m → IsAtMost m (to_z w n)
cast_in w n m h = record { at_most = within (unsigned_abs (to_z w n)) n m (cast_of w n) h }

pub ruleset sizes = (size_add, size_mul, size_neg, size_pos, size_back, size_known)

pub is_at_most : (m : ℕ) {z : ℤ} (s : Size z) → true ≡ ltb s.bound (m + 1) → IsAtMost m z
is_at_most m {z} s e = record { at_most = below (unsigned_abs z) s.bound m s.ok (ltb→lt s.bound (m + 1) (subst T e tt)) }
  where
    below : (a b c : ℕ) → a ≤ b → b < c + 1 → a ≤ c
    below a b c h k = omega arith

-- equal numbers have the same bounds
pub at_most_by : {m : ℕ} {a : ℤ} (b : ℤ) → a ≡ b → IsAtMost m b → IsAtMost m a
at_most_by {m} b e h = subst (IsAtMost m) (sym e) h
