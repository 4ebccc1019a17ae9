-- The least multiple of d that is not below n, by the quotient that rounds toward zero.
use Rattle.std.proofs.Common.{◌≡◌, ◌<◌, [], ◌∷◌, ℤ, pos, ◌+ℤ◌, ◌-ℤ◌, ◌*ℤ◌, neg_ℤ, ◌≤ℤ◌, ◌<ℤ◌, int_div, int_rem, unsigned_abs, refl, arith}
use Rattle.std.proofs.lemmas.Int.{ints, quot-rem, rem_below}
use lib.IntN.{*ℤ_comm}
use Rattle.exact_int.proofs.lemmas.Identity.{reads, identity}
use Rattle.exact_int.proofs.lemmas.Signs.{weak, next_at_most, mul_le_left, lt_of_mul_left}
use Rattle.exact_int.specs.Division.{IsCeilDiv}

above : (n s r d x y z : ℤ) → s +ℤ r ≡ n → r <ℤ d → x ≤ℤ y → y ≡ z → x ≡ s +ℤ d → n ≤ℤ z
above n s r d x y z e b l f g = omega (arith, ints)

less : (n s r x y z : ℤ) → s +ℤ r ≡ n → pos 0 <ℤ r → n ≤ℤ z → x ≡ s → y ≡ z → x <ℤ y
less n s r x y z e b l f g = omega (arith, ints)

-- by a quotient q and a remainder r, with n = q*d + r
up : (n d q r : ℤ) → pos 0 <ℤ d → q *ℤ d +ℤ r ≡ n → pos 0 <ℤ r → r <ℤ d → IsCeilDiv (q +ℤ pos 1) n d
up n d q r h e p b k = (
  λ l. above n (q *ℤ d) r d (d *ℤ (q +ℤ pos 1)) (d *ℤ k) (k *ℤ d) e b (mul_le_left d (q +ℤ pos 1) k (weak d h) l) (*ℤ_comm d k) (identity (d ∷ q ∷ []) (search reads depth 40) refl),
  λ l. next_at_most q k (lt_of_mul_left d q k (weak d h) (less n (q *ℤ d) r (d *ℤ q) (d *ℤ k) (k *ℤ d) e p l (*ℤ_comm d q) (*ℤ_comm d k))),
)

above' : (n s r x y z : ℤ) → s +ℤ r ≡ n → r ≤ℤ pos 0 → x ≤ℤ y → y ≡ z → x ≡ s → n ≤ℤ z
above' n s r x y z e b l f g = omega (arith, ints)

less' : (n s r d x y z : ℤ) → s +ℤ r ≡ n → neg_ℤ d <ℤ r → n ≤ℤ z → x ≡ s -ℤ d → y ≡ z → x <ℤ y
less' n s r d x y z e b l f g = omega (arith, ints)

prior : (x y : ℤ) → (x -ℤ pos 1) <ℤ y → x ≤ℤ y
prior x y h = omega (arith, ints)

same : (n d q r : ℤ) → pos 0 <ℤ d → q *ℤ d +ℤ r ≡ n → r ≤ℤ pos 0 → neg_ℤ d <ℤ r → IsCeilDiv q n d
same n d q r h e p b k = (
  λ l. above' n (q *ℤ d) r (d *ℤ q) (d *ℤ k) (k *ℤ d) e p (mul_le_left d q k (weak d h) l) (*ℤ_comm d k) (*ℤ_comm d q),
  λ l. prior q k (lt_of_mul_left d (q -ℤ pos 1) k (weak d h) (less' n (q *ℤ d) r d (d *ℤ (q -ℤ pos 1)) (d *ℤ k) (k *ℤ d) e b l (identity (d ∷ q ∷ []) (search reads depth 40) refl) (*ℤ_comm d k))),
)

rem_between : (r d : ℤ) → unsigned_abs r < unsigned_abs d → pos 0 <ℤ d → (r <ℤ d) × (neg_ℤ d <ℤ r)
rem_between r d h p = (omega (arith, ints), omega (arith, ints))

abs_positive : (d : ℤ) → pos 0 <ℤ d → 0 < unsigned_abs d
abs_positive d h = omega (arith, ints)

pub ceiling-up : (n d : ℤ) → pos 0 <ℤ d → pos 0 <ℤ int_rem n d → IsCeilDiv (int_div n d +ℤ pos 1) n d
ceiling-up n d h p = up n d (int_div n d) (int_rem n d) h (quot-rem n d) p (rem_between (int_rem n d) d (rem_below n d (abs_positive d h)) h).0

pub ceiling-same : (n d : ℤ) → pos 0 <ℤ d → int_rem n d ≤ℤ pos 0 → IsCeilDiv (int_div n d) n d
ceiling-same n d h p = same n d (int_div n d) (int_rem n d) h (quot-rem n d) p (rem_between (int_rem n d) d (rem_below n d (abs_positive d h)) h).1
