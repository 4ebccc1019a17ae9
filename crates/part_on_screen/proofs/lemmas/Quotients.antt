-- The quotient of a number and a number of which it is a multiple.
use Rattle.std.proofs.Common.{◌≡◌, ◌∙◌, ◌≤◌, ◌⊎◌, ℕ, zero, suc, inl, inr, [], ◌∷◌, refl, ap, sym, subst, arith}
use Rattle.std.specs.Prelude.{ℤ, pos, ◌*ℤ◌, ◌+ℤ◌, ◌-ℤ◌, ◌≤ℤ◌, ◌<ℤ◌, unsigned_abs}
use Rattle.std.proofs.lemmas.Int.{ints}
use Rattle.exact_int.specs.Bounds.{IsAtMost}
use Rattle.exact_int.specs.Division.{IsCeilDiv}
use Rattle.exact_int.proofs.lemmas.Identity.{reads, identity}
use Rattle.exact_int.proofs.lemmas.Signs.{antisym, at_most_from_not_above, at_most_or_above, difference_from_lt, mul_not_negative, mul_not_positive_right, mul_positive}

some-of : (n : ℕ) → 1 ≤ n → pos 0 <ℤ pos n
some-of n h = omega (arith, ints, h)

turned-round : (a b : ℤ) → a *ℤ b ≡ b *ℤ a
turned-round a b = identity (a ∷ b ∷ []) (search reads depth 40) refl

difference-times : (a b t : ℤ) → (a -ℤ b) *ℤ t ≡ a *ℤ t -ℤ b *ℤ t
difference-times a b t = identity (a ∷ b ∷ t ∷ []) (search reads depth 40) refl

once-more : (a t : ℤ) → a *ℤ (t +ℤ pos 1) ≡ a *ℤ t +ℤ a
once-more a t = identity (a ∷ t ∷ []) (search reads depth 40) refl

le-self : (a : ℤ) → a ≤ℤ a
le-self a = omega (arith, ints)

-- the quotient of a multiple
pub exact-quotient : (q n k : ℤ) (times : ℕ) → IsCeilDiv q n (pos times) → k *ℤ pos times ≡ n → 1 ≤ times → q ≡ k
exact-quotient q n k times h e some = antisym q k up down
  where
    up : q ≤ℤ k
    up = (h k).1 (subst (λ (z : ℤ). z ≤ℤ (k *ℤ pos times)) e (le-self (k *ℤ pos times)))

    over : n ≤ℤ (q *ℤ pos times)
    over = (h q).0 (le-self q)

    down : k ≤ℤ q
    down = at_most_from_not_above q k (λ less. below (lt-times less) over)
      where
        lt-times : q <ℤ k → (q *ℤ pos times) <ℤ n
        lt-times less =
            let more : pos 0 <ℤ ((k -ℤ q) *ℤ pos times) = mul_positive (k -ℤ q) (pos times) (difference_from_lt q k less) (some-of times some) in
            between (q *ℤ pos times) (k *ℤ pos times) n e (subst (λ (z : ℤ). pos 0 <ℤ z) (difference-times k q (pos times)) more)
          where
            between : (x y n : ℤ) → y ≡ n → pos 0 <ℤ (y -ℤ x) → x <ℤ n
            between x y n e h = omega (arith, ints, e, h)

        below : (q *ℤ pos times) <ℤ n → n ≤ℤ (q *ℤ pos times) → ⊥
        below h k = clash (q *ℤ pos times) h k
          where
            clash : (x : ℤ) → x <ℤ n → n ≤ℤ x → ⊥
            clash x h k = omega (arith, ints, h, k)

-- it is no farther from 0
pub smaller : (m : ℕ) (k n : ℤ) (times : ℕ) → k *ℤ pos times ≡ n → 1 ≤ times → IsAtMost m n → IsAtMost m k
smaller m k n zero e some h = absurd (omega (arith, some))
smaller m k n (suc t) e some h = by (at_most_or_above (pos 0) k)
  where
    one-more : pos (suc t) ≡ pos t +ℤ pos 1
    one-more = omega (arith, ints)

    apart : n ≡ k *ℤ pos t +ℤ k
    apart = sym e ∙ ap (λ (z : ℤ). k *ℤ z) one-more ∙ once-more k (pos t)

    not-below : pos 0 ≤ℤ pos t
    not-below = omega (arith, ints)

    above : (d : ℤ) → pos 0 ≤ℤ d → n ≡ d +ℤ k → pos 0 ≤ℤ k → unsigned_abs k ≤ m
    above d some is up = let far = h.at_most in omega (arith, ints, some, is, up, far)

    under : (d : ℤ) → d ≤ℤ pos 0 → n ≡ d +ℤ k → k <ℤ pos 0 → unsigned_abs k ≤ m
    under d none is down = let far = h.at_most in omega (arith, ints, none, is, down, far)

    by : (pos 0 ≤ℤ k) ⊎ (k <ℤ pos 0) → IsAtMost m k
    by (inl up) = record { at_most = above (k *ℤ pos t) (mul_not_negative k (pos t) up not-below) apart up }
    by (inr down) =
        record {
          at_most = under (k *ℤ pos t)
              (subst (λ (z : ℤ). z ≤ℤ pos 0) (turned-round (pos t) k) (mul_not_positive_right (pos t) k not-below (omega (arith, ints, down))))
              apart down;
        }
