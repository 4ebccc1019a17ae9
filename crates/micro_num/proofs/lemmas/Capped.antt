-- Magnitudes that stand for the same coordinate: equal ones, and those out of range.
use Rattle.std.proofs.Common.{◌≡◌, ◌⊎◌, inl, inr, ℕ, suc, ◌+◌, ◌*◌, ◌-◌, ◌^◌, ◌<◌, ◌≤◌, ℤ, pos, negsuc, ◌+ℤ◌, neg_ℤ, ◌≤ℤ◌, ◌<ℤ◌, arith, ap, subst, sym, ◌∙◌, lit≤}
use Rattle.std.specs.Prelude.{unsigned_abs}
use Rattle.std.proofs.lemmas.Int.{ints}
use Rattle.std.proofs.lemmas.Bool.{cases_lt}
use Rattle.std.proofs.Math.Nat.{pow-le-pow_right, mul-le-mul_right, mul-le-mul_left, one-le-pow}
use Rattle.micro_num.specs.Micrometres.{magnitude, rounded_quotient}
use Rattle.micro_num.specs.Scan.{IsCapped, IsNear}
use Rattle.micro_num.proofs.lemmas.Powers.{rounded_quotient-cut, cut_above, power_suc}
use Rattle.micro_num.proofs.lemmas.Magnitude.{rounded_quotient-small}
use Rattle.geometry.specs.declared.limits.TheConstants.{COORDINATE_LIMIT}
use Rattle.micro_num.specs.declared.limits.TheConstants.{COORDINATE_POWER, LEADING_ROOM}

IsCapped-same : (a b : ℕ) → a ≡ b → IsCapped a b
IsCapped-same a b e = record { within = λ h. sym e; beyond = λ h. omega arith }

pub IsCapped_beyond : (a b : ℕ) → COORDINATE_LIMIT < a → COORDINATE_LIMIT < b → IsCapped a b
IsCapped_beyond a b h k = record { within = λ w. absurd (omega arith); beyond = λ w. k }

pub IsCapped-next : (a b c : ℕ) → IsCapped a b → IsCapped b c → IsCapped a c
IsCapped-next a b c p q = by_cases (cases_lt COORDINATE_LIMIT a)
  where
    by_cases : (COORDINATE_LIMIT < a) ⊎ (a ≤ COORDINATE_LIMIT) → IsCapped a c
    by_cases (inl h) = IsCapped_beyond a c h (q.beyond (p.beyond h))
    by_cases (inr h) =
        let e : b ≡ a = p.within h in
        IsCapped-same a c (sym (q.within (omega arith) ∙ e))

-- a number that is not 0, with a high exponent
pub grown_far : (m k : ℕ) → 0 < m → (COORDINATE_POWER < k) ⊎ (COORDINATE_LIMIT < m) → COORDINATE_LIMIT < m * 10 ^ k
grown_far m k some (inl far) =
    let high : 10 ^ suc COORDINATE_POWER ≤ 10 ^ k = pow-le-pow_right {n = 10} (lit≤ tt) {i = suc COORDINATE_POWER} {j = k} far in
    omega (arith, mul-le-mul_right (10 ^ k) some)
grown_far m k some (inr far) = omega (arith, mul-le-mul_left m (one-le-pow k 10 (lit≤ tt)))

pub IsCapped-down : (m r a : ℕ) (s : ℤ) → s <ℤ pos 0 → a ≡ unsigned_abs s → r ≡ rounded_quotient m a → IsCapped (magnitude m s) r
unfolding magnitude
IsCapped-down m r a (pos k) below e is = absurd (omega (arith, ints))
IsCapped-down m r a (negsuc k) below e is = IsCapped-same (rounded_quotient m (suc k)) r (sym (is ∙ ap (rounded_quotient m) e))

pub IsCapped-up : (m r a : ℕ) (s : ℤ) → pos 0 ≤ℤ s → a ≡ unsigned_abs s → IsCapped (m * 10 ^ a) r → IsCapped (magnitude m s) r
unfolding magnitude
IsCapped-up m r a (pos k) above e is = subst (λ a. IsCapped (m * 10 ^ a) r) e is
IsCapped-up m r a (negsuc k) above e is = absurd (omega (arith, ints))

-- The digits of n after those of m are dropped; if there are any, m is long.
module _ (m n j : ℕ) (low : m * 10 ^ j ≤ n) (high : n < (m + 1) * 10 ^ j) (long : 0 < j → LEADING_ROOM ≤ m) where
  whole : j ≡ 0 → n ≡ m
  whole e =
      let one : 10 ^ j ≡ 1 = ap (λ j. 10 ^ j) e in
      let low' = ap (λ p. m * p) one in
      let high' = ap (λ p. (m + 1) * p) one in
      omega arith

  above_long : 0 < j → LEADING_ROOM ≤ n
  above_long some = omega (arith, long some, mul-le-mul_left m (one-le-pow j 10 (lit≤ tt)))

  up : (k : ℕ) → IsCapped (n * 10 ^ k) (m * 10 ^ (k + j))
  up k = by_cases (cases_lt 0 j)
    where
      by_cases : (0 < j) ⊎ (j ≤ 0) → IsCapped (n * 10 ^ k) (m * 10 ^ (k + j))
      by_cases (inl some) =
          IsCapped_beyond _ _
          (grown_far n k (omega (arith, above_long some)) (inr (omega (arith, above_long some))))
          (grown_far m (k + j) (omega (arith, long some)) (inr (omega (arith, long some))))
      by_cases (inr none) =
          let e : j ≡ 0 = omega arith in
          IsCapped-same _ _ (ap (λ n. n * 10 ^ k) (whole e) ∙ ap (λ i. m * 10 ^ i) (omega arith))

  -- the point is among the dropped digits, or right before them
  among : (k : ℕ) → suc k ≤ j → IsCapped (rounded_quotient n (suc k)) (m * 10 ^ (j - suc k))
  among k inside =
      let some : 0 < j = omega arith in
      IsCapped_beyond _ _
      (omega (arith, long some, cut_above m n j (suc k) low inside))
      (grown_far m (j - suc k) (omega (arith, long some)) (inr (omega (arith, long some))))

  down : (k : ℕ) → j < suc k → rounded_quotient n (suc k) ≡ rounded_quotient m (suc (k - j))
  down k outside = ap (rounded_quotient n) (omega arith) ∙ rounded_quotient-cut m n j (suc (k - j)) low high (omega arith)

  pub IsCapped-cut : (s : ℤ) → IsCapped (magnitude n s) (magnitude m (s +ℤ pos j))
  unfolding magnitude
  IsCapped-cut (pos k) = up k
  IsCapped-cut (negsuc k) = by_cases (cases_lt j (suc k))
    where
      by_cases : (j < suc k) ⊎ (suc k ≤ j) → IsCapped (rounded_quotient n (suc k)) (magnitude m (negsuc k +ℤ pos j))
      by_cases (inl outside) =
          let e : negsuc k +ℤ pos j ≡ negsuc (k - j) = omega (arith, ints) in
          subst (λ s. IsCapped (rounded_quotient n (suc k)) (magnitude m s)) (sym e) (IsCapped-same _ _ (down k outside))
      by_cases (inr inside) =
          let e : negsuc k +ℤ pos j ≡ pos (j - suc k) = omega (arith, ints) in
          subst (λ s. IsCapped (rounded_quotient n (suc k)) (magnitude m s)) (sym e) (among k inside)

-- with a high exponent every number but 0 is out of range, and with a low one every number is 0
far_up : (m : ℕ) (s t : ℤ) → pos 9 ≤ℤ s → pos 9 ≤ℤ t → IsCapped (magnitude m s) (magnitude m t)
unfolding magnitude
far_up m (pos j) (pos k) hs ht = by_cases (cases_lt 0 m)
  where
    by_cases : (0 < m) ⊎ (m ≤ 0) → IsCapped (m * 10 ^ j) (m * 10 ^ k)
    by_cases (inl some) = IsCapped_beyond _ _ (grown_far m j some (inl (omega (arith, ints)))) (grown_far m k some (inl (omega (arith, ints))))
    by_cases (inr none) =
        let e : m ≡ 0 = omega arith in
        IsCapped-same _ _ (ap (λ m. m * 10 ^ j) e ∙ omega arith ∙ sym (ap (λ m. m * 10 ^ k) e))
far_up m (pos j) (negsuc k) hs ht = absurd (omega (arith, ints))
far_up m (negsuc j) t hs ht = absurd (omega (arith, ints))

down-zero : (m l k : ℕ) → m < 10 ^ l → l < k → rounded_quotient m k ≡ 0
down-zero m l k below far =
    let more : 10 ^ suc l ≤ 10 ^ k = pow-le-pow_right {n = 10} (lit≤ tt) {i = suc l} {j = k} far in
    rounded_quotient-small m k (omega (arith, power_suc l))

far_down : (m l : ℕ) (s t : ℤ) → m < 10 ^ l → s <ℤ neg_ℤ (pos l) → t <ℤ neg_ℤ (pos l) → IsCapped (magnitude m s) (magnitude m t)
unfolding magnitude
far_down m l (pos j) t below hs ht = absurd (omega (arith, ints))
far_down m l (negsuc j) (pos k) below hs ht = absurd (omega (arith, ints))
far_down m l (negsuc j) (negsuc k) below hs ht =
    IsCapped-same _ _ (down-zero m l (suc j) below (omega (arith, ints)) ∙ sym (down-zero m l (suc k) below (omega (arith, ints))))

-- exponents that are the same, or both far out on one side, with a small shift
pub IsCapped_near : (m : ℕ) (e z d : ℤ) → m < 10 ^ 300 → IsNear e z → neg_ℤ (pos 1000) ≤ℤ d → d ≤ℤ pos 1000
    → IsCapped (magnitude m (z +ℤ d)) (magnitude m (e +ℤ d))
IsCapped_near m e z d below (inl same) low high = IsCapped-same _ _ (ap (λ z. magnitude m (z +ℤ d)) (sym same))
IsCapped_near m e z d below (inr (inl far)) low high = far_up m _ _ (omega (arith, ints, far)) (omega (arith, ints, far))
IsCapped_near m e z d below (inr (inr far)) low high = far_down m 300 _ _ below (omega (arith, ints, far)) (omega (arith, ints, far))
