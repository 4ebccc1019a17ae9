-- How the segment from (xd, yd) to (xu, yu) passes the half lines from the origin along x and along y, by the quadrants of its
-- ends.
use Rattle.std.proofs.Common.{◌≡◌, [], ◌∷◌, ℤ, pos, negsuc, ◌+ℤ◌, ◌-ℤ◌, ◌*ℤ◌, neg_ℤ, ◌≤ℤ◌, ◌<ℤ◌, int_lt, if◌then◌else◌, refl, sym, ◌∙◌, ap, subst, arith}
use Rattle.std.proofs.lemmas.Int.{ints}
use lib.IntN.{*ℤ_comm}
use Rattle.exact_int.proofs.lemmas.Identity.{reads, identity}
use Rattle.exact_int.proofs.lemmas.Signs.{weak, weak_below, neg_not_negative, two_negs, mul_positive, mul_not_negative, mul_not_positive_right}
use Rattle.exact_cut.specs.Laws.{where_not_zero}

-- the turn of the edge up, and of the edge down, by the side on which its cut point lies
pub data UpTurn (t y : ℤ) : Type 0 where
  up_yes : t ≡ pos 1 → pos 0 <ℤ y → UpTurn t y
  up_no : t ≡ pos 0 → y ≤ℤ pos 0 → UpTurn t y

pub data DownTurn (t y : ℤ) : Type 0 where
  down_yes : t ≡ negsuc 0 → pos 0 <ℤ y → DownTurn t y
  down_no : t ≡ pos 0 → y ≤ℤ pos 0 → DownTurn t y

-- k and v have one sign
pub data SameSign (k v : ℤ) : Type 0 where
  both_above : pos 0 <ℤ k → pos 0 <ℤ v → SameSign k v
  both_zero : k ≡ pos 0 → v ≡ pos 0 → SameSign k v
  both_below : k <ℤ pos 0 → v <ℤ pos 0 → SameSign k v

-- the winding w if it and the volume v say that the facet is ahead, else 0
abbrev pub ahead_only : ℤ → ℤ → ℤ
ahead_only w v = if int_lt (pos 0) (w *ℤ v) then w else pos 0

-- ---- what is taken
taken_one : (w v : ℤ) → w ≡ pos 1 → pos 0 <ℤ v → ahead_only w v ≡ pos 1
taken_one w v e h = ap (λ x. ahead_only x v) e ∙ by v h
  where
    by : (v : ℤ) → pos 0 <ℤ v → ahead_only (pos 1) v ≡ pos 1
    by v h = grind (arith, ints)

taken_one_not : (w v : ℤ) → w ≡ pos 1 → v ≤ℤ pos 0 → ahead_only w v ≡ pos 0
taken_one_not w v e h = ap (λ x. ahead_only x v) e ∙ by v h
  where
    by : (v : ℤ) → v ≤ℤ pos 0 → ahead_only (pos 1) v ≡ pos 0
    by v h = grind (arith, ints)

taken_minus : (w v : ℤ) → w ≡ negsuc 0 → v <ℤ pos 0 → ahead_only w v ≡ negsuc 0
taken_minus w v e h = ap (λ x. ahead_only x v) e ∙ by v h
  where
    by : (v : ℤ) → v <ℤ pos 0 → ahead_only (negsuc 0) v ≡ negsuc 0
    by v h = grind (arith, ints)

taken_minus_not : (w v : ℤ) → w ≡ negsuc 0 → pos 0 ≤ℤ v → ahead_only w v ≡ pos 0
taken_minus_not w v e h = ap (λ x. ahead_only x v) e ∙ by v h
  where
    by : (v : ℤ) → pos 0 ≤ℤ v → ahead_only (negsuc 0) v ≡ pos 0
    by v h = grind (arith, ints)

pub taken_none : (w v : ℤ) → w ≡ pos 0 → ahead_only w v ≡ pos 0
taken_none w v e = ap (λ x. ahead_only x v) e ∙ by v
  where
    by : (v : ℤ) → ahead_only (pos 0) v ≡ pos 0
    by v = grind (arith, ints)

-- ---- the sign of k = m - n
above-1 : (m n : ℤ) → pos 0 <ℤ m → n ≤ℤ pos 0 → pos 0 <ℤ (m -ℤ n)
above-1 m n h k = omega (arith, ints)

above-2 : (m n : ℤ) → pos 0 ≤ℤ m → n ≤ℤ pos 0 → pos 0 ≤ℤ (m -ℤ n)
above-2 m n h k = omega (arith, ints)

below-1 : (m n : ℤ) → m ≤ℤ pos 0 → pos 0 <ℤ n → (m -ℤ n) <ℤ pos 0
below-1 m n h k = omega (arith, ints)

below-2 : (m n : ℤ) → m ≤ℤ pos 0 → pos 0 ≤ℤ n → (m -ℤ n) ≤ℤ pos 0
below-2 m n h k = omega (arith, ints)

-- products of one number above 0 or at most 0 with another
pn : (a b : ℤ) → pos 0 <ℤ a → b ≤ℤ pos 0 → (a *ℤ b) ≤ℤ pos 0
pn a b h k = mul_not_positive_right a b (weak a h) k

np : (a b : ℤ) → a ≤ℤ pos 0 → pos 0 <ℤ b → (a *ℤ b) ≤ℤ pos 0
np a b h k = subst (λ x. x ≤ℤ pos 0) (*ℤ_comm b a) (pn b a k h)

nn : (a b : ℤ) → a ≤ℤ pos 0 → b ≤ℤ pos 0 → pos 0 ≤ℤ (a *ℤ b)
nn a b h k = subst (λ x. pos 0 ≤ℤ x) (two_negs a b) (mul_not_negative (neg_ℤ a) (neg_ℤ b) (neg_not_negative a h) (neg_not_negative b k))

same-above : (k v : ℤ) → SameSign k v → pos 0 <ℤ k → pos 0 <ℤ v
same-above k v (both_above a b) h = b
same-above k v (both_zero a b) h = absurd (omega (arith, ints))
same-above k v (both_below a b) h = absurd (omega (arith, ints))

same-below : (k v : ℤ) → SameSign k v → k <ℤ pos 0 → v <ℤ pos 0
same-below k v (both_above a b) h = absurd (omega (arith, ints))
same-below k v (both_zero a b) h = absurd (omega (arith, ints))
same-below k v (both_below a b) h = b

same-not_above : (k v : ℤ) → SameSign k v → k ≤ℤ pos 0 → v ≤ℤ pos 0
same-not_above k v (both_above a b) h = absurd (omega (arith, ints))
same-not_above k v (both_zero a b) h = omega (arith, ints)
same-not_above k v (both_below a b) h = omega (arith, ints)

same-not_below : (k v : ℤ) → SameSign k v → pos 0 ≤ℤ k → pos 0 ≤ℤ v
same-not_below k v (both_above a b) h = omega (arith, ints)
same-not_below k v (both_zero a b) h = omega (arith, ints)
same-not_below k v (both_below a b) h = absurd (omega (arith, ints))

nothing : (a : ℤ) → a -ℤ a ≡ pos 0
nothing a = identity (a ∷ []) (search reads depth 40) refl

collect : (x y p q a b c d : ℤ) → x ≡ a → y ≡ b → p ≡ c → q ≡ d → a -ℤ b ≡ c +ℤ d → x -ℤ y ≡ p +ℤ q
collect x y p q a b c d e f g h k = (λ i. e i -ℤ f i) ∙ k ∙ sym (λ i. g i +ℤ h i)

sum_is : (w a b m n k : ℤ) → w ≡ a +ℤ b → a ≡ m → b ≡ n → m +ℤ n ≡ k → w ≡ k
sum_is w a b m n k e f g h = e ∙ (λ i. f i +ℤ g i) ∙ h

sum_neg : (w a b m n k : ℤ) → w ≡ neg_ℤ (a +ℤ b) → a ≡ m → b ≡ n → neg_ℤ (m +ℤ n) ≡ k → w ≡ k
sum_neg w a b m n k e f g h = e ∙ (λ i. neg_ℤ (f i +ℤ g i)) ∙ h

-- the edges' turns along y (tu, td) and along x (su, sd), by where their cut points (xu, yu) and (xd, yd) lie from the origin
module _ (xu yu xd yd tu td su sd w wy v : ℤ) (w_is : w ≡ tu +ℤ td) (wy_is : wy ≡ neg_ℤ (su +ℤ sd)) where
  abbrev Claim : Type 0
  Claim = ahead_only w v -ℤ ahead_only wy v ≡ where_not_zero tu su +ℤ where_not_zero td sd

  -- if neither ray is passed
  pub quadrants-flat : w ≡ pos 0 → wy ≡ pos 0 → UpTurn tu yu → DownTurn td yd → UpTurn su xu → DownTurn sd xd → Claim
  quadrants-flat z1 z2 (up_yes e1 h1) (down_yes e2 h2) (up_yes e3 h3) (down_yes e4 h4) = collect (ahead_only w v) (ahead_only wy v) (where_not_zero tu su) (where_not_zero td sd) (pos 0) (pos 0) (pos 1) (negsuc 0) (taken_none w v z1) (taken_none wy v z2) (λ i. where_not_zero (e1 i) (e3 i)) (λ i. where_not_zero (e2 i) (e4 i)) refl
  quadrants-flat z1 z2 (up_yes e1 h1) (down_yes e2 h2) (up_yes e3 h3) (down_no e4 h4) = absurd (let z = sym (sum_neg wy su sd (pos 1) (pos 0) (negsuc 0) wy_is e3 e4 refl) ∙ z2 in omega (arith, ints))
  quadrants-flat z1 z2 (up_yes e1 h1) (down_yes e2 h2) (up_no e3 h3) (down_yes e4 h4) = absurd (let z = sym (sum_neg wy su sd (pos 0) (negsuc 0) (pos 1) wy_is e3 e4 refl) ∙ z2 in omega (arith, ints))
  quadrants-flat z1 z2 (up_yes e1 h1) (down_yes e2 h2) (up_no e3 h3) (down_no e4 h4) = collect (ahead_only w v) (ahead_only wy v) (where_not_zero tu su) (where_not_zero td sd) (pos 0) (pos 0) (pos 0) (pos 0) (taken_none w v z1) (taken_none wy v z2) (λ i. where_not_zero (e1 i) (e3 i)) (λ i. where_not_zero (e2 i) (e4 i)) refl
  quadrants-flat z1 z2 (up_yes e1 h1) (down_no e2 h2) (up_yes e3 h3) (down_yes e4 h4) = absurd (let z = sym (sum_is w tu td (pos 1) (pos 0) (pos 1) w_is e1 e2 refl) ∙ z1 in omega (arith, ints))
  quadrants-flat z1 z2 (up_yes e1 h1) (down_no e2 h2) (up_yes e3 h3) (down_no e4 h4) = absurd (let z = sym (sum_is w tu td (pos 1) (pos 0) (pos 1) w_is e1 e2 refl) ∙ z1 in omega (arith, ints))
  quadrants-flat z1 z2 (up_yes e1 h1) (down_no e2 h2) (up_no e3 h3) (down_yes e4 h4) = absurd (let z = sym (sum_is w tu td (pos 1) (pos 0) (pos 1) w_is e1 e2 refl) ∙ z1 in omega (arith, ints))
  quadrants-flat z1 z2 (up_yes e1 h1) (down_no e2 h2) (up_no e3 h3) (down_no e4 h4) = absurd (let z = sym (sum_is w tu td (pos 1) (pos 0) (pos 1) w_is e1 e2 refl) ∙ z1 in omega (arith, ints))
  quadrants-flat z1 z2 (up_no e1 h1) (down_yes e2 h2) (up_yes e3 h3) (down_yes e4 h4) = absurd (let z = sym (sum_is w tu td (pos 0) (negsuc 0) (negsuc 0) w_is e1 e2 refl) ∙ z1 in omega (arith, ints))
  quadrants-flat z1 z2 (up_no e1 h1) (down_yes e2 h2) (up_yes e3 h3) (down_no e4 h4) = absurd (let z = sym (sum_is w tu td (pos 0) (negsuc 0) (negsuc 0) w_is e1 e2 refl) ∙ z1 in omega (arith, ints))
  quadrants-flat z1 z2 (up_no e1 h1) (down_yes e2 h2) (up_no e3 h3) (down_yes e4 h4) = absurd (let z = sym (sum_is w tu td (pos 0) (negsuc 0) (negsuc 0) w_is e1 e2 refl) ∙ z1 in omega (arith, ints))
  quadrants-flat z1 z2 (up_no e1 h1) (down_yes e2 h2) (up_no e3 h3) (down_no e4 h4) = absurd (let z = sym (sum_is w tu td (pos 0) (negsuc 0) (negsuc 0) w_is e1 e2 refl) ∙ z1 in omega (arith, ints))
  quadrants-flat z1 z2 (up_no e1 h1) (down_no e2 h2) (up_yes e3 h3) (down_yes e4 h4) = collect (ahead_only w v) (ahead_only wy v) (where_not_zero tu su) (where_not_zero td sd) (pos 0) (pos 0) (pos 0) (pos 0) (taken_none w v z1) (taken_none wy v z2) (λ i. where_not_zero (e1 i) (e3 i)) (λ i. where_not_zero (e2 i) (e4 i)) refl
  quadrants-flat z1 z2 (up_no e1 h1) (down_no e2 h2) (up_yes e3 h3) (down_no e4 h4) = absurd (let z = sym (sum_neg wy su sd (pos 1) (pos 0) (negsuc 0) wy_is e3 e4 refl) ∙ z2 in omega (arith, ints))
  quadrants-flat z1 z2 (up_no e1 h1) (down_no e2 h2) (up_no e3 h3) (down_yes e4 h4) = absurd (let z = sym (sum_neg wy su sd (pos 0) (negsuc 0) (pos 1) wy_is e3 e4 refl) ∙ z2 in omega (arith, ints))
  quadrants-flat z1 z2 (up_no e1 h1) (down_no e2 h2) (up_no e3 h3) (down_no e4 h4) = collect (ahead_only w v) (ahead_only wy v) (where_not_zero tu su) (where_not_zero td sd) (pos 0) (pos 0) (pos 0) (pos 0) (taken_none w v z1) (taken_none wy v z2) (λ i. where_not_zero (e1 i) (e3 i)) (λ i. where_not_zero (e2 i) (e4 i)) refl

  -- if v has the sign of the cross product of the two cut points, and the step does not pass the origin
  pub quadrants : SameSign (xd *ℤ yu -ℤ yd *ℤ xu) v
      → (xd *ℤ yu -ℤ yd *ℤ xu ≡ pos 0 → xd ≤ℤ pos 0 → yd ≤ℤ pos 0 → pos 0 <ℤ xu → pos 0 <ℤ yu → ⊥)
      → (xd *ℤ yu -ℤ yd *ℤ xu ≡ pos 0 → xu ≤ℤ pos 0 → yu ≤ℤ pos 0 → pos 0 <ℤ xd → pos 0 <ℤ yd → ⊥)
      → UpTurn tu yu → DownTurn td yd → UpTurn su xu → DownTurn sd xd → Claim
  quadrants s t1 t2 (up_yes e1 h1) (down_yes e2 h2) (up_yes e3 h3) (down_yes e4 h4) = collect (ahead_only w v) (ahead_only wy v) (where_not_zero tu su) (where_not_zero td sd) (pos 0) (pos 0) (pos 1) (negsuc 0) (taken_none w v (sum_is w tu td (pos 1) (negsuc 0) (pos 0) w_is e1 e2 refl)) (taken_none wy v (sum_neg wy su sd (pos 1) (negsuc 0) (pos 0) wy_is e3 e4 refl)) (λ i. where_not_zero (e1 i) (e3 i)) (λ i. where_not_zero (e2 i) (e4 i)) refl
  quadrants s t1 t2 (up_yes e1 h1) (down_yes e2 h2) (up_yes e3 h3) (down_no e4 h4) = collect (ahead_only w v) (ahead_only wy v) (where_not_zero tu su) (where_not_zero td sd) (pos 0) (negsuc 0) (pos 1) (pos 0) (taken_none w v (sum_is w tu td (pos 1) (negsuc 0) (pos 0) w_is e1 e2 refl)) (taken_minus wy v (sum_neg wy su sd (pos 1) (pos 0) (negsuc 0) wy_is e3 e4 refl) (same-below (xd *ℤ yu -ℤ yd *ℤ xu) v s (below-1 (xd *ℤ yu) (yd *ℤ xu) (np xd yu h4 h1) (mul_positive yd xu h2 h3)))) (λ i. where_not_zero (e1 i) (e3 i)) (λ i. where_not_zero (e2 i) (e4 i)) refl
  quadrants s t1 t2 (up_yes e1 h1) (down_yes e2 h2) (up_no e3 h3) (down_yes e4 h4) = collect (ahead_only w v) (ahead_only wy v) (where_not_zero tu su) (where_not_zero td sd) (pos 0) (pos 1) (pos 0) (negsuc 0) (taken_none w v (sum_is w tu td (pos 1) (negsuc 0) (pos 0) w_is e1 e2 refl)) (taken_one wy v (sum_neg wy su sd (pos 0) (negsuc 0) (pos 1) wy_is e3 e4 refl) (same-above (xd *ℤ yu -ℤ yd *ℤ xu) v s (above-1 (xd *ℤ yu) (yd *ℤ xu) (mul_positive xd yu h4 h1) (pn yd xu h2 h3)))) (λ i. where_not_zero (e1 i) (e3 i)) (λ i. where_not_zero (e2 i) (e4 i)) refl
  quadrants s t1 t2 (up_yes e1 h1) (down_yes e2 h2) (up_no e3 h3) (down_no e4 h4) = collect (ahead_only w v) (ahead_only wy v) (where_not_zero tu su) (where_not_zero td sd) (pos 0) (pos 0) (pos 0) (pos 0) (taken_none w v (sum_is w tu td (pos 1) (negsuc 0) (pos 0) w_is e1 e2 refl)) (taken_none wy v (sum_neg wy su sd (pos 0) (pos 0) (pos 0) wy_is e3 e4 refl)) (λ i. where_not_zero (e1 i) (e3 i)) (λ i. where_not_zero (e2 i) (e4 i)) refl
  quadrants s t1 t2 (up_yes e1 h1) (down_no e2 h2) (up_yes e3 h3) (down_yes e4 h4) = collect (ahead_only w v) (ahead_only wy v) (where_not_zero tu su) (where_not_zero td sd) (pos 1) (pos 0) (pos 1) (pos 0) (taken_one w v (sum_is w tu td (pos 1) (pos 0) (pos 1) w_is e1 e2 refl) (same-above (xd *ℤ yu -ℤ yd *ℤ xu) v s (above-1 (xd *ℤ yu) (yd *ℤ xu) (mul_positive xd yu h4 h1) (np yd xu h2 h3)))) (taken_none wy v (sum_neg wy su sd (pos 1) (negsuc 0) (pos 0) wy_is e3 e4 refl)) (λ i. where_not_zero (e1 i) (e3 i)) (λ i. where_not_zero (e2 i) (e4 i)) refl
  quadrants (both_above a b) t1 t2 (up_yes e1 h1) (down_no e2 h2) (up_yes e3 h3) (down_no e4 h4) = collect (ahead_only w v) (ahead_only wy v) (where_not_zero tu su) (where_not_zero td sd) (pos 1) (pos 0) (pos 1) (pos 0) (taken_one w v (sum_is w tu td (pos 1) (pos 0) (pos 1) w_is e1 e2 refl) b) (taken_minus_not wy v (sum_neg wy su sd (pos 1) (pos 0) (negsuc 0) wy_is e3 e4 refl) (weak v b)) (λ i. where_not_zero (e1 i) (e3 i)) (λ i. where_not_zero (e2 i) (e4 i)) refl
  quadrants (both_zero a b) t1 t2 (up_yes e1 h1) (down_no e2 h2) (up_yes e3 h3) (down_no e4 h4) = absurd (t1 a h4 h2 h3 h1)
  quadrants (both_below a b) t1 t2 (up_yes e1 h1) (down_no e2 h2) (up_yes e3 h3) (down_no e4 h4) = collect (ahead_only w v) (ahead_only wy v) (where_not_zero tu su) (where_not_zero td sd) (pos 0) (negsuc 0) (pos 1) (pos 0) (taken_one_not w v (sum_is w tu td (pos 1) (pos 0) (pos 1) w_is e1 e2 refl) (weak_below v b)) (taken_minus wy v (sum_neg wy su sd (pos 1) (pos 0) (negsuc 0) wy_is e3 e4 refl) b) (λ i. where_not_zero (e1 i) (e3 i)) (λ i. where_not_zero (e2 i) (e4 i)) refl
  quadrants s t1 t2 (up_yes e1 h1) (down_no e2 h2) (up_no e3 h3) (down_yes e4 h4) = collect (ahead_only w v) (ahead_only wy v) (where_not_zero tu su) (where_not_zero td sd) (ahead_only (pos 1) v) (ahead_only (pos 1) v) (pos 0) (pos 0) (ap (λ x. ahead_only x v) (sum_is w tu td (pos 1) (pos 0) (pos 1) w_is e1 e2 refl)) (ap (λ x. ahead_only x v) (sum_neg wy su sd (pos 0) (negsuc 0) (pos 1) wy_is e3 e4 refl)) (λ i. where_not_zero (e1 i) (e3 i)) (λ i. where_not_zero (e2 i) (e4 i)) (nothing (ahead_only (pos 1) v))
  quadrants s t1 t2 (up_yes e1 h1) (down_no e2 h2) (up_no e3 h3) (down_no e4 h4) = collect (ahead_only w v) (ahead_only wy v) (where_not_zero tu su) (where_not_zero td sd) (pos 0) (pos 0) (pos 0) (pos 0) (taken_one_not w v (sum_is w tu td (pos 1) (pos 0) (pos 1) w_is e1 e2 refl) (same-not_above (xd *ℤ yu -ℤ yd *ℤ xu) v s (below-2 (xd *ℤ yu) (yd *ℤ xu) (np xd yu h4 h1) (nn yd xu h2 h3)))) (taken_none wy v (sum_neg wy su sd (pos 0) (pos 0) (pos 0) wy_is e3 e4 refl)) (λ i. where_not_zero (e1 i) (e3 i)) (λ i. where_not_zero (e2 i) (e4 i)) refl
  quadrants s t1 t2 (up_no e1 h1) (down_yes e2 h2) (up_yes e3 h3) (down_yes e4 h4) = collect (ahead_only w v) (ahead_only wy v) (where_not_zero tu su) (where_not_zero td sd) (negsuc 0) (pos 0) (pos 0) (negsuc 0) (taken_minus w v (sum_is w tu td (pos 0) (negsuc 0) (negsuc 0) w_is e1 e2 refl) (same-below (xd *ℤ yu -ℤ yd *ℤ xu) v s (below-1 (xd *ℤ yu) (yd *ℤ xu) (pn xd yu h4 h1) (mul_positive yd xu h2 h3)))) (taken_none wy v (sum_neg wy su sd (pos 1) (negsuc 0) (pos 0) wy_is e3 e4 refl)) (λ i. where_not_zero (e1 i) (e3 i)) (λ i. where_not_zero (e2 i) (e4 i)) refl
  quadrants s t1 t2 (up_no e1 h1) (down_yes e2 h2) (up_yes e3 h3) (down_no e4 h4) = collect (ahead_only w v) (ahead_only wy v) (where_not_zero tu su) (where_not_zero td sd) (ahead_only (negsuc 0) v) (ahead_only (negsuc 0) v) (pos 0) (pos 0) (ap (λ x. ahead_only x v) (sum_is w tu td (pos 0) (negsuc 0) (negsuc 0) w_is e1 e2 refl)) (ap (λ x. ahead_only x v) (sum_neg wy su sd (pos 1) (pos 0) (negsuc 0) wy_is e3 e4 refl)) (λ i. where_not_zero (e1 i) (e3 i)) (λ i. where_not_zero (e2 i) (e4 i)) (nothing (ahead_only (negsuc 0) v))
  quadrants (both_above a b) t1 t2 (up_no e1 h1) (down_yes e2 h2) (up_no e3 h3) (down_yes e4 h4) = collect (ahead_only w v) (ahead_only wy v) (where_not_zero tu su) (where_not_zero td sd) (pos 0) (pos 1) (pos 0) (negsuc 0) (taken_minus_not w v (sum_is w tu td (pos 0) (negsuc 0) (negsuc 0) w_is e1 e2 refl) (weak v b)) (taken_one wy v (sum_neg wy su sd (pos 0) (negsuc 0) (pos 1) wy_is e3 e4 refl) b) (λ i. where_not_zero (e1 i) (e3 i)) (λ i. where_not_zero (e2 i) (e4 i)) refl
  quadrants (both_zero a b) t1 t2 (up_no e1 h1) (down_yes e2 h2) (up_no e3 h3) (down_yes e4 h4) = absurd (t2 a h3 h1 h4 h2)
  quadrants (both_below a b) t1 t2 (up_no e1 h1) (down_yes e2 h2) (up_no e3 h3) (down_yes e4 h4) = collect (ahead_only w v) (ahead_only wy v) (where_not_zero tu su) (where_not_zero td sd) (negsuc 0) (pos 0) (pos 0) (negsuc 0) (taken_minus w v (sum_is w tu td (pos 0) (negsuc 0) (negsuc 0) w_is e1 e2 refl) b) (taken_one_not wy v (sum_neg wy su sd (pos 0) (negsuc 0) (pos 1) wy_is e3 e4 refl) (weak_below v b)) (λ i. where_not_zero (e1 i) (e3 i)) (λ i. where_not_zero (e2 i) (e4 i)) refl
  quadrants s t1 t2 (up_no e1 h1) (down_yes e2 h2) (up_no e3 h3) (down_no e4 h4) = collect (ahead_only w v) (ahead_only wy v) (where_not_zero tu su) (where_not_zero td sd) (pos 0) (pos 0) (pos 0) (pos 0) (taken_minus_not w v (sum_is w tu td (pos 0) (negsuc 0) (negsuc 0) w_is e1 e2 refl) (same-not_below (xd *ℤ yu -ℤ yd *ℤ xu) v s (above-2 (xd *ℤ yu) (yd *ℤ xu) (nn xd yu h4 h1) (pn yd xu h2 h3)))) (taken_none wy v (sum_neg wy su sd (pos 0) (pos 0) (pos 0) wy_is e3 e4 refl)) (λ i. where_not_zero (e1 i) (e3 i)) (λ i. where_not_zero (e2 i) (e4 i)) refl
  quadrants s t1 t2 (up_no e1 h1) (down_no e2 h2) (up_yes e3 h3) (down_yes e4 h4) = collect (ahead_only w v) (ahead_only wy v) (where_not_zero tu su) (where_not_zero td sd) (pos 0) (pos 0) (pos 0) (pos 0) (taken_none w v (sum_is w tu td (pos 0) (pos 0) (pos 0) w_is e1 e2 refl)) (taken_none wy v (sum_neg wy su sd (pos 1) (negsuc 0) (pos 0) wy_is e3 e4 refl)) (λ i. where_not_zero (e1 i) (e3 i)) (λ i. where_not_zero (e2 i) (e4 i)) refl
  quadrants s t1 t2 (up_no e1 h1) (down_no e2 h2) (up_yes e3 h3) (down_no e4 h4) = collect (ahead_only w v) (ahead_only wy v) (where_not_zero tu su) (where_not_zero td sd) (pos 0) (pos 0) (pos 0) (pos 0) (taken_none w v (sum_is w tu td (pos 0) (pos 0) (pos 0) w_is e1 e2 refl)) (taken_minus_not wy v (sum_neg wy su sd (pos 1) (pos 0) (negsuc 0) wy_is e3 e4 refl) (same-not_below (xd *ℤ yu -ℤ yd *ℤ xu) v s (above-2 (xd *ℤ yu) (yd *ℤ xu) (nn xd yu h4 h1) (np yd xu h2 h3)))) (λ i. where_not_zero (e1 i) (e3 i)) (λ i. where_not_zero (e2 i) (e4 i)) refl
  quadrants s t1 t2 (up_no e1 h1) (down_no e2 h2) (up_no e3 h3) (down_yes e4 h4) = collect (ahead_only w v) (ahead_only wy v) (where_not_zero tu su) (where_not_zero td sd) (pos 0) (pos 0) (pos 0) (pos 0) (taken_none w v (sum_is w tu td (pos 0) (pos 0) (pos 0) w_is e1 e2 refl)) (taken_one_not wy v (sum_neg wy su sd (pos 0) (negsuc 0) (pos 1) wy_is e3 e4 refl) (same-not_above (xd *ℤ yu -ℤ yd *ℤ xu) v s (below-2 (xd *ℤ yu) (yd *ℤ xu) (pn xd yu h4 h1) (nn yd xu h2 h3)))) (λ i. where_not_zero (e1 i) (e3 i)) (λ i. where_not_zero (e2 i) (e4 i)) refl
  quadrants s t1 t2 (up_no e1 h1) (down_no e2 h2) (up_no e3 h3) (down_no e4 h4) = collect (ahead_only w v) (ahead_only wy v) (where_not_zero tu su) (where_not_zero td sd) (pos 0) (pos 0) (pos 0) (pos 0) (taken_none w v (sum_is w tu td (pos 0) (pos 0) (pos 0) w_is e1 e2 refl)) (taken_none wy v (sum_neg wy su sd (pos 0) (pos 0) (pos 0) wy_is e3 e4 refl)) (λ i. where_not_zero (e1 i) (e3 i)) (λ i. where_not_zero (e2 i) (e4 i)) refl
