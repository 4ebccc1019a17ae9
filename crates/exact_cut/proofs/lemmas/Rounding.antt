-- Fractions as nearest whole numbers.
use Rattle.std.proofs.Common.{◌≡◌, ℕ, suc, ◌+◌, ◌*◌, ◌/◌, ◌%◌, ◌<◌, [], ◌∷◌, ℤ, pos, negsuc, ◌+ℤ◌, ◌-ℤ◌, ◌*ℤ◌, ◌≤ℤ◌, ◌<ℤ◌, ◌↔◌, refl, sym, ◌∙◌, subst, arith}
use Rattle.std.specs.Int.{int_div_euclid}
use Rattle.std.proofs.lemmas.Int.{ints}
use Rattle.std.proofs.lemmas.Nat.{div-add-mod'}
use Rattle.std.proofs.Math.Nat.{mod-lt, suc-mul}
use lib.IntN.{*ℤ_comm}
use Rattle.exact_int.proofs.lemmas.Identity.{reads, identity}
use Rattle.exact_int.proofs.lemmas.Signs.{antisym, lt_of_mul_left, weak}
use Rattle.geometry.specs.Point.{Point}
use Rattle.exact_cut.specs.CutPoint.{cut_x, cut_y, cut_d}
use Rattle.exact_cut.specs.PlanePoint.{IsNearest, nearest, passing_point}

-- a point, from the numbers that the code computes
pub point_is : {x y a b d : ℤ} {low high low' high' : Point} (z : ℤ) → x ≡ nearest a d → y ≡ nearest b d
    → a ≡ cut_x low high z → b ≡ cut_y low high z → d ≡ cut_d low high → low ≡ low' → high ≡ high'
    → record { x2 = x; y2 = y } ≡ passing_point low' high' z
point_is {low = low} {high = high} z ex ey ea eb ed el eh =
    (λ i. record { x2 = ex i; y2 = ey i })
    ∙ (λ i. record { x2 = nearest (ea i) (ed i); y2 = nearest (eb i) (ed i) })
    ∙ (λ i. passing_point (el i) (eh i) z)

-- ---- division that rounds down
pub record IsFloor (a d q : ℤ) : Type 0 where
  pub least : (q *ℤ d) ≤ℤ a
  pub below : a <ℤ (q *ℤ d +ℤ d)

quotient : (m d : ℕ) → 0 < d → (m / d * d + m % d ≡ m) × (m % d < d)
quotient m d h = (div-add-mod' m d, mod-lt m h)

floor_pos : (m d q r : ℕ) → q * d + r ≡ m → r < d → IsFloor (pos m) (pos d) (pos q)
floor_pos m d q r e l = record { least = omega (arith, ints, e, l); below = omega (arith, ints, e, l) }

floor_neg : (m d q r : ℕ) → q * d + r ≡ m → r < d → IsFloor (negsuc m) (pos d) (negsuc q)
floor_neg m d q r e l =
    let product : suc q * d ≡ q * d + d = suc-mul q d in
    record { least = omega (arith, ints, e, l, product); below = omega (arith, ints, e, l, product) }

floor_is : (a : ℤ) (d : ℕ) → 0 < d → IsFloor a (pos d) (int_div_euclid a (pos d))
floor_is (pos m) d h = let q = quotient m d h in floor_pos m d (m / d) (m % d) q.0 q.1
floor_is (negsuc m) d h = let q = quotient m d h in floor_neg m d (m / d) (m % d) q.0 q.1

-- ---- a half more, rounded down
nearest_by : (num den n : ℤ) → IsFloor (pos 2 *ℤ num +ℤ den) (pos 2 *ℤ den) n → IsNearest num den n
nearest_by num den n h =
    let up : (pos 2 *ℤ n +ℤ pos 1) *ℤ den ≡ n *ℤ (pos 2 *ℤ den) +ℤ den = identity (n ∷ den ∷ []) (search reads depth 40) refl in
    let down : (pos 2 *ℤ n -ℤ pos 1) *ℤ den ≡ n *ℤ (pos 2 *ℤ den) -ℤ den = identity (n ∷ den ∷ []) (search reads depth 40) refl in
    record {
      not_below = below (pos 2 *ℤ num) den (n *ℤ (pos 2 *ℤ den)) ((pos 2 *ℤ n +ℤ pos 1) *ℤ den) h.below up;
      not_above = above (pos 2 *ℤ num) den (n *ℤ (pos 2 *ℤ den)) ((pos 2 *ℤ n -ℤ pos 1) *ℤ den) h.least down;
    }
  where
    below : (a d q u : ℤ) → (a +ℤ d) <ℤ (q +ℤ pos 2 *ℤ d) → u ≡ q +ℤ d → a <ℤ u
    below a d q u h e = omega (arith, ints, h, e)

    above : (a d q u : ℤ) → q ≤ℤ (a +ℤ d) → u ≡ q -ℤ d → u ≤ℤ a
    above a d q u h e = omega (arith, ints, h, e)

pub nearest-near : (num den : ℤ) → pos 0 <ℤ den → IsNearest num den (nearest num den)
nearest-near num (pos d) h = nearest_by num (pos d) (nearest num (pos d)) (floor_is (pos 2 *ℤ num +ℤ pos d) (2 * d) (omega (arith, ints, h)))
nearest-near num (negsuc d) h = absurd (omega (arith, ints, h))

at_most : (num den m n : ℤ) → pos 0 <ℤ den → IsNearest num den m → IsNearest num den n → m ≤ℤ n
at_most num den m n h a b =
    by m n (lt_of_mul_left den (pos 2 *ℤ m -ℤ pos 1) (pos 2 *ℤ n +ℤ pos 1) (weak den h)
    (between (pos 2 *ℤ num) ((pos 2 *ℤ m -ℤ pos 1) *ℤ den) ((pos 2 *ℤ n +ℤ pos 1) *ℤ den) (den *ℤ (pos 2 *ℤ m -ℤ pos 1)) (den *ℤ (pos 2 *ℤ n +ℤ pos 1))
    a.not_above b.not_below (*ℤ_comm den (pos 2 *ℤ m -ℤ pos 1)) (*ℤ_comm den (pos 2 *ℤ n +ℤ pos 1))))
  where
    between : (a l r x y : ℤ) → l ≤ℤ a → a <ℤ r → x ≡ l → y ≡ r → x <ℤ y
    between a l r x y h k e f = omega (arith, ints, h, k, e, f)

    by : (m n : ℤ) → (pos 2 *ℤ m -ℤ pos 1) <ℤ (pos 2 *ℤ n +ℤ pos 1) → m ≤ℤ n
    by m n h = omega (arith, ints, h)

-- exactly this number is nearest
pub nearest-is : (num den n : ℤ) → pos 0 <ℤ den → IsNearest num den n ↔ (n ≡ nearest num den)
nearest-is num den n h = (
  λ a. antisym n (nearest num den) (at_most num den n (nearest num den) h a near) (at_most num den (nearest num den) n h near a),
  λ e. subst (IsNearest num den) (sym e) near,
)
  where
    near : IsNearest num den (nearest num den)
    near = nearest-near num den h
