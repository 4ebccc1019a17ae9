-- Two points of a line along x, or along y. If no point of a facet lies between them, the rays along it from both hit the facet
-- alike.
use Rattle.std.proofs.Common.{◌+◌, ◌≡◌, ◌⊎◌, inl, inr, ℕ, [], ◌∷◌, ℤ, pos, negsuc, ◌+ℤ◌, ◌-ℤ◌, ◌*ℤ◌, neg_ℤ, ◌≤ℤ◌, ◌<ℤ◌, refl, sym, ◌∙◌, ap, subst, arith}
use Rattle.std.proofs.lemmas.Int.{ints}
use lib.IntN.{+ℤ_comm}
use Rattle.exact_int.proofs.lemmas.Identity.{reads, identity}
use Rattle.exact_int.proofs.lemmas.Signs.{weak, weak_below, neg_not_negative, at_most_or_above, not_both, at_most_from_not_above, add_not_negative, add_positive_right, neg_right, two_negs, difference_from_lt, difference_from_le}
use Rattle.geometry.specs.Point.{Point}
use Rattle.geometry.specs.Facet.{Facet}
use Rattle.geometry.specs.Winding.{hit, wind, left, volume, hit_y, wind_y}
use Rattle.std.proofs.Common.{Bool, true, false, int_lt, if◌then◌else◌}
use Rattle.geometry.specs.Touch.{Between}
use Rattle.exact_cut.specs.Crossing.{Crosses}
use Rattle.exact_cut.specs.Cut.{start, finish, Rises}
use Rattle.exact_cut.specs.CutPoint.{cut_x, cut_y, cut_d}
use Rattle.exact_cut.proofs.lemmas.Winds.{Passes, passes, den_of, num_of}
use Rattle.exact_cut.proofs.lemmas.Ahead.{WindCase, winds_up, winds_down, winds_not, wind_case, crosses, cut-left, cut-left_down, Sides, all_below, all_above, between, sides, wind-below, wind-above}
use Rattle.exact_cut.proofs.lemmas.Hitting.{hit-wind, hit-zero}
use Rattle.exact_cut.proofs.lemmas.Quadrants.{ahead_only, taken_none}
use Rattle.exact_cut.proofs.lemmas.Rays.{hit-taken, hit_y-taken}
use Rattle.exact_cut.proofs.lemmas.Touching.{on_a, on_b, on_c, not_negative_a, not_negative_b, not_negative_c, m1, n1, m2, n2, m1_in, n1_in, m2_in, n2_in, total, corners}

-- by whole numbers that are not negative
between_from : (t : Facet) (p q : Point) (l m n i j : ℤ) → pos 0 ≤ℤ l → pos 0 ≤ℤ m → pos 0 ≤ℤ n → pos 0 <ℤ (l +ℤ m +ℤ n) → pos 0 ≤ℤ i → pos 0 ≤ℤ j → pos 0 <ℤ (i +ℤ j)
    → (i +ℤ j) *ℤ (l *ℤ t.a.x +ℤ m *ℤ t.b.x +ℤ n *ℤ t.c.x) ≡ (l +ℤ m +ℤ n) *ℤ (i *ℤ p.x +ℤ j *ℤ q.x)
    → (i +ℤ j) *ℤ (l *ℤ t.a.y +ℤ m *ℤ t.b.y +ℤ n *ℤ t.c.y) ≡ (l +ℤ m +ℤ n) *ℤ (i *ℤ p.y +ℤ j *ℤ q.y)
    → (i +ℤ j) *ℤ (l *ℤ t.a.z +ℤ m *ℤ t.b.z +ℤ n *ℤ t.c.z) ≡ (l +ℤ m +ℤ n) *ℤ (i *ℤ p.z +ℤ j *ℤ q.z) → Between t p q
between_from t p q (pos l) (pos m) (pos n) (pos i) (pos j) a b c s f g h x y z =
    record { of_a = l; of_b = m; of_c = n; some = omega (arith, ints); of_p = i; of_q = j; some_end = omega (arith, ints); mean_x = x; mean_y = y; mean_z = z }
between_from t p q (pos l) (pos m) (pos n) (pos i) (negsuc j) a b c s f g h x y z = absurd (omega (arith, ints))
between_from t p q (pos l) (pos m) (pos n) (negsuc i) j a b c s f g h x y z = absurd (omega (arith, ints))
between_from t p q (pos l) (pos m) (negsuc n) i j a b c s f g h x y z = absurd (omega (arith, ints))
between_from t p q (pos l) (negsuc m) n i j a b c s f g h x y z = absurd (omega (arith, ints))
between_from t p q (negsuc l) m n i j a b c s f g h x y z = absurd (omega (arith, ints))

-- the point (num / den, y, z) of a facet: weights of the corners that sum up to den
pub record Mean (t : Facet) (num den y z : ℤ) : Type 0 where
  pub l : ℤ
  pub m : ℤ
  pub n : ℤ
  pub l_in : pos 0 ≤ℤ l
  pub m_in : pos 0 ≤ℤ m
  pub n_in : pos 0 ≤ℤ n
  pub total : l +ℤ m +ℤ n ≡ den
  pub mean_x : l *ℤ t.a.x +ℤ m *ℤ t.b.x +ℤ n *ℤ t.c.x ≡ num
  pub mean_y : l *ℤ t.a.y +ℤ m *ℤ t.b.y +ℤ n *ℤ t.c.y ≡ den *ℤ y
  pub mean_z : l *ℤ t.a.z +ℤ m *ℤ t.b.z +ℤ n *ℤ t.c.z ≡ den *ℤ z

-- where it lies from x1 to x2
mean-between : (t : Facet) (num den y z x1 x2 : ℤ) → pos 0 <ℤ den → Mean t num den y z → (x1 *ℤ den) <ℤ num → num ≤ℤ (x2 *ℤ den) → Between t (record { x = x1; y = y; z = z }) (record { x = x2; y = y; z = z })
mean-between t num den y z x1 x2 h k a b =
    between_from t (record { x = x1; y = y; z = z }) (record { x = x2; y = y; z = z }) k.l k.m k.n i j k.l_in k.m_in k.n_in (subst (λ e. pos 0 <ℤ e) (sym k.total) h) (difference_from_le num (x2 *ℤ den) b) (weak j (difference_from_lt (x1 *ℤ den) num a)) (add_positive_right i j (difference_from_le num (x2 *ℤ den) b) (difference_from_lt (x1 *ℤ den) num a))
    (ap (λ e. (i +ℤ j) *ℤ e) k.mean_x ∙ along-x x1 x2 num den ∙ ap (λ e. e *ℤ (i *ℤ x1 +ℤ j *ℤ x2)) (sym k.total))
    (ap (λ e. (i +ℤ j) *ℤ e) k.mean_y ∙ along-y i j den y ∙ ap (λ e. e *ℤ (i *ℤ y +ℤ j *ℤ y)) (sym k.total))
    (ap (λ e. (i +ℤ j) *ℤ e) k.mean_z ∙ along-y i j den z ∙ ap (λ e. e *ℤ (i *ℤ z +ℤ j *ℤ z)) (sym k.total))
  where
    i : ℤ
    i = x2 *ℤ den -ℤ num

    j : ℤ
    j = num -ℤ x1 *ℤ den

    along-x : (x1 x2 num den : ℤ) → ((x2 *ℤ den -ℤ num) +ℤ (num -ℤ x1 *ℤ den)) *ℤ num ≡ den *ℤ ((x2 *ℤ den -ℤ num) *ℤ x1 +ℤ (num -ℤ x1 *ℤ den) *ℤ x2)
    along-x x1 x2 num den = identity (x1 ∷ x2 ∷ num ∷ den ∷ []) (search reads depth 40) refl

    along-y : (i j den y : ℤ) → (i +ℤ j) *ℤ (den *ℤ y) ≡ den *ℤ (i *ℤ y +ℤ j *ℤ y)
    along-y i j den y = identity (i ∷ j ∷ den ∷ y ∷ []) (search reads depth 40) refl

-- ---- the point where the facet's plane is crossed
down-sum : (k s1 r1 s r z : ℤ) → (k *ℤ (z -ℤ r1)) *ℤ s +ℤ (k *ℤ (s1 -ℤ z)) *ℤ r ≡ k *ℤ (r *ℤ (s1 -ℤ z) +ℤ s *ℤ (z -ℤ r1))
down-sum k s1 r1 s r z = identity (k ∷ s1 ∷ r1 ∷ s ∷ r ∷ z ∷ []) (search reads depth 40 fits 5000) refl

up-sum : (k p1 q1 p q z : ℤ) → (k *ℤ (q1 -ℤ z)) *ℤ p +ℤ (k *ℤ (z -ℤ p1)) *ℤ q ≡ k *ℤ (p *ℤ (q1 -ℤ z) +ℤ q *ℤ (z -ℤ p1))
up-sum k p1 q1 p q z = identity (k ∷ p1 ∷ q1 ∷ p ∷ q ∷ z ∷ []) (search reads depth 40 fits 5000) refl

cuts-sum : (k1 k2 s1 r1 s r p1 q1 p q z : ℤ)
    → ((k1 *ℤ (z -ℤ r1)) *ℤ s +ℤ (k1 *ℤ (s1 -ℤ z)) *ℤ r) +ℤ ((k2 *ℤ (q1 -ℤ z)) *ℤ p +ℤ (k2 *ℤ (z -ℤ p1)) *ℤ q)
    ≡ k1 *ℤ (r *ℤ (s1 -ℤ z) +ℤ s *ℤ (z -ℤ r1)) +ℤ k2 *ℤ (p *ℤ (q1 -ℤ z) +ℤ q *ℤ (z -ℤ p1))
cuts-sum k1 k2 s1 r1 s r p1 q1 p q z = λ i. down-sum k1 s1 r1 s r z i +ℤ up-sum k2 p1 q1 p q z i

spans-sum : (k1 k2 s1 r1 p1 q1 z : ℤ) → ((k1 *ℤ (z -ℤ r1)) +ℤ (k1 *ℤ (s1 -ℤ z))) +ℤ ((k2 *ℤ (q1 -ℤ z)) +ℤ (k2 *ℤ (z -ℤ p1))) ≡ k1 *ℤ (s1 -ℤ r1) +ℤ k2 *ℤ (q1 -ℤ p1)
spans-sum k1 k2 s1 r1 p1 q1 z = identity (k1 ∷ k2 ∷ s1 ∷ r1 ∷ p1 ∷ q1 ∷ z ∷ []) (search reads depth 40 fits 5000) refl

levels-sum : (k1 k2 s1 r1 p1 q1 z : ℤ) → k1 *ℤ (r1 *ℤ (s1 -ℤ z) +ℤ s1 *ℤ (z -ℤ r1)) +ℤ k2 *ℤ (p1 *ℤ (q1 -ℤ z) +ℤ q1 *ℤ (z -ℤ p1)) ≡ (k1 *ℤ (s1 -ℤ r1) +ℤ k2 *ℤ (q1 -ℤ p1)) *ℤ z
levels-sum k1 k2 s1 r1 p1 q1 z = identity (k1 ∷ k2 ∷ s1 ∷ r1 ∷ p1 ∷ q1 ∷ z ∷ []) (search reads depth 40 fits 5000) refl

-- a, b, e and c, d, f stand for the cut points (a/e, b/e) and (c/f, d/f)
num-weights : (a b e c d f y w : ℤ) → (w *ℤ (d -ℤ y *ℤ f)) *ℤ a +ℤ neg_ℤ (w *ℤ (b -ℤ y *ℤ e)) *ℤ c ≡ w *ℤ (a *ℤ d -ℤ b *ℤ c +ℤ y *ℤ (c *ℤ e -ℤ a *ℤ f))
num-weights a b e c d f y w = identity (a ∷ b ∷ e ∷ c ∷ d ∷ f ∷ y ∷ w ∷ []) (search reads depth 40 fits 5000) refl

scan-weights : (b e d f y w : ℤ) → (w *ℤ (d -ℤ y *ℤ f)) *ℤ b +ℤ neg_ℤ (w *ℤ (b -ℤ y *ℤ e)) *ℤ d ≡ (w *ℤ (d *ℤ e -ℤ b *ℤ f)) *ℤ y
scan-weights b e d f y w = identity (b ∷ e ∷ d ∷ f ∷ y ∷ w ∷ []) (search reads depth 40 fits 5000) refl

den-weights : (b e d f y w : ℤ) → (w *ℤ (d -ℤ y *ℤ f)) *ℤ e +ℤ neg_ℤ (w *ℤ (b -ℤ y *ℤ e)) *ℤ f ≡ w *ℤ (d *ℤ e -ℤ b *ℤ f)
den-weights b e d f y w = identity (b ∷ e ∷ d ∷ f ∷ y ∷ w ∷ []) (search reads depth 40 fits 5000) refl

module _ (t : Facet) (y z w : ℤ) (d u : ℕ) (falls : Rises (finish t d) (start t d) z) (rises : Rises (start t u) (finish t u) z)
    (h1 : pos 0 ≤ℤ (w *ℤ (cut_y (start t u) (finish t u) z -ℤ y *ℤ cut_d (start t u) (finish t u))))
    (h2 : pos 0 ≤ℤ neg_ℤ (w *ℤ (cut_y (finish t d) (start t d) z -ℤ y *ℤ cut_d (finish t d) (start t d)))) where
  abbrev at : Point
  at = record { x = pos 0; y = y; z = z }

  abbrev k1 : ℤ
  k1 = w *ℤ (cut_y (start t u) (finish t u) z -ℤ y *ℤ cut_d (start t u) (finish t u))

  abbrev k2 : ℤ
  k2 = neg_ℤ (w *ℤ (cut_y (finish t d) (start t d) z -ℤ y *ℤ cut_d (finish t d) (start t d)))

  abbrev i1 : ℤ
  i1 = m1 t at d u falls rises k1 k2 h1 h2

  abbrev j1 : ℤ
  j1 = n1 t at d u falls rises k1 k2 h1 h2

  abbrev i2 : ℤ
  i2 = m2 t at d u falls rises k1 k2 h1 h2

  abbrev j2 : ℤ
  j2 = n2 t at d u falls rises k1 k2 h1 h2

  abbrev r : Point
  r = finish t d

  abbrev s : Point
  s = start t d

  abbrev p : Point
  p = start t u

  abbrev q : Point
  q = finish t u

  whole : k1 *ℤ cut_d r s +ℤ k2 *ℤ cut_d p q ≡ w *ℤ den_of r s p q z
  whole = den-weights (cut_y r s z) (cut_d r s) (cut_y p q z) (cut_d p q) y w

  pub crossing-mean : Mean t (w *ℤ num_of r s p q y z) (w *ℤ den_of r s p q z) y z
  crossing-mean = record {
    l = on_a d i1 j1 +ℤ on_a u i2 j2;
    m = on_b d i1 j1 +ℤ on_b u i2 j2;
    n = on_c d i1 j1 +ℤ on_c u i2 j2;
    l_in = add_not_negative _ _ (not_negative_a d i1 j1 (m1_in t at d u falls rises k1 k2 h1 h2) (n1_in t at d u falls rises k1 k2 h1 h2)) (not_negative_a u i2 j2 (m2_in t at d u falls rises k1 k2 h1 h2) (n2_in t at d u falls rises k1 k2 h1 h2));
    m_in = add_not_negative _ _ (not_negative_b d i1 j1 (m1_in t at d u falls rises k1 k2 h1 h2) (n1_in t at d u falls rises k1 k2 h1 h2)) (not_negative_b u i2 j2 (m2_in t at d u falls rises k1 k2 h1 h2) (n2_in t at d u falls rises k1 k2 h1 h2));
    n_in = add_not_negative _ _ (not_negative_c d i1 j1 (m1_in t at d u falls rises k1 k2 h1 h2) (n1_in t at d u falls rises k1 k2 h1 h2)) (not_negative_c u i2 j2 (m2_in t at d u falls rises k1 k2 h1 h2) (n2_in t at d u falls rises k1 k2 h1 h2));
    total = total t at d u falls rises k1 k2 h1 h2 ∙ spans-sum k1 k2 s.z r.z p.z q.z z ∙ whole;
    mean_x = corners t at d u falls rises k1 k2 h1 h2 (λ o. o.x) ∙ cuts-sum k1 k2 s.z r.z s.x r.x p.z q.z p.x q.x z ∙ num-weights (cut_x r s z) (cut_y r s z) (cut_d r s) (cut_x p q z) (cut_y p q z) (cut_d p q) y w;
    mean_y = corners t at d u falls rises k1 k2 h1 h2 (λ o. o.y) ∙ cuts-sum k1 k2 s.z r.z s.y r.y p.z q.z p.y q.y z ∙ scan-weights (cut_y r s z) (cut_d r s) (cut_y p q z) (cut_d p q) y w;
    mean_z = corners t at d u falls rises k1 k2 h1 h2 (λ o. o.z) ∙ cuts-sum k1 k2 s.z r.z s.z r.z p.z q.z p.z q.z z ∙ levels-sum k1 k2 s.z r.z p.z q.z z ∙ ap (λ o. o *ℤ z) whole;
  }

-- ---- the step
one_of : (w a : ℤ) → w ≡ pos 1 → pos 0 ≤ℤ a → pos 0 ≤ℤ (w *ℤ a)
one_of w a e h = subst (λ i. pos 0 ≤ℤ i) (identity (a ∷ []) (search reads depth 40) refl ∙ ap (λ i. i *ℤ a) (sym e)) h

minus_of : (w a : ℤ) → w ≡ negsuc 0 → a ≤ℤ pos 0 → pos 0 ≤ℤ (w *ℤ a)
minus_of w a e h = subst (λ i. pos 0 ≤ℤ i) (identity (a ∷ []) (search reads depth 40) refl ∙ ap (λ i. i *ℤ a) (sym e)) (neg_not_negative a h)

swapped : (c m : ℤ) → m -ℤ c ≡ neg_ℤ (c -ℤ m)
swapped c m = identity (c ∷ m ∷ []) (search reads depth 40) refl

-- w is 0, or both weights are at least 0
weights_in : (w lu ld yu yd : ℤ) → WindCase w lu ld → lu ≡ yu → ld ≡ neg_ℤ yd → (w ≡ pos 0) ⊎ ((pos 0 ≤ℤ (w *ℤ yu)) × (pos 0 ≤ℤ neg_ℤ (w *ℤ yd)))
weights_in w lu ld yu yd (winds_up e a b) f g =
    inr (one_of w yu e (weak yu (subst (λ i. pos 0 <ℤ i) f a)), subst (λ i. pos 0 ≤ℤ i) (neg_right w yd) (one_of w (neg_ℤ yd) e (subst (λ i. pos 0 ≤ℤ i) g b)))
weights_in w lu ld yu yd (winds_down e a b) f g =
    inr (minus_of w yu e (subst (λ i. i ≤ℤ pos 0) f a), subst (λ i. pos 0 ≤ℤ i) (neg_right w yd) (minus_of w (neg_ℤ yd) e (weak_below (neg_ℤ yd) (subst (λ i. i <ℤ pos 0) g b))))
weights_in w lu ld yu yd (winds_not e) f g = inl e

pub no_hit : (t : Facet) (p : Point) → wind t p.y p.z ≡ pos 0 → hit t p ≡ pos 0
no_hit t p e = hit-taken t p ∙ taken_none (wind t p.y p.z) (volume t p) e

-- between is the same both ways
ends-swapped : (m n : ℕ) → m + n ≡ n + m
ends-swapped m n = omega arith

flipped : (m n : ℕ) (l w a b : ℤ) → pos (m + n) *ℤ l ≡ w *ℤ (a +ℤ b) → pos (n + m) *ℤ l ≡ w *ℤ (b +ℤ a)
flipped m n l w a b e = ap (λ i. pos i *ℤ l) (ends-swapped n m) ∙ e ∙ ap (λ i. w *ℤ i) (+ℤ_comm a b)

between-flip : (t : Facet) (p q : Point) → Between t p q → Between t q p
between-flip t p q b = record {
  of_a = b.of_a;
  of_b = b.of_b;
  of_c = b.of_c;
  some = b.some;
  of_p = b.of_q;
  of_q = b.of_p;
  some_end = let h = b.some_end in omega arith;
  mean_x = flipped b.of_p b.of_q (pos b.of_a *ℤ t.a.x +ℤ pos b.of_b *ℤ t.b.x +ℤ pos b.of_c *ℤ t.c.x) (pos (b.of_a + b.of_b + b.of_c)) (pos b.of_p *ℤ p.x) (pos b.of_q *ℤ q.x) b.mean_x;
  mean_y = flipped b.of_p b.of_q (pos b.of_a *ℤ t.a.y +ℤ pos b.of_b *ℤ t.b.y +ℤ pos b.of_c *ℤ t.c.y) (pos (b.of_a + b.of_b + b.of_c)) (pos b.of_p *ℤ p.y) (pos b.of_q *ℤ q.y) b.mean_y;
  mean_z = flipped b.of_p b.of_q (pos b.of_a *ℤ t.a.z +ℤ pos b.of_b *ℤ t.b.z +ℤ pos b.of_c *ℤ t.c.z) (pos (b.of_a + b.of_b + b.of_c)) (pos b.of_p *ℤ p.z) (pos b.of_q *ℤ q.z) b.mean_z;
}

-- if no point of the facet lies between two points that differ in x alone, it has one hit at both
pub step-x : (t : Facet) (x1 x2 y z : ℤ) → (Between t (record { x = x1; y = y; z = z }) (record { x = x2; y = y; z = z }) → ⊥)
    → hit t (record { x = x1; y = y; z = z }) ≡ hit t (record { x = x2; y = y; z = z })
step-x t x1 x2 y z n = by (sides t z)
  where
    one : Point
    one = record { x = x1; y = y; z = z }

    two : Point
    two = record { x = x2; y = y; z = z }

    still : wind t y z ≡ pos 0 → hit t one ≡ hit t two
    still e = no_hit t one e ∙ sym (no_hit t two e)

    crossed : (num den : ℤ) → Crosses t y z (wind t y z) num den → Mean t num den y z → (num ≤ℤ (x1 *ℤ den)) ⊎ ((x1 *ℤ den) <ℤ num) → (num ≤ℤ (x2 *ℤ den)) ⊎ ((x2 *ℤ den) <ℤ num) → hit t one ≡ hit t two
    crossed num den c k (inl a) (inl b) =
        hit-zero t one (at_most_from_not_above (pos 0) (wind t y z *ℤ volume t one) (λ l. not_both (x1 *ℤ den) num ((c.ahead_of x1).1 l) a))
        ∙ sym (hit-zero t two (at_most_from_not_above (pos 0) (wind t y z *ℤ volume t two) (λ l. not_both (x2 *ℤ den) num ((c.ahead_of x2).1 l) b)))
    crossed num den c k (inr a) (inr b) = hit-wind t one ((c.ahead_of x1).0 a) ∙ sym (hit-wind t two ((c.ahead_of x2).0 b))
    crossed num den c k (inr a) (inl b) = absurd (n (mean-between t num den y z x1 x2 c.den_positive k a b))
    crossed num den c k (inl a) (inr b) = absurd (n (between-flip t two one (mean-between t num den y z x2 x1 c.den_positive k b a)))

    cut : (d u : ℕ) (falls : Rises (finish t d) (start t d) z) (rises : Rises (start t u) (finish t u) z) → hit t one ≡ hit t two
    cut d u falls rises = go (weights_in w (left p q y z) (left s r y z) yu yd (wind_case t r s p q y z h) (cut-left p q y z) (cut-left_down r s y z ∙ swapped (cut_y r s z) (y *ℤ cut_d r s))) (crosses t r s p q y z h)
      where
        w : ℤ
        w = wind t y z

        r : Point
        r = finish t d

        s : Point
        s = start t d

        p : Point
        p = start t u

        q : Point
        q = finish t u

        yu : ℤ
        yu = cut_y p q z -ℤ y *ℤ cut_d p q

        yd : ℤ
        yd = cut_y r s z -ℤ y *ℤ cut_d r s

        h : Passes t r s p q z
        h = passes t z d u falls rises

        go : (w ≡ pos 0) ⊎ ((pos 0 ≤ℤ (w *ℤ yu)) × (pos 0 ≤ℤ neg_ℤ (w *ℤ yd))) → (w ≡ pos 0) ⊎ Crosses t y z w (w *ℤ num_of r s p q y z) (w *ℤ den_of r s p q z) → hit t one ≡ hit t two
        go (inl e) k = still e
        go (inr a) (inl e) = still e
        go (inr a) (inr c) =
            crossed (w *ℤ num_of r s p q y z) (w *ℤ den_of r s p q z) c (crossing-mean t y z w d u falls rises a.0 a.1)
            (at_most_or_above (w *ℤ num_of r s p q y z) (x1 *ℤ (w *ℤ den_of r s p q z))) (at_most_or_above (w *ℤ num_of r s p q y z) (x2 *ℤ (w *ℤ den_of r s p q z)))

    by : Sides t z → hit t one ≡ hit t two
    by (all_below a b c) = still (wind-below t y z a b c)
    by (all_above a b c) = still (wind-above t y z a b c)
    by (between d u falls rises) = cut d u falls rises

-- ---- along y: the same with x and y exchanged
abbrev pub swap : Point → Point
swap p = record { x = p.y; y = p.x; z = p.z }

abbrev pub swap_tri : Facet → Facet
swap_tri t = record { a = swap t.a; b = swap t.b; c = swap t.c }

between-swap : (t : Facet) (p q : Point) → Between (swap_tri t) (swap p) (swap q) → Between t p q
between-swap t p q b = record { of_a = b.of_a; of_b = b.of_b; of_c = b.of_c; some = b.some; of_p = b.of_p; of_q = b.of_q; some_end = b.some_end; mean_x = b.mean_y; mean_y = b.mean_x; mean_z = b.mean_z }

wind-swap : (t : Facet) (x z : ℤ) → wind_y t x z ≡ neg_ℤ (wind (swap_tri t) x z)
unfolding wind wind_y
wind-swap t x z = refl

vol-swap : (t : Facet) (c : Point) → volume t c ≡ neg_ℤ (volume (swap_tri t) (swap c))
vol-swap t c = identity (t.a.x ∷ t.a.y ∷ t.a.z ∷ t.b.x ∷ t.b.y ∷ t.b.z ∷ t.c.x ∷ t.c.y ∷ t.c.z ∷ c.x ∷ c.y ∷ c.z ∷ []) (search reads depth 40 fits 5000) refl

chosen-neg : (k w : ℤ) → (if int_lt (pos 0) k then neg_ℤ w else pos 0) ≡ neg_ℤ (if int_lt (pos 0) k then w else pos 0)
chosen-neg k w = by (int_lt (pos 0) k)
  where
    by : (b : Bool) → (if b then neg_ℤ w else pos 0) ≡ neg_ℤ (if b then w else pos 0)
    by true = refl
    by false = refl

pub taken-neg : (w v : ℤ) → ahead_only (neg_ℤ w) (neg_ℤ v) ≡ neg_ℤ (ahead_only w v)
taken-neg w v = chosen-neg (neg_ℤ w *ℤ neg_ℤ v) w ∙ ap (λ k. neg_ℤ (if int_lt (pos 0) k then w else pos 0)) (two_negs w v)

pub hit-swap : (t : Facet) (c : Point) → hit_y t c ≡ neg_ℤ (hit (swap_tri t) (swap c))
hit-swap t c = hit_y-taken t c ∙ (λ i. ahead_only (wind-swap t c.x c.z i) (vol-swap t c i)) ∙ taken-neg (wind (swap_tri t) c.x c.z) (volume (swap_tri t) (swap c)) ∙ ap neg_ℤ (sym (hit-taken (swap_tri t) (swap c)))

pub step-y : (t : Facet) (x y1 y2 z : ℤ) → (Between t (record { x = x; y = y1; z = z }) (record { x = x; y = y2; z = z }) → ⊥)
    → hit_y t (record { x = x; y = y1; z = z }) ≡ hit_y t (record { x = x; y = y2; z = z })
step-y t x y1 y2 z n =
    hit-swap t (record { x = x; y = y1; z = z })
    ∙ ap neg_ℤ (step-x (swap_tri t) y1 y2 x z (λ b. n (between-swap t (record { x = x; y = y1; z = z }) (record { x = x; y = y2; z = z }) b)))
    ∙ sym (hit-swap t (record { x = x; y = y2; z = z }))
