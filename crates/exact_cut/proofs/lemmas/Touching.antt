-- If the two cut points of a facet lie on opposite sides of a point, the facet touches the point.
use Rattle.std.proofs.Common.{◌≡◌, ℕ, zero, suc, [], ◌∷◌, ℤ, pos, negsuc, ◌+ℤ◌, ◌-ℤ◌, ◌*ℤ◌, neg_ℤ, ◌≤ℤ◌, ◌<ℤ◌, refl, sym, ◌∙◌, ap, subst, arith}
use Rattle.std.proofs.lemmas.Int.{ints}
use Rattle.exact_int.proofs.lemmas.Identity.{reads, identity}
use Rattle.exact_int.proofs.lemmas.Signs.{weak, neg_not_negative, add_not_negative, add_positive_left, add_positive_right, mul_positive, mul_not_negative, difference_from_lt, difference_from_le}
use Rattle.exact_int.proofs.lemmas.Laws.{three_zeros}
use Rattle.geometry.specs.Point.{Point}
use Rattle.geometry.specs.Facet.{Facet}
use Rattle.geometry.specs.Winding.{hit, wind, turn, hit_y, wind_y, turn_x}
use Rattle.exact_cut.proofs.lemmas.Turns.{turn-opposite, turn_x-opposite}
use Rattle.geometry.specs.Touch.{Touches}
use Rattle.exact_cut.specs.Laws.{corner_turn, where_not_zero}
use Rattle.exact_cut.specs.Cut.{start, finish, Rises}
use Rattle.exact_cut.specs.CutPoint.{cut_x, cut_y, cut_d}
use Rattle.exact_cut.proofs.lemmas.Winds.{passes, Quiet}
use Rattle.exact_cut.proofs.lemmas.Quadrants.{taken_none}
use Rattle.exact_cut.proofs.lemmas.Ahead.{Sides, all_below, all_above, between, sides, wind-below, wind-above}
use Rattle.exact_cut.proofs.lemmas.Rays.{Apart, hits-differ, hit-taken, hit_y-taken, wind_y-is, corner-quiet, turn_x-quiet}

-- by whole numbers that are not negative
pub touches_from : (t : Facet) (p : Point) (l m n : ℤ) → pos 0 ≤ℤ l → pos 0 ≤ℤ m → pos 0 ≤ℤ n → pos 0 <ℤ (l +ℤ m +ℤ n)
    → l *ℤ t.a.x +ℤ m *ℤ t.b.x +ℤ n *ℤ t.c.x ≡ (l +ℤ m +ℤ n) *ℤ p.x
    → l *ℤ t.a.y +ℤ m *ℤ t.b.y +ℤ n *ℤ t.c.y ≡ (l +ℤ m +ℤ n) *ℤ p.y
    → l *ℤ t.a.z +ℤ m *ℤ t.b.z +ℤ n *ℤ t.c.z ≡ (l +ℤ m +ℤ n) *ℤ p.z → Touches t p
touches_from t p (pos l) (pos m) (pos n) a b c s x y z = record { of_a = l; of_b = m; of_c = n; some = omega (arith, ints); mean_x = x; mean_y = y; mean_z = z }
touches_from t p (pos l) (pos m) (negsuc n) a b c s x y z = absurd (omega (arith, ints))
touches_from t p (pos l) (negsuc m) n a b c s x y z = absurd (omega (arith, ints))
touches_from t p (negsuc l) m n a b c s x y z = absurd (omega (arith, ints))

-- the weights of the corners, for weights m and n of an edge's start and finish
abbrev pub on_a : ℕ → ℤ → ℤ → ℤ
on_a zero m n = m
on_a (suc zero) m n = pos 0
on_a (suc (suc e)) m n = n

abbrev pub on_b : ℕ → ℤ → ℤ → ℤ
on_b zero m n = n
on_b (suc zero) m n = m
on_b (suc (suc e)) m n = pos 0

abbrev pub on_c : ℕ → ℤ → ℤ → ℤ
on_c zero m n = pos 0
on_c (suc zero) m n = n
on_c (suc (suc e)) m n = m

weighed : (t : Facet) (e : ℕ) (m n : ℤ) (g : Point → ℤ) → on_a e m n *ℤ g t.a +ℤ on_b e m n *ℤ g t.b +ℤ on_c e m n *ℤ g t.c ≡ m *ℤ g (start t e) +ℤ n *ℤ g (finish t e)
weighed t zero m n g = identity (m ∷ n ∷ g t.a ∷ g t.b ∷ g t.c ∷ []) (search reads depth 40) refl
weighed t (suc zero) m n g = identity (m ∷ n ∷ g t.a ∷ g t.b ∷ g t.c ∷ []) (search reads depth 40) refl
weighed t (suc (suc e)) m n g = identity (m ∷ n ∷ g t.a ∷ g t.b ∷ g t.c ∷ []) (search reads depth 40) refl

summed : (e : ℕ) (m n : ℤ) → on_a e m n +ℤ on_b e m n +ℤ on_c e m n ≡ m +ℤ n
summed zero m n = identity (m ∷ n ∷ []) (search reads depth 40) refl
summed (suc zero) m n = identity (m ∷ n ∷ []) (search reads depth 40) refl
summed (suc (suc e)) m n = identity (m ∷ n ∷ []) (search reads depth 40) refl

nought : pos 0 ≤ℤ pos 0
nought = omega (arith, ints)

pub not_negative_a : (e : ℕ) (m n : ℤ) → pos 0 ≤ℤ m → pos 0 ≤ℤ n → pos 0 ≤ℤ on_a e m n
not_negative_a zero m n h k = h
not_negative_a (suc zero) m n h k = nought
not_negative_a (suc (suc e)) m n h k = k

pub not_negative_b : (e : ℕ) (m n : ℤ) → pos 0 ≤ℤ m → pos 0 ≤ℤ n → pos 0 ≤ℤ on_b e m n
not_negative_b zero m n h k = k
not_negative_b (suc zero) m n h k = h
not_negative_b (suc (suc e)) m n h k = nought

pub not_negative_c : (e : ℕ) (m n : ℤ) → pos 0 ≤ℤ m → pos 0 ≤ℤ n → pos 0 ≤ℤ on_c e m n
not_negative_c zero m n h k = nought
not_negative_c (suc zero) m n h k = k
not_negative_c (suc (suc e)) m n h k = h

-- sums over the corners
regroup : (la lb lc ma mb mc a b c : ℤ) → (la +ℤ ma) *ℤ a +ℤ (lb +ℤ mb) *ℤ b +ℤ (lc +ℤ mc) *ℤ c ≡ (la *ℤ a +ℤ lb *ℤ b +ℤ lc *ℤ c) +ℤ (ma *ℤ a +ℤ mb *ℤ b +ℤ mc *ℤ c)
regroup la lb lc ma mb mc a b c = identity (la ∷ lb ∷ lc ∷ ma ∷ mb ∷ mc ∷ a ∷ b ∷ c ∷ []) (search reads depth 40 fits 5000) refl

regroup-sum : (la lb lc ma mb mc : ℤ) → (la +ℤ ma) +ℤ (lb +ℤ mb) +ℤ (lc +ℤ mc) ≡ (la +ℤ lb +ℤ lc) +ℤ (ma +ℤ mb +ℤ mc)
regroup-sum la lb lc ma mb mc = identity (la ∷ lb ∷ lc ∷ ma ∷ mb ∷ mc ∷ []) (search reads depth 40 fits 5000) refl

-- k times the cut point of the edge down, along one axis, as it lies from the coordinate g, and the same of the edge up
down-split : (k s1 r1 s r z g : ℤ) → (k *ℤ (z -ℤ r1)) *ℤ s +ℤ (k *ℤ (s1 -ℤ z)) *ℤ r
    ≡ (k *ℤ (z -ℤ r1) +ℤ k *ℤ (s1 -ℤ z)) *ℤ g +ℤ k *ℤ ((r *ℤ (s1 -ℤ z) +ℤ s *ℤ (z -ℤ r1)) -ℤ g *ℤ (s1 -ℤ r1))
down-split k s1 r1 s r z g = identity (k ∷ s1 ∷ r1 ∷ s ∷ r ∷ z ∷ g ∷ []) (search reads depth 40 fits 5000) refl

up-split : (k p1 q1 p q z g : ℤ) → (k *ℤ (q1 -ℤ z)) *ℤ p +ℤ (k *ℤ (z -ℤ p1)) *ℤ q
    ≡ (k *ℤ (q1 -ℤ z) +ℤ k *ℤ (z -ℤ p1)) *ℤ g +ℤ k *ℤ ((p *ℤ (q1 -ℤ z) +ℤ q *ℤ (z -ℤ p1)) -ℤ g *ℤ (q1 -ℤ p1))
up-split k p1 q1 p q z g = identity (k ∷ p1 ∷ q1 ∷ p ∷ q ∷ z ∷ g ∷ []) (search reads depth 40 fits 5000) refl

gathered : (a b g m n : ℤ) → (a *ℤ g +ℤ m) +ℤ (b *ℤ g +ℤ n) ≡ (a +ℤ b) *ℤ g +ℤ (m +ℤ n)
gathered a b g m n = identity (a ∷ b ∷ g ∷ m ∷ n ∷ []) (search reads depth 40) refl

-- k1 times the cut point of the edge down and k2 times that of the edge up, along one axis, if they cancel from the point's
-- coordinate g
balanced : (k1 k2 s1 r1 s r p1 q1 p q z g : ℤ) → k1 *ℤ ((r *ℤ (s1 -ℤ z) +ℤ s *ℤ (z -ℤ r1)) -ℤ g *ℤ (s1 -ℤ r1)) +ℤ k2 *ℤ ((p *ℤ (q1 -ℤ z) +ℤ q *ℤ (z -ℤ p1)) -ℤ g *ℤ (q1 -ℤ p1)) ≡ pos 0
    → ((k1 *ℤ (z -ℤ r1)) *ℤ s +ℤ (k1 *ℤ (s1 -ℤ z)) *ℤ r) +ℤ ((k2 *ℤ (q1 -ℤ z)) *ℤ p +ℤ (k2 *ℤ (z -ℤ p1)) *ℤ q)
    ≡ (((k1 *ℤ (z -ℤ r1)) +ℤ (k1 *ℤ (s1 -ℤ z))) +ℤ ((k2 *ℤ (q1 -ℤ z)) +ℤ (k2 *ℤ (z -ℤ p1)))) *ℤ g
balanced k1 k2 s1 r1 s r p1 q1 p q z g e = by e
  where
    left : ℤ
    left = ((k1 *ℤ (z -ℤ r1)) *ℤ s +ℤ (k1 *ℤ (s1 -ℤ z)) *ℤ r) +ℤ ((k2 *ℤ (q1 -ℤ z)) *ℤ p +ℤ (k2 *ℤ (z -ℤ p1)) *ℤ q)

    right : ℤ
    right = (((k1 *ℤ (z -ℤ r1)) +ℤ (k1 *ℤ (s1 -ℤ z))) +ℤ ((k2 *ℤ (q1 -ℤ z)) +ℤ (k2 *ℤ (z -ℤ p1)))) *ℤ g

    rest : ℤ
    rest = k1 *ℤ ((r *ℤ (s1 -ℤ z) +ℤ s *ℤ (z -ℤ r1)) -ℤ g *ℤ (s1 -ℤ r1)) +ℤ k2 *ℤ ((p *ℤ (q1 -ℤ z) +ℤ q *ℤ (z -ℤ p1)) -ℤ g *ℤ (q1 -ℤ p1))

    split : left ≡ right +ℤ rest
    split =
        (λ i. down-split k1 s1 r1 s r z g i +ℤ up-split k2 p1 q1 p q z g i)
        ∙ gathered (k1 *ℤ (z -ℤ r1) +ℤ k1 *ℤ (s1 -ℤ z)) (k2 *ℤ (q1 -ℤ z) +ℤ k2 *ℤ (z -ℤ p1)) g
        (k1 *ℤ ((r *ℤ (s1 -ℤ z) +ℤ s *ℤ (z -ℤ r1)) -ℤ g *ℤ (s1 -ℤ r1))) (k2 *ℤ ((p *ℤ (q1 -ℤ z) +ℤ q *ℤ (z -ℤ p1)) -ℤ g *ℤ (q1 -ℤ p1)))

    drop : (a b : ℤ) → b ≡ pos 0 → a +ℤ b ≡ a
    drop a b e = omega (arith, ints)

    by : rest ≡ pos 0 → left ≡ right
    by e = split ∙ drop right rest e

level : (k1 k2 s1 r1 p1 q1 z : ℤ) → k1 *ℤ ((r1 *ℤ (s1 -ℤ z) +ℤ s1 *ℤ (z -ℤ r1)) -ℤ z *ℤ (s1 -ℤ r1)) +ℤ k2 *ℤ ((p1 *ℤ (q1 -ℤ z) +ℤ q1 *ℤ (z -ℤ p1)) -ℤ z *ℤ (q1 -ℤ p1)) ≡ pos 0
level k1 k2 s1 r1 p1 q1 z = identity (k1 ∷ k2 ∷ s1 ∷ r1 ∷ p1 ∷ q1 ∷ z ∷ []) (search reads depth 40 fits 5000) refl

module _ (t : Facet) (c : Point) (d u : ℕ) (falls : Rises (finish t d) (start t d) c.z) (rises : Rises (start t u) (finish t u) c.z) (k1 k2 : ℤ) (h1 : pos 0 ≤ℤ k1) (h2 : pos 0 ≤ℤ k2) where
  abbrev pub m1 : ℤ
  m1 = k1 *ℤ (c.z -ℤ (finish t d).z)

  abbrev pub n1 : ℤ
  n1 = k1 *ℤ ((start t d).z -ℤ c.z)

  abbrev pub m2 : ℤ
  m2 = k2 *ℤ ((finish t u).z -ℤ c.z)

  abbrev pub n2 : ℤ
  n2 = k2 *ℤ (c.z -ℤ (start t u).z)

  pub m1_in : pos 0 ≤ℤ m1
  m1_in = mul_not_negative k1 (c.z -ℤ (finish t d).z) h1 (difference_from_le (finish t d).z c.z falls.low)

  pub n1_in : pos 0 ≤ℤ n1
  n1_in = mul_not_negative k1 ((start t d).z -ℤ c.z) h1 (weak _ (difference_from_lt c.z (start t d).z falls.high))

  pub m2_in : pos 0 ≤ℤ m2
  m2_in = mul_not_negative k2 ((finish t u).z -ℤ c.z) h2 (weak _ (difference_from_lt c.z (finish t u).z rises.high))

  pub n2_in : pos 0 ≤ℤ n2
  n2_in = mul_not_negative k2 (c.z -ℤ (start t u).z) h2 (difference_from_le (start t u).z c.z rises.low)

  pub total : (on_a d m1 n1 +ℤ on_a u m2 n2) +ℤ (on_b d m1 n1 +ℤ on_b u m2 n2) +ℤ (on_c d m1 n1 +ℤ on_c u m2 n2) ≡ (m1 +ℤ n1) +ℤ (m2 +ℤ n2)
  total = regroup-sum (on_a d m1 n1) (on_b d m1 n1) (on_c d m1 n1) (on_a u m2 n2) (on_b u m2 n2) (on_c u m2 n2) ∙ (λ i. summed d m1 n1 i +ℤ summed u m2 n2 i)

  pub corners : (g : Point → ℤ) → (on_a d m1 n1 +ℤ on_a u m2 n2) *ℤ g t.a +ℤ (on_b d m1 n1 +ℤ on_b u m2 n2) *ℤ g t.b +ℤ (on_c d m1 n1 +ℤ on_c u m2 n2) *ℤ g t.c
      ≡ (m1 *ℤ g (start t d) +ℤ n1 *ℤ g (finish t d)) +ℤ (m2 *ℤ g (start t u) +ℤ n2 *ℤ g (finish t u))
  corners g =
      regroup (on_a d m1 n1) (on_b d m1 n1) (on_c d m1 n1) (on_a u m2 n2) (on_b u m2 n2) (on_c u m2 n2) (g t.a) (g t.b) (g t.c)
      ∙ (λ i. weighed t d m1 n1 g i +ℤ weighed t u m2 n2 g i)

  mean : (g : Point → ℤ) (at : ℤ) → (m1 *ℤ g (start t d) +ℤ n1 *ℤ g (finish t d)) +ℤ (m2 *ℤ g (start t u) +ℤ n2 *ℤ g (finish t u)) ≡ ((m1 +ℤ n1) +ℤ (m2 +ℤ n2)) *ℤ at
      → (on_a d m1 n1 +ℤ on_a u m2 n2) *ℤ g t.a +ℤ (on_b d m1 n1 +ℤ on_b u m2 n2) *ℤ g t.b +ℤ (on_c d m1 n1 +ℤ on_c u m2 n2) *ℤ g t.c
      ≡ ((on_a d m1 n1 +ℤ on_a u m2 n2) +ℤ (on_b d m1 n1 +ℤ on_b u m2 n2) +ℤ (on_c d m1 n1 +ℤ on_c u m2 n2)) *ℤ at
  mean g at e =
      regroup (on_a d m1 n1) (on_b d m1 n1) (on_c d m1 n1) (on_a u m2 n2) (on_b u m2 n2) (on_c u m2 n2) (g t.a) (g t.b) (g t.c)
      ∙ (λ i. weighed t d m1 n1 g i +ℤ weighed t u m2 n2 g i) ∙ e ∙ ap (λ x. x *ℤ at) (sym total)

  touching : pos 0 <ℤ (n1 +ℤ m2)
      → k1 *ℤ (cut_x (finish t d) (start t d) c.z -ℤ c.x *ℤ cut_d (finish t d) (start t d)) +ℤ k2 *ℤ (cut_x (start t u) (finish t u) c.z -ℤ c.x *ℤ cut_d (start t u) (finish t u)) ≡ pos 0
      → k1 *ℤ (cut_y (finish t d) (start t d) c.z -ℤ c.y *ℤ cut_d (finish t d) (start t d)) +ℤ k2 *ℤ (cut_y (start t u) (finish t u) c.z -ℤ c.y *ℤ cut_d (start t u) (finish t u)) ≡ pos 0
      → Touches t c
  touching some ex ey =
      touches_from t c (on_a d m1 n1 +ℤ on_a u m2 n2) (on_b d m1 n1 +ℤ on_b u m2 n2) (on_c d m1 n1 +ℤ on_c u m2 n2)
      (add_not_negative (on_a d m1 n1) (on_a u m2 n2) (not_negative_a d m1 n1 m1_in n1_in) (not_negative_a u m2 n2 m2_in n2_in))
      (add_not_negative (on_b d m1 n1) (on_b u m2 n2) (not_negative_b d m1 n1 m1_in n1_in) (not_negative_b u m2 n2 m2_in n2_in))
      (add_not_negative (on_c d m1 n1) (on_c u m2 n2) (not_negative_c d m1 n1 m1_in n1_in) (not_negative_c u m2 n2 m2_in n2_in))
      (subst (λ x. pos 0 <ℤ x) (sym total) (four m1 n1 m2 n2 m1_in n2_in some))
      (mean (λ p. p.x) c.x (balanced k1 k2 (start t d).z (finish t d).z (start t d).x (finish t d).x (start t u).z (finish t u).z (start t u).x (finish t u).x c.z c.x ex))
      (mean (λ p. p.y) c.y (balanced k1 k2 (start t d).z (finish t d).z (start t d).y (finish t d).y (start t u).z (finish t u).z (start t u).y (finish t u).y c.z c.y ey))
      (mean (λ p. p.z) c.z (balanced k1 k2 (start t d).z (finish t d).z (start t d).z (finish t d).z (start t u).z (finish t u).z (start t u).z (finish t u).z c.z c.z (level k1 k2 (start t d).z (finish t d).z (start t u).z (finish t u).z c.z)))
    where
      four : (a b c d : ℤ) → pos 0 ≤ℤ a → pos 0 ≤ℤ d → pos 0 <ℤ (b +ℤ c) → pos 0 <ℤ ((a +ℤ b) +ℤ (c +ℤ d))
      four a b c d h k l = omega (arith, ints)

-- ---- a facet that does not touch the point
opposite-1 : (a b c d : ℤ) → c *ℤ a +ℤ neg_ℤ a *ℤ c ≡ pos 0
opposite-1 a b c d = identity (a ∷ c ∷ []) (search reads depth 40) refl

opposite-2 : (a b c d : ℤ) → a *ℤ d -ℤ b *ℤ c ≡ pos 0 → c *ℤ b +ℤ neg_ℤ a *ℤ d ≡ pos 0
opposite-2 a b c d e = identity (a ∷ b ∷ c ∷ d ∷ []) (search reads depth 40) refl ∙ ap neg_ℤ e

opposite-3 : (a c : ℤ) → neg_ℤ c *ℤ a +ℤ a *ℤ c ≡ pos 0
opposite-3 a c = identity (a ∷ c ∷ []) (search reads depth 40) refl

opposite-4 : (a b c d : ℤ) → a *ℤ d -ℤ b *ℤ c ≡ pos 0 → neg_ℤ c *ℤ b +ℤ a *ℤ d ≡ pos 0
opposite-4 a b c d e = identity (a ∷ b ∷ c ∷ d ∷ []) (search reads depth 40) refl ∙ e

apart : (t : Facet) (c : Point) (d u : ℕ) → (Touches t c → ⊥) → Rises (finish t d) (start t d) c.z → Rises (start t u) (finish t u) c.z → Apart (finish t d) (start t d) (start t u) (finish t u) c.x c.y c.z
apart t c d u n falls rises = record {
  first = λ e hx hy kx ky.
      n (touching t c d u falls rises xu (neg_ℤ xd) (weak xu kx) (neg_not_negative xd hx)
      (add_positive_left (xu *ℤ ((start t d).z -ℤ c.z)) (neg_ℤ xd *ℤ ((finish t u).z -ℤ c.z)) (mul_positive xu ((start t d).z -ℤ c.z) kx (difference_from_lt c.z (start t d).z falls.high))
      (mul_not_negative (neg_ℤ xd) ((finish t u).z -ℤ c.z) (neg_not_negative xd hx) (weak _ (difference_from_lt c.z (finish t u).z rises.high))))
      (opposite-1 xd yd xu yu) (opposite-2 xd yd xu yu e));
  second = λ e hx hy kx ky.
      n (touching t c d u falls rises (neg_ℤ xu) xd (neg_not_negative xu hx) (weak xd kx)
      (add_positive_right (neg_ℤ xu *ℤ ((start t d).z -ℤ c.z)) (xd *ℤ ((finish t u).z -ℤ c.z)) (mul_not_negative (neg_ℤ xu) ((start t d).z -ℤ c.z) (neg_not_negative xu hx) (weak _ (difference_from_lt c.z (start t d).z falls.high)))
      (mul_positive xd ((finish t u).z -ℤ c.z) kx (difference_from_lt c.z (finish t u).z rises.high)))
      (opposite-3 xd xu) (opposite-4 xd yd xu yu e));
}
  where
    xu : ℤ
    xu = cut_x (start t u) (finish t u) c.z -ℤ c.x *ℤ cut_d (start t u) (finish t u)

    yu : ℤ
    yu = cut_y (start t u) (finish t u) c.z -ℤ c.y *ℤ cut_d (start t u) (finish t u)

    xd : ℤ
    xd = cut_x (finish t d) (start t d) c.z -ℤ c.x *ℤ cut_d (finish t d) (start t d)

    yd : ℤ
    yd = cut_y (finish t d) (start t d) c.z -ℤ c.y *ℤ cut_d (finish t d) (start t d)

-- if the facet has no segment at the point's height
outside : (t : Facet) (c : Point) → wind t c.y c.z ≡ pos 0 → wind_y t c.x c.z ≡ pos 0
    → corner_turn c t.a t.b ≡ pos 0 → corner_turn c t.b t.c ≡ pos 0 → corner_turn c t.c t.a ≡ pos 0
    → hit t c -ℤ hit_y t c ≡ corner_turn c t.a t.b +ℤ corner_turn c t.b t.c +ℤ corner_turn c t.c t.a
outside t c w wy e f g =
    (λ i. (hit-taken t c ∙ taken_none _ _ w) i -ℤ (hit_y-taken t c ∙ taken_none _ _ wy) i) ∙ sym (three_zeros _ _ _ e f g)

-- hit - hit_y is a sum over the facet's edges
pub ray-difference : (t : Facet) (c : Point) → (Touches t c → ⊥)
    → hit t c -ℤ hit_y t c ≡ corner_turn c t.a t.b +ℤ corner_turn c t.b t.c +ℤ corner_turn c t.c t.a
ray-difference t c n = by (sides t c.z)
  where
    k : Quiet (corner_turn c) c.z
    k = corner-quiet c

    x : Quiet (λ u v. turn_x u v c.x c.z) c.z
    x = turn_x-quiet c.x c.z

    by : Sides t c.z → hit t c -ℤ hit_y t c ≡ corner_turn c t.a t.b +ℤ corner_turn c t.b t.c +ℤ corner_turn c t.c t.a
    by (all_below a b e) =
        outside t c (wind-below t c.y c.z a b e) (wind_y-is t c.x c.z ∙ ap neg_ℤ (three_zeros _ _ _ (x.below t.a t.b a b) (x.below t.b t.c b e) (x.below t.c t.a e a)))
        (k.below t.a t.b a b) (k.below t.b t.c b e) (k.below t.c t.a e a)
    by (all_above a b e) =
        outside t c (wind-above t c.y c.z a b e) (wind_y-is t c.x c.z ∙ ap neg_ℤ (three_zeros _ _ _ (x.above t.a t.b a b) (x.above t.b t.c b e) (x.above t.c t.a e a)))
        (k.above t.a t.b a b) (k.above t.b t.c b e) (k.above t.c t.a e a)
    by (between d u falls rises) =
        hits-differ t c (finish t d) (start t d) (start t u) (finish t u) (passes t c.z d u falls rises) (apart t c d u n falls rises)

-- an edge and its opposite add opposite amounts
where-opposite : (a b : ℤ) → where_not_zero (neg_ℤ a) (neg_ℤ b) ≡ neg_ℤ (where_not_zero a b)
where-opposite a (pos zero) = refl
where-opposite a (pos (suc n)) = refl
where-opposite a (negsuc n) = refl

pub corner_turn-opposite : (c u v : Point) → corner_turn c v u ≡ neg_ℤ (corner_turn c u v)
corner_turn-opposite c u v =
    (λ i. where_not_zero (turn-opposite u v c.y c.z i) (turn_x-opposite u v c.x c.z i))
    ∙ where-opposite (turn u v c.y c.z) (turn_x u v c.x c.z)
