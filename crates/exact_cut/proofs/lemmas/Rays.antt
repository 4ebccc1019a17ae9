-- The rays along x and along y from one point. If a facet does not touch the point, their hits differ by a sum over its edges.
use Rattle.std.proofs.Common.{◌≡◌, ◌⊎◌, inl, inr, zero, suc, [], ◌∷◌, ℤ, pos, negsuc, ◌+ℤ◌, ◌-ℤ◌, ◌*ℤ◌, neg_ℤ, ◌≤ℤ◌, ◌<ℤ◌, refl, sym, ◌∙◌, ap, subst, arith}
use Rattle.std.proofs.lemmas.Int.{ints}
use Rattle.exact_int.proofs.lemmas.Identity.{reads, identity}
use Rattle.exact_int.proofs.lemmas.Signs.{clash, not_both, weak, sign_cases, mul_positive, mul_negative_right, right_of_positive}
use Rattle.geometry.specs.TieRule.{IsBelow, IsAbove}
use Rattle.geometry.specs.Point.{Point}
use Rattle.geometry.specs.Facet.{Facet}
use Rattle.geometry.specs.Winding.{left, turn_of, turn, wind, volume, normal_x, normal_y, hit, left_x, turn_x, wind_y, hit_y}
use Rattle.exact_cut.specs.Laws.{where_not_zero, corner_turn}
use Rattle.exact_cut.specs.CutPoint.{cut_x, cut_y, cut_d}
use Rattle.exact_cut.proofs.lemmas.Turns.{turn_of-up, turn_of-down, turn_of-below, turn_of-above}
use Rattle.exact_cut.proofs.lemmas.Winds.{Passes, Quiet, den_of, num_of}
use Rattle.exact_cut.proofs.lemmas.Ahead.{span_positive, cut-left, cut-left_down}
use Rattle.exact_cut.proofs.lemmas.Quadrants.{UpTurn, up_yes, up_no, DownTurn, down_yes, down_no, SameSign, both_above, both_zero, both_below, ahead_only, quadrants, quadrants-flat}

cut-left_x : (u v : Point) (x z : ℤ) → left_x u v x z ≡ cut_x u v z -ℤ x *ℤ cut_d u v
cut-left_x u v x z = identity (u.x ∷ u.z ∷ v.x ∷ v.z ∷ x ∷ z ∷ []) (search reads depth 40 fits 5000) refl

cut-left_x_down : (u v : Point) (x z : ℤ) → left_x v u x z ≡ x *ℤ cut_d u v -ℤ cut_x u v z
cut-left_x_down u v x z = identity (u.x ∷ u.z ∷ v.x ∷ v.z ∷ x ∷ z ∷ []) (search reads depth 40 fits 5000) refl

-- ---- turns by sides
up-turn : (u v z l m : ℤ) → IsBelow u z → IsAbove v z → l ≡ m → UpTurn (turn_of u v z l) m
up-turn u v z l m h k e = by (turn_of-up u v z l h k)
  where
    by : ((turn_of u v z l ≡ pos 1) × (pos 0 <ℤ l)) ⊎ ((turn_of u v z l ≡ pos 0) × (l ≤ℤ pos 0)) → UpTurn (turn_of u v z l) m
    by (inl a) = up_yes a.0 (subst (λ i. pos 0 <ℤ i) e a.1)
    by (inr a) = up_no a.0 (subst (λ i. i ≤ℤ pos 0) e a.1)

down-turn : (u v z l m c : ℤ) → IsBelow v z → IsAbove u z → l ≡ m -ℤ c → DownTurn (turn_of u v z l) (c -ℤ m)
down-turn u v z l m c h k e = by (turn_of-down u v z l h k)
  where
    below : (l m c : ℤ) → l ≡ m -ℤ c → l <ℤ pos 0 → pos 0 <ℤ (c -ℤ m)
    below l m c e h = omega (arith, ints)

    not_below : (l m c : ℤ) → l ≡ m -ℤ c → pos 0 ≤ℤ l → (c -ℤ m) ≤ℤ pos 0
    not_below l m c e h = omega (arith, ints)

    by : ((turn_of u v z l ≡ negsuc 0) × (l <ℤ pos 0)) ⊎ ((turn_of u v z l ≡ pos 0) × (pos 0 ≤ℤ l)) → DownTurn (turn_of u v z l) (c -ℤ m)
    by (inl a) = down_yes a.0 (below l m c e a.1)
    by (inr a) = down_no a.0 (not_below l m c e a.1)

-- ---- quiet edges
pub turn_x-quiet : (x z : ℤ) → Quiet (λ u v. turn_x u v x z) z
turn_x-quiet x z = record { below = λ u v h k. turn_of-below u.z v.z z _ h k; above = λ u v h k. turn_of-above u.z v.z z _ h k }

zero_where : (a b : ℤ) → a ≡ pos 0 → where_not_zero a b ≡ pos 0
zero_where a (pos zero) e = refl
zero_where a (pos (suc n)) e = e
zero_where a (negsuc n) e = e

pub corner-quiet : (p : Point) → Quiet (corner_turn p) p.z
corner-quiet p = record {
  below = λ u v h k. zero_where (turn u v p.y p.z) (turn_x u v p.x p.z) (turn_of-below u.z v.z p.z _ h k);
  above = λ u v h k. zero_where (turn u v p.y p.z) (turn_x u v p.x p.z) (turn_of-above u.z v.z p.z _ h k);
}

-- ---- if both cut points are one, neither ray is passed
same_turns : (d1 d2 u d : ℤ) (tu td : ℤ) → pos 0 <ℤ d1 → pos 0 <ℤ d2 → d1 *ℤ u ≡ d2 *ℤ d → UpTurn tu u → DownTurn td d → tu +ℤ td ≡ pos 0
same_turns d1 d2 u d tu td h1 h2 e (up_yes f a) (down_yes g b) = (λ i. f i +ℤ g i)
same_turns d1 d2 u d tu td h1 h2 e (up_no f a) (down_no g b) = (λ i. f i +ℤ g i)
same_turns d1 d2 u d tu td h1 h2 e (up_yes f a) (down_no g b) =
    absurd (clash d (right_of_positive d2 d (weak d2 h2) (subst (λ i. pos 0 <ℤ i) e (mul_positive d1 u h1 a))) b)
same_turns d1 d2 u d tu td h1 h2 e (up_no f a) (down_yes g b) =
    absurd (clash u (right_of_positive d1 u (weak d1 h1) (subst (λ i. pos 0 <ℤ i) (sym e) (mul_positive d2 d h2 b))) a)

-- ---- the sign of the volume
volume_sign : (h v k : ℤ) → pos 0 <ℤ h → k ≡ h *ℤ v → SameSign k v
volume_sign h v k p e = by (sign_cases v)
  where
    by : (v <ℤ pos 0) ⊎ (v ≡ pos 0) ⊎ (pos 0 <ℤ v) → SameSign k v
    by (inl a) = both_below (subst (λ i. i <ℤ pos 0) (sym e) (mul_negative_right h v p a)) a
    by (inr (inl a)) = both_zero (e ∙ ap (λ i. h *ℤ i) a ∙ identity (h ∷ []) (search reads depth 40) refl) a
    by (inr (inr a)) = both_above (subst (λ i. pos 0 <ℤ i) (sym e) (mul_positive h v p a)) a

cross_plain : (a b e c d f x y : ℤ) → (a -ℤ x *ℤ e) *ℤ (d -ℤ y *ℤ f) -ℤ (b -ℤ y *ℤ e) *ℤ (c -ℤ x *ℤ f) ≡ a *ℤ d -ℤ b *ℤ c +ℤ y *ℤ (c *ℤ e -ℤ a *ℤ f) -ℤ x *ℤ (d *ℤ e -ℤ b *ℤ f)
cross_plain a b e c d f x y = identity (a ∷ b ∷ e ∷ c ∷ d ∷ f ∷ x ∷ y ∷ []) (search reads depth 40 fits 5000) refl

-- the cross product of the cut points, as they lie from (x, y)
cross-is : (r s p q : Point) (x y z : ℤ)
    → (cut_x r s z -ℤ x *ℤ cut_d r s) *ℤ (cut_y p q z -ℤ y *ℤ cut_d p q) -ℤ (cut_y r s z -ℤ y *ℤ cut_d r s) *ℤ (cut_x p q z -ℤ x *ℤ cut_d p q)
    ≡ num_of r s p q y z -ℤ x *ℤ den_of r s p q z
cross-is r s p q x y z = cross_plain (cut_x r s z) (cut_y r s z) (cut_d r s) (cut_x p q z) (cut_y p q z) (cut_d p q) x y

-- d1 * up - d2 * down is the difference of the cut points, along x and along y
along-y : (r s p q : Point) (y z : ℤ) → cut_d r s *ℤ (cut_y p q z -ℤ y *ℤ cut_d p q) ≡ cut_d p q *ℤ (cut_y r s z -ℤ y *ℤ cut_d r s) +ℤ den_of r s p q z
along-y r s p q y z = identity (r.y ∷ r.z ∷ s.y ∷ s.z ∷ p.y ∷ p.z ∷ q.y ∷ q.z ∷ y ∷ z ∷ []) (search reads depth 40 fits 5000) refl

along-x : (r s p q : Point) (x z : ℤ)
    → cut_d r s *ℤ (cut_x p q z -ℤ x *ℤ cut_d p q) ≡ cut_d p q *ℤ (cut_x r s z -ℤ x *ℤ cut_d r s) +ℤ (cut_x p q z *ℤ cut_d r s -ℤ cut_x r s z *ℤ cut_d p q)
along-x r s p q x z = identity (r.x ∷ r.z ∷ s.x ∷ s.z ∷ p.x ∷ p.z ∷ q.x ∷ q.z ∷ x ∷ z ∷ []) (search reads depth 40 fits 5000) refl

-- ---- the facet's two hits
pub hit-taken : (t : Facet) (p : Point) → hit t p ≡ ahead_only (wind t p.y p.z) (volume t p)
unfolding hit
hit-taken t p = refl

pub hit_y-taken : (t : Facet) (p : Point) → hit_y t p ≡ ahead_only (wind_y t p.x p.z) (volume t p)
unfolding hit_y
hit_y-taken t p = refl

pub wind_y-is : (t : Facet) (x z : ℤ) → wind_y t x z ≡ neg_ℤ (turn_x t.a t.b x z +ℤ turn_x t.b t.c x z +ℤ turn_x t.c t.a x z)
unfolding wind_y
wind_y-is t x z = refl

add_nothing : (a b h n : ℤ) → h ≡ pos 0 → a ≡ b +ℤ h *ℤ n → a ≡ b
add_nothing a b h n e f = f ∙ ap (λ i. b +ℤ i *ℤ n) e ∙ identity (b ∷ n ∷ []) (search reads depth 40) refl

take_nothing : (a b h n : ℤ) → h ≡ pos 0 → a ≡ b +ℤ neg_ℤ (h *ℤ n) → a ≡ b
take_nothing a b h n e f = f ∙ ap (λ i. b +ℤ neg_ℤ (i *ℤ n)) e ∙ identity (b ∷ n ∷ []) (search reads depth 40) refl

-- the two cut points do not lie on opposite sides of (x, y), which is what a facet that does not touch (x, y, z) gives
pub record Apart (r s p q : Point) (x y z : ℤ) : Type 0 where
  pub first : (cut_x r s z -ℤ x *ℤ cut_d r s) *ℤ (cut_y p q z -ℤ y *ℤ cut_d p q) -ℤ (cut_y r s z -ℤ y *ℤ cut_d r s) *ℤ (cut_x p q z -ℤ x *ℤ cut_d p q) ≡ pos 0
      → (cut_x r s z -ℤ x *ℤ cut_d r s) ≤ℤ pos 0 → (cut_y r s z -ℤ y *ℤ cut_d r s) ≤ℤ pos 0 → pos 0 <ℤ (cut_x p q z -ℤ x *ℤ cut_d p q) → pos 0 <ℤ (cut_y p q z -ℤ y *ℤ cut_d p q) → ⊥
  pub second : (cut_x r s z -ℤ x *ℤ cut_d r s) *ℤ (cut_y p q z -ℤ y *ℤ cut_d p q) -ℤ (cut_y r s z -ℤ y *ℤ cut_d r s) *ℤ (cut_x p q z -ℤ x *ℤ cut_d p q) ≡ pos 0
      → (cut_x p q z -ℤ x *ℤ cut_d p q) ≤ℤ pos 0 → (cut_y p q z -ℤ y *ℤ cut_d p q) ≤ℤ pos 0 → pos 0 <ℤ (cut_x r s z -ℤ x *ℤ cut_d r s) → pos 0 <ℤ (cut_y r s z -ℤ y *ℤ cut_d r s) → ⊥

-- if the facet passes the height of the point
pub hits-differ : (t : Facet) (c : Point) (r s p q : Point) → Passes t r s p q c.z → Apart r s p q c.x c.y c.z
    → hit t c -ℤ hit_y t c ≡ corner_turn c t.a t.b +ℤ corner_turn c t.b t.c +ℤ corner_turn c t.c t.a
hits-differ t c r s p q h apart =
    (λ i. hit-taken t c i -ℤ hit_y-taken t c i) ∙ by (sign_cases h.height) ∙ sym (h.sums (corner_turn c) (corner-quiet c))
  where
    xu : ℤ
    xu = cut_x p q c.z -ℤ c.x *ℤ cut_d p q

    yu : ℤ
    yu = cut_y p q c.z -ℤ c.y *ℤ cut_d p q

    xd : ℤ
    xd = cut_x r s c.z -ℤ c.x *ℤ cut_d r s

    yd : ℤ
    yd = cut_y r s c.z -ℤ c.y *ℤ cut_d r s

    tu : ℤ
    tu = turn p q c.y c.z

    td : ℤ
    td = turn s r c.y c.z

    su : ℤ
    su = turn_x p q c.x c.z

    sd : ℤ
    sd = turn_x s r c.x c.z

    w : ℤ
    w = wind t c.y c.z

    wy : ℤ
    wy = wind_y t c.x c.z

    v : ℤ
    v = volume t c

    wy_is : wy ≡ neg_ℤ (su +ℤ sd)
    wy_is = wind_y-is t c.x c.z ∙ ap neg_ℤ (h.sums (λ u v. turn_x u v c.x c.z) (turn_x-quiet c.x c.z))

    a1 : UpTurn tu yu
    a1 = up-turn p.z q.z c.z (left p q c.y c.z) yu h.up.low h.up.high (cut-left p q c.y c.z)

    a2 : DownTurn td yd
    a2 = down-turn s.z r.z c.z (left s r c.y c.z) (c.y *ℤ cut_d r s) (cut_y r s c.z) h.down.low h.down.high (cut-left_down r s c.y c.z)

    a3 : UpTurn su xu
    a3 = up-turn p.z q.z c.z (left_x p q c.x c.z) xu h.up.low h.up.high (cut-left_x p q c.x c.z)

    a4 : DownTurn sd xd
    a4 = down-turn s.z r.z c.z (left_x s r c.x c.z) (c.x *ℤ cut_d r s) (cut_x r s c.z) h.down.low h.down.high (cut-left_x_down r s c.x c.z)

    by : (h.height <ℤ pos 0) ⊎ (h.height ≡ pos 0) ⊎ (pos 0 <ℤ h.height) → ahead_only w v -ℤ ahead_only wy v ≡ where_not_zero tu su +ℤ where_not_zero td sd
    by (inl n) = absurd (not_both h.height (pos 0) n h.not_negative)
    by (inr (inl e)) =
        let ey = add_nothing (cut_d r s *ℤ yu) (cut_d p q *ℤ yd) h.height (normal_x t) e (along-y r s p q c.y c.z ∙ ap (λ i. cut_d p q *ℤ yd +ℤ i) h.den_is) in
        let ex = take_nothing (cut_d r s *ℤ xu) (cut_d p q *ℤ xd) h.height (normal_y t) e (along-x r s p q c.x c.z ∙ ap (λ i. cut_d p q *ℤ xd +ℤ i) h.den_x_is) in
        let z1 = same_turns (cut_d r s) (cut_d p q) yu yd tu td (span_positive r s c.z h.down) (span_positive p q c.z h.up) ey a1 a2 in
        let z2 = same_turns (cut_d r s) (cut_d p q) xu xd su sd (span_positive r s c.z h.down) (span_positive p q c.z h.up) ex a3 a4 in
        quadrants-flat xu yu xd yd tu td su sd w wy v (h.winds c.y) wy_is (h.winds c.y ∙ z1) (wy_is ∙ ap neg_ℤ z2) a1 a2 a3 a4
    by (inr (inr m)) =
        quadrants xu yu xd yd tu td su sd w wy v (h.winds c.y) wy_is
        (volume_sign h.height v (xd *ℤ yu -ℤ yd *ℤ xu) m (cross-is r s p q c.x c.y c.z ∙ h.num_is c.x c.y)) apart.first apart.second a1 a2 a3 a4
