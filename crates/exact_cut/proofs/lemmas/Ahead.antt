-- A facet's winding has the sign of its normal's x part. It says on which side of a point the line along x meets the facet's
-- plane.
use Rattle.std.proofs.Common.{◌≡◌, ℕ, zero, suc, ◌⊎◌, ◌↔◌, [], ◌∷◌, ℤ, pos, negsuc, ◌+ℤ◌, ◌-ℤ◌, ◌*ℤ◌, neg_ℤ, ◌≤ℤ◌, ◌<ℤ◌, refl, sym, ◌∙◌, ap, subst, arith, inl, inr}
use Rattle.std.proofs.lemmas.Int.{ints}
use Rattle.exact_int.proofs.lemmas.Identity.{reads, identity}
use Rattle.exact_int.proofs.lemmas.Signs.{at_most_or_above, mul_positive, mul_not_negative, mul_not_positive_right, mul_negative_right, right_of_positive, left_positive, lt_from_difference, difference_from_lt}
use Rattle.exact_int.proofs.lemmas.Laws.{mul_assoc, one_mul, three_zeros}
use Rattle.geometry.specs.TieRule.{IsBelow, IsAbove}
use Rattle.geometry.specs.Point.{Point}
use Rattle.geometry.specs.Facet.{Facet}
use Rattle.geometry.specs.Winding.{left, turn, wind, volume, normal_x, normal_y, normal_z}
use Rattle.exact_cut.specs.Laws.{Meets}
use Rattle.exact_cut.specs.Cut.{IsBetween, start, finish, Rises}
use Rattle.exact_cut.specs.Crossing.{Winding, Crosses}
use Rattle.exact_cut.specs.CutPoint.{CutIs, cut_y, cut_d}
use Rattle.exact_cut.proofs.lemmas.Turns.{turn_of-up, turn_of-down, turn_of-below, turn_of-above}
use Rattle.exact_cut.proofs.lemmas.Passing.{rises}
use Rattle.exact_cut.proofs.lemmas.Winds.{Passes, passes, den_of, num_of}

-- ---- the denominator, by the two edges' cross products
den-left : (r s p q : Point) (y z : ℤ) → den_of r s p q z ≡ cut_d r s *ℤ left p q y z +ℤ cut_d p q *ℤ left s r y z
den-left r s p q y z = identity (r.y ∷ r.z ∷ s.y ∷ s.z ∷ p.y ∷ p.z ∷ q.y ∷ q.z ∷ y ∷ z ∷ []) (search reads depth 40 fits 5000) refl

-- the wind's three cases, by the two cross products
pub data WindCase (w up down : ℤ) : Type 0 where
  winds_up : w ≡ pos 1 → pos 0 <ℤ up → pos 0 ≤ℤ down → WindCase w up down
  winds_down : w ≡ negsuc 0 → up ≤ℤ pos 0 → down <ℤ pos 0 → WindCase w up down
  winds_not : w ≡ pos 0 → WindCase w up down

sum_cases : (w a b up down : ℤ) → w ≡ a +ℤ b → ((a ≡ pos 1) × (pos 0 <ℤ up)) ⊎ ((a ≡ pos 0) × (up ≤ℤ pos 0)) → ((b ≡ negsuc 0) × (down <ℤ pos 0)) ⊎ ((b ≡ pos 0) × (pos 0 ≤ℤ down)) → WindCase w up down
sum_cases w a b up down e (inl h) (inl k) = let x = h.0 in let y = k.0 in winds_not (omega (arith, ints))
sum_cases w a b up down e (inl h) (inr k) = let x = h.0 in let y = k.0 in winds_up (omega (arith, ints)) h.1 k.1
sum_cases w a b up down e (inr h) (inl k) = let x = h.0 in let y = k.0 in winds_down (omega (arith, ints)) h.1 k.1
sum_cases w a b up down e (inr h) (inr k) = let x = h.0 in let y = k.0 in winds_not (omega (arith, ints))

pub wind_case : (t : Facet) (r s p q : Point) (y z : ℤ) → Passes t r s p q z → WindCase (wind t y z) (left p q y z) (left s r y z)
wind_case t r s p q y z h =
    sum_cases (wind t y z) (turn p q y z) (turn s r y z) (left p q y z) (left s r y z) (h.winds y)
    (turn_of-up p.z q.z z (left p q y z) h.up.low h.up.high) (turn_of-down s.z r.z z (left s r y z) h.down.low h.down.high)

-- d1 * up + d2 * down has the wind's sign, and is 0 at no wind but 0
signed_sum : (w up down d1 d2 : ℤ) → pos 0 <ℤ d1 → pos 0 <ℤ d2 → WindCase w up down → (w ≡ pos 0) ⊎ (pos 0 <ℤ (w *ℤ (d1 *ℤ up +ℤ d2 *ℤ down)))
signed_sum w up down d1 d2 p1 p2 (winds_up e a b) =
    let x = mul_positive d1 up p1 a in
    let y = mul_not_negative d2 down (omega (arith, ints)) b in
    inr (subst (λ z. pos 0 <ℤ (z *ℤ (d1 *ℤ up +ℤ d2 *ℤ down))) (sym e) (plus (d1 *ℤ up) (d2 *ℤ down) x y))
  where
    plus : (a b : ℤ) → pos 0 <ℤ a → pos 0 ≤ℤ b → pos 0 <ℤ (pos 1 *ℤ (a +ℤ b))
    plus a b h k = omega (arith, ints)
signed_sum w up down d1 d2 p1 p2 (winds_down e a b) =
    let x = mul_not_positive_right d1 up (omega (arith, ints)) a in
    let y = mul_negative_right d2 down p2 b in
    inr (subst (λ z. pos 0 <ℤ (z *ℤ (d1 *ℤ up +ℤ d2 *ℤ down))) (sym e) (minus (d1 *ℤ up) (d2 *ℤ down) x y))
  where
    minus : (a b : ℤ) → a ≤ℤ pos 0 → b <ℤ pos 0 → pos 0 <ℤ (negsuc 0 *ℤ (a +ℤ b))
    minus a b h k = omega (arith, ints)
signed_sum w up down d1 d2 p1 p2 (winds_not e) = inl e

pub span_positive : (u v : Point) (z : ℤ) → Rises u v z → pos 0 <ℤ cut_d u v
span_positive u v z h = let a = h.low in let b = h.high in omega (arith, ints)

-- if the wind is not 0, its product with the denominator is above 0
wind-den : (t : Facet) (r s p q : Point) (y z : ℤ) → Passes t r s p q z → (wind t y z ≡ pos 0) ⊎ (pos 0 <ℤ (wind t y z *ℤ den_of r s p q z))
wind-den t r s p q y z h =
    subst (λ d. (wind t y z ≡ pos 0) ⊎ (pos 0 <ℤ (wind t y z *ℤ d))) (sym (den-left r s p q y z))
    (signed_sum (wind t y z) (left p q y z) (left s r y z) (cut_d r s) (cut_d p q) (span_positive r s z h.down) (span_positive p q z h.up) (wind_case t r s p q y z h))

turned : (w h n : ℤ) → w *ℤ (h *ℤ n) ≡ h *ℤ (w *ℤ n)
turned w h n = identity (w ∷ h ∷ n ∷ []) (search reads depth 40) refl

-- if the wind is not 0, its product with the normal's x part is above 0, and the lone corner is not at the height z
wind-normal : (t : Facet) (r s p q : Point) (y z : ℤ) → (h : Passes t r s p q z) → (wind t y z ≡ pos 0) ⊎ ((pos 0 <ℤ (wind t y z *ℤ normal_x t)) × (pos 0 <ℤ h.height))
wind-normal t r s p q y z h = by (wind-den t r s p q y z h)
  where
    by : (wind t y z ≡ pos 0) ⊎ (pos 0 <ℤ (wind t y z *ℤ den_of r s p q z)) → (wind t y z ≡ pos 0) ⊎ ((pos 0 <ℤ (wind t y z *ℤ normal_x t)) × (pos 0 <ℤ h.height))
    by (inl e) = inl e
    by (inr k) =
        let k2 : pos 0 <ℤ (h.height *ℤ (wind t y z *ℤ normal_x t)) = subst (λ d. pos 0 <ℤ d) (ap (λ d. wind t y z *ℤ d) h.den_is ∙ turned (wind t y z) h.height (normal_x t)) k in
        inr (right_of_positive h.height (wind t y z *ℤ normal_x t) h.not_negative k2, left_positive h.height (wind t y z *ℤ normal_x t) h.not_negative k2)

-- ---- which edges pass a height
pub data Sides (t : Facet) (z : ℤ) : Type 0 where
  all_below : IsBelow t.a.z z → IsBelow t.b.z z → IsBelow t.c.z z → Sides t z
  all_above : IsAbove t.a.z z → IsAbove t.b.z z → IsAbove t.c.z z → Sides t z
  between : (d u : ℕ) → Rises (finish t d) (start t d) z → Rises (start t u) (finish t u) z → Sides t z

pub sides : (t : Facet) (z : ℤ) → Sides t z
sides t z = by (at_most_or_above t.a.z z) (at_most_or_above t.b.z z) (at_most_or_above t.c.z z)
  where
    by : IsBelow t.a.z z ⊎ IsAbove t.a.z z → IsBelow t.b.z z ⊎ IsAbove t.b.z z → IsBelow t.c.z z ⊎ IsAbove t.c.z z → Sides t z
    by (inl a) (inl b) (inl c) = all_below a b c
    by (inl a) (inl b) (inr c) = between 2 1 (rises t.a t.c z a c) (rises t.b t.c z b c)
    by (inl a) (inr b) (inl c) = between 1 0 (rises t.c t.b z c b) (rises t.a t.b z a b)
    by (inl a) (inr b) (inr c) = between 2 0 (rises t.a t.c z a c) (rises t.a t.b z a b)
    by (inr a) (inl b) (inl c) = between 0 2 (rises t.b t.a z b a) (rises t.c t.a z c a)
    by (inr a) (inl b) (inr c) = between 0 1 (rises t.b t.a z b a) (rises t.b t.c z b c)
    by (inr a) (inr b) (inl c) = between 1 2 (rises t.c t.b z c b) (rises t.c t.a z c a)
    by (inr a) (inr b) (inr c) = all_above a b c

pub wind-below : (t : Facet) (y z : ℤ) → IsBelow t.a.z z → IsBelow t.b.z z → IsBelow t.c.z z → wind t y z ≡ pos 0
unfolding wind
wind-below t y z a b c = three_zeros (turn t.a t.b y z) (turn t.b t.c y z) (turn t.c t.a y z) (turn_of-below t.a.z t.b.z z _ a b) (turn_of-below t.b.z t.c.z z _ b c) (turn_of-below t.c.z t.a.z z _ c a)

pub wind-above : (t : Facet) (y z : ℤ) → IsAbove t.a.z z → IsAbove t.b.z z → IsAbove t.c.z z → wind t y z ≡ pos 0
unfolding wind
wind-above t y z a b c = three_zeros (turn t.a t.b y z) (turn t.b t.c y z) (turn t.c t.a y z) (turn_of-above t.a.z t.b.z z _ a b) (turn_of-above t.b.z t.c.z z _ b c) (turn_of-above t.c.z t.a.z z _ c a)

-- ---- wind is -1, 0 or 1; if it is not 0, its product with the normal's x part is above 0
case_unit : (w up down : ℤ) → WindCase w up down → (w ≡ pos 0) ⊎ (w ≡ pos 1) ⊎ (w ≡ negsuc 0)
case_unit w up down (winds_up e a b) = inr (inl e)
case_unit w up down (winds_down e a b) = inr (inr e)
case_unit w up down (winds_not e) = inl e

wind-winding : (t : Facet) (r s p q : Point) (y z : ℤ) → Passes t r s p q z → (wind t y z ≡ pos 0) ⊎ Winding t (wind t y z)
wind-winding t r s p q y z h = by (case_unit (wind t y z) (left p q y z) (left s r y z) (wind_case t r s p q y z h)) (wind-normal t r s p q y z h)
  where
    by : (wind t y z ≡ pos 0) ⊎ (wind t y z ≡ pos 1) ⊎ (wind t y z ≡ negsuc 0) → (wind t y z ≡ pos 0) ⊎ ((pos 0 <ℤ (wind t y z *ℤ normal_x t)) × (pos 0 <ℤ h.height)) → (wind t y z ≡ pos 0) ⊎ Winding t (wind t y z)
    by (inl e) n = inl e
    by (inr u) (inl e) = inl e
    by (inr u) (inr n) = inr (record { unit = u; normal = n.0 })

pub wind_values : (t : Facet) (y z : ℤ) → (wind t y z ≡ pos 0) ⊎ Winding t (wind t y z)
wind_values t y z = by (sides t z)
  where
    by : Sides t z → (wind t y z ≡ pos 0) ⊎ Winding t (wind t y z)
    by (all_below a b c) = inl (wind-below t y z a b c)
    by (all_above a b c) = inl (wind-above t y z a b c)
    by (between d u h k) = wind-winding t (finish t d) (start t d) (start t u) (finish t u) y z (passes t z d u h k)

-- ---- ahead
-- 0 < k * v and 0 < l * d hold together, if k and l are above 0 and k * v ≡ l * d
together : (k l v d : ℤ) → pos 0 <ℤ k → pos 0 <ℤ l → k *ℤ v ≡ l *ℤ d → pos 0 <ℤ v → pos 0 <ℤ d
together k l v d hk hl e hv = right_of_positive l d (omega (arith, ints)) (subst (λ z. pos 0 <ℤ z) e (mul_positive k v hk hv))

scaled : (w n k den v plane : ℤ) → n *ℤ k ≡ den *ℤ v +ℤ plane → plane ≡ pos 0 → (w *ℤ n) *ℤ k ≡ den *ℤ (w *ℤ v)
scaled w n k den v plane e z =
    mul_assoc w n k ∙ ap (λ x. w *ℤ x) (e ∙ ap (λ x. den *ℤ v +ℤ x) z)
    ∙ identity (w ∷ den ∷ v ∷ []) (search reads depth 40) refl

-- how far (num / den, y, z) lies from the facet's plane, along its normal
abbrev plane : Facet → ℤ → ℤ → ℤ → ℤ → ℤ
plane t num den y z = normal_x t *ℤ (num -ℤ t.a.x *ℤ den) +ℤ normal_y t *ℤ ((y -ℤ t.a.y) *ℤ den) +ℤ normal_z t *ℤ ((z -ℤ t.a.z) *ℤ den)

plane-split : (t : Facet) (num den x y z : ℤ) → normal_x t *ℤ (num -ℤ x *ℤ den) ≡ den *ℤ volume t (record { x = x; y = y; z = z }) +ℤ plane t num den y z
plane-split t num den x y z =
    identity (t.a.x ∷ t.a.y ∷ t.a.z ∷ t.b.x ∷ t.b.y ∷ t.b.z ∷ t.c.x ∷ t.c.y ∷ t.c.z ∷ x ∷ y ∷ z ∷ num ∷ den ∷ []) (search reads depth 40 fits 5000) refl

-- ---- where the line meets the plane
-- with the normal's x part and the wind as the denominator
meeting : (n m l w a y z : ℤ) → n *ℤ (w *ℤ (a *ℤ n -ℤ m *ℤ y -ℤ l *ℤ z) -ℤ a *ℤ (w *ℤ n)) +ℤ m *ℤ (y *ℤ (w *ℤ n)) +ℤ l *ℤ (z *ℤ (w *ℤ n)) ≡ pos 0
meeting n m l w a y z = identity (n ∷ m ∷ l ∷ w ∷ a ∷ y ∷ z ∷ []) (search reads depth 40 fits 5000) refl

pub lines_meet : (t : Facet) (y z : ℤ) → Winding t (wind t y z) → (num den : ℤ) × (pos 0 <ℤ den) × Meets t num den y z
lines_meet t y z h = (
  wind t y z *ℤ (t.a.x *ℤ normal_x t -ℤ normal_y t *ℤ (y -ℤ t.a.y) -ℤ normal_z t *ℤ (z -ℤ t.a.z)),
  wind t y z *ℤ normal_x t,
  h.normal,
  record { in_plane = meeting (normal_x t) (normal_y t) (normal_z t) (wind t y z) t.a.x (y -ℤ t.a.y) (z -ℤ t.a.z) },
)

plane-nothing : (n along den v over h : ℤ) → n *ℤ along ≡ den *ℤ v +ℤ over → along ≡ h *ℤ v → den ≡ h *ℤ n → over ≡ pos 0
plane-nothing n along den v over h e f g =
    identity (den ∷ v ∷ over ∷ []) (search reads depth 40) refl ∙ ap (λ s. s -ℤ den *ℤ v) (sym e)
    ∙ (λ i. n *ℤ f i -ℤ g i *ℤ v) ∙ identity (n ∷ h ∷ v ∷ []) (search reads depth 40) refl

-- the line through the cut points lies in the facet's plane
pub meets : (t : Facet) (r s p q : Point) (y z : ℤ) → Passes t r s p q z → Meets t (num_of r s p q y z) (den_of r s p q z) y z
meets t r s p q y z h = record {
  in_plane =
      plane-nothing (normal_x t) (num_of r s p q y z -ℤ pos 0 *ℤ den_of r s p q z) (den_of r s p q z) (volume t (record { x = pos 0; y = y; z = z }))
      (plane t (num_of r s p q y z) (den_of r s p q z) y z) h.height
      (plane-split t (num_of r s p q y z) (den_of r s p q z) (pos 0) y z) (h.num_is (pos 0) y) h.den_is;
}

negated : (n m l num den a y z : ℤ)
    → n *ℤ (neg_ℤ num -ℤ a *ℤ neg_ℤ den) +ℤ m *ℤ (y *ℤ neg_ℤ den) +ℤ l *ℤ (z *ℤ neg_ℤ den) ≡ neg_ℤ (n *ℤ (num -ℤ a *ℤ den) +ℤ m *ℤ (y *ℤ den) +ℤ l *ℤ (z *ℤ den))
negated n m l num den a y z = identity (n ∷ m ∷ l ∷ num ∷ den ∷ a ∷ y ∷ z ∷ []) (search reads depth 40 fits 5000) refl

-- the same fraction with the other sign above and below
pub meets-negated : (t : Facet) (num den y z : ℤ) → Meets t num den y z → Meets t (neg_ℤ num) (neg_ℤ den) y z
meets-negated t num den y z h = record {
  in_plane = negated (normal_x t) (normal_y t) (normal_z t) num den t.a.x (y -ℤ t.a.y) (z -ℤ t.a.z) ∙ ap neg_ℤ h.in_plane;
}

-- if the wind is not 0, the plane meets the line through (x, y, z) along x ahead of x exactly if wind * volume is above 0
pub ahead : (t : Facet) (num den x y z : ℤ) → Winding t (wind t y z) → pos 0 <ℤ den → Meets t num den y z → ((x *ℤ den) <ℤ num) ↔ (pos 0 <ℤ (wind t y z *ℤ volume t (record { x = x; y = y; z = z })))
ahead t num den x y z h p m = (λ k. together n den (num -ℤ x *ℤ den) (w *ℤ v) h.normal p e (difference_from_lt (x *ℤ den) num k), λ k. lt_from_difference (x *ℤ den) num (together den n (w *ℤ v) (num -ℤ x *ℤ den) p h.normal (sym e) k))
  where
    w : ℤ
    w = wind t y z

    v : ℤ
    v = volume t (record { x = x; y = y; z = z })

    n : ℤ
    n = w *ℤ normal_x t

    split : normal_x t *ℤ (num -ℤ x *ℤ den) ≡ den *ℤ v +ℤ plane t num den y z
    split = plane-split t num den x y z

    e : n *ℤ (num -ℤ x *ℤ den) ≡ den *ℤ (w *ℤ v)
    e = scaled w (normal_x t) (num -ℤ x *ℤ den) den v (plane t num den y z) split m.in_plane

-- ---- the crossing, as the code computes it
factored : (w num den x h v : ℤ) → num -ℤ x *ℤ den ≡ h *ℤ v → w *ℤ num -ℤ x *ℤ (w *ℤ den) ≡ h *ℤ (w *ℤ v)
factored w num den x h v e = identity (w ∷ num ∷ den ∷ x ∷ []) (search reads depth 40) refl ∙ ap (λ z. w *ℤ z) e ∙ turned w h v

-- both parts of the fraction times the wind
pub crosses : (t : Facet) (r s p q : Point) (y z : ℤ) → Passes t r s p q z
    → (wind t y z ≡ pos 0) ⊎ Crosses t y z (wind t y z) (wind t y z *ℤ num_of r s p q y z) (wind t y z *ℤ den_of r s p q z)
crosses t r s p q y z h = by (wind-den t r s p q y z h) (wind-normal t r s p q y z h) (wind-winding t r s p q y z h)
  where
    w : ℤ
    w = wind t y z

    num : ℤ
    num = num_of r s p q y z

    den : ℤ
    den = den_of r s p q z

    by : (w ≡ pos 0) ⊎ (pos 0 <ℤ (w *ℤ den)) → (w ≡ pos 0) ⊎ ((pos 0 <ℤ (w *ℤ normal_x t)) × (pos 0 <ℤ h.height)) → (w ≡ pos 0) ⊎ Winding t w → (w ≡ pos 0) ⊎ Crosses t y z w (w *ℤ num) (w *ℤ den)
    by (inl e) n k = inl e
    by (inr d) (inl e) k = inl e
    by (inr d) (inr n) (inl e) = inl e
    by (inr d) (inr n) (inr k) = inr (record {
      sign_is = refl;
      winding = k;
      den_positive = d;
      ahead_of = λ x.
          let v = volume t (record { x = x; y = y; z = z }) in
          let e = factored w num den x h.height v (h.num_is x y) in (
            λ a. right_of_positive h.height (w *ℤ v) h.not_negative (subst (λ z. pos 0 <ℤ z) e (difference_from_lt (x *ℤ (w *ℤ den)) (w *ℤ num) a)),
            λ a. lt_from_difference (x *ℤ (w *ℤ den)) (w *ℤ num) (subst (λ z. pos 0 <ℤ z) (sym e) (mul_positive h.height (w *ℤ v) n.1 a)),
          );
    })

-- ---- from the code's values
pub cut-left : (u v : Point) (y z : ℤ) → left u v y z ≡ cut_y u v z -ℤ y *ℤ cut_d u v
cut-left u v y z = identity (u.y ∷ u.z ∷ v.y ∷ v.z ∷ y ∷ z ∷ []) (search reads depth 40 fits 5000) refl

pub cut-left_down : (u v : Point) (y z : ℤ) → left v u y z ≡ y *ℤ cut_d u v -ℤ cut_y u v z
cut-left_down u v y z = identity (u.y ∷ u.z ∷ v.y ∷ v.z ∷ y ∷ z ∷ []) (search reads depth 40 fits 5000) refl

turn-ahead : (p q : Point) (y z x c d : ℤ) → Rises p q z → CutIs p q z x c d → ((y *ℤ d) <ℤ c → turn p q y z ≡ pos 1) × (c ≤ℤ (y *ℤ d) → turn p q y z ≡ pos 0)
turn-ahead p q y z x c d r k = by (turn_of-up p.z q.z z (left p q y z) r.low r.high) (left_is)
  where
    left_is : left p q y z ≡ c -ℤ y *ℤ d
    left_is = cut-left p q y z ∙ ap (λ e. e -ℤ y *ℤ cut_d p q) (sym k.y_is) ∙ ap (λ e. c -ℤ y *ℤ e) (sym k.d_is)

    by : ((turn p q y z ≡ pos 1) × (pos 0 <ℤ left p q y z)) ⊎ ((turn p q y z ≡ pos 0) × (left p q y z ≤ℤ pos 0)) → left p q y z ≡ c -ℤ y *ℤ d → ((y *ℤ d) <ℤ c → turn p q y z ≡ pos 1) × (c ≤ℤ (y *ℤ d) → turn p q y z ≡ pos 0)
    by (inl h) e = (λ _. h.0, λ l. absurd (no (left p q y z) c (y *ℤ d) h.1 e l))
      where
        no : (l c m : ℤ) → pos 0 <ℤ l → l ≡ c -ℤ m → c ≤ℤ m → ⊥
        no l c m h e k = omega (arith, ints)
    by (inr h) e = (λ l. absurd (no (left p q y z) c (y *ℤ d) h.1 e l), λ _. h.0)
      where
        no : (l c m : ℤ) → l ≤ℤ pos 0 → l ≡ c -ℤ m → m <ℤ c → ⊥
        no l c m h e k = omega (arith, ints)

turn-ahead_down : (r s : Point) (y z x c d : ℤ) → Rises r s z → CutIs r s z x c d → ((y *ℤ d) <ℤ c → turn s r y z ≡ negsuc 0) × (c ≤ℤ (y *ℤ d) → turn s r y z ≡ pos 0)
turn-ahead_down r s y z x c d h k = by (turn_of-down s.z r.z z (left s r y z) h.low h.high) (left_is)
  where
    left_is : left s r y z ≡ y *ℤ d -ℤ c
    left_is = cut-left_down r s y z ∙ ap (λ e. y *ℤ cut_d r s -ℤ e) (sym k.y_is) ∙ ap (λ e. y *ℤ e -ℤ c) (sym k.d_is)

    by : ((turn s r y z ≡ negsuc 0) × (left s r y z <ℤ pos 0)) ⊎ ((turn s r y z ≡ pos 0) × (pos 0 ≤ℤ left s r y z)) → left s r y z ≡ y *ℤ d -ℤ c → ((y *ℤ d) <ℤ c → turn s r y z ≡ negsuc 0) × (c ≤ℤ (y *ℤ d) → turn s r y z ≡ pos 0)
    by (inl h) e = (λ _. h.0, λ l. absurd (no (left s r y z) c (y *ℤ d) h.1 e l))
      where
        no : (l c m : ℤ) → l <ℤ pos 0 → l ≡ m -ℤ c → c ≤ℤ m → ⊥
        no l c m h e k = omega (arith, ints)
    by (inr h) e = (λ l. absurd (no (left s r y z) c (y *ℤ d) h.1 e l), λ _. h.0)
      where
        no : (l c m : ℤ) → pos 0 ≤ℤ l → l ≡ m -ℤ c → m <ℤ c → ⊥
        no l c m h e k = omega (arith, ints)

-- the same fraction under other names
pub crosses_by : (t : Facet) (y z s n d s' n' d' : ℤ) → s ≡ s' → n ≡ n' → d ≡ d' → Crosses t y z s n d → Crosses t y z s' n' d'
crosses_by t y z s n d s' n' d' e f g h = subst (λ a. Crosses t y z a n' d') e (subst (λ a. Crosses t y z s a d') f (subst (λ a. Crosses t y z s n a) g h))

-- the two cut points, on which side of the scanline they lie, and the fraction, before the sign is chosen
module _ (t : Facet) (r s p q : Point) (y z : ℤ) (h : Passes t r s p q z) (ax ay ad bx by bd num den : ℤ)
    (a : CutIs r s z ax ay ad) (b : CutIs p q z bx by bd)
    (num_is : num ≡ ax *ℤ by -ℤ ay *ℤ bx +ℤ y *ℤ (bx *ℤ ad -ℤ ax *ℤ bd)) (den_is : den ≡ by *ℤ ad -ℤ ay *ℤ bd) where
  wind-by : (m n : ℤ) → turn p q y z ≡ m → turn s r y z ≡ n → wind t y z ≡ m +ℤ n
  wind-by m n e f = h.winds y ∙ ap (λ i. i +ℤ turn s r y z) e ∙ ap (λ i. m +ℤ i) f

  -- both on one side
  pub sides-same : ((y *ℤ ad) <ℤ ay) × ((y *ℤ bd) <ℤ by) ⊎ (ay ≤ℤ (y *ℤ ad)) × (by ≤ℤ (y *ℤ bd)) → wind t y z ≡ pos 0
  sides-same (inl k) = wind-by (pos 1) (negsuc 0) ((turn-ahead p q y z bx by bd h.up b).0 k.1) ((turn-ahead_down r s y z ax ay ad h.down a).0 k.0)
  sides-same (inr k) = wind-by (pos 0) (pos 0) ((turn-ahead p q y z bx by bd h.up b).1 k.1) ((turn-ahead_down r s y z ax ay ad h.down a).1 k.0)

  num-is : num_of r s p q y z ≡ num
  num-is = sym (num_is ∙ (λ i. a.x_is i *ℤ b.y_is i -ℤ a.y_is i *ℤ b.x_is i +ℤ y *ℤ (b.x_is i *ℤ a.d_is i -ℤ a.x_is i *ℤ b.d_is i)))

  den-is : den_of r s p q z ≡ den
  den-is = sym (den_is ∙ (λ i. b.y_is i *ℤ a.d_is i -ℤ a.y_is i *ℤ b.d_is i))

  pub meets-by : Meets t num den y z
  meets-by = subst (λ n. Meets t n den y z) num-is (subst (λ d. Meets t (num_of r s p q y z) d y z) den-is (meets t r s p q y z h))

  minus_times : (x : ℤ) → negsuc 0 *ℤ x ≡ neg_ℤ x
  minus_times x = omega (arith, ints)

  settle : (w : ℤ) → wind t y z ≡ w → (w ≡ pos 0 → ⊥) → Crosses t y z w (w *ℤ num) (w *ℤ den)
  settle w e k = by_case (crosses t r s p q y z h)
    where
      by_case : (wind t y z ≡ pos 0) ⊎ Crosses t y z (wind t y z) (wind t y z *ℤ num_of r s p q y z) (wind t y z *ℤ den_of r s p q z) → Crosses t y z w (w *ℤ num) (w *ℤ den)
      by_case (inl f) = absurd (k (sym e ∙ f))
      by_case (inr c) = crosses_by t y z _ _ _ _ _ _ e (λ i. e i *ℤ num-is i) (λ i. e i *ℤ den-is i) c

  pub sides-up : (y *ℤ bd) <ℤ by → ay ≤ℤ (y *ℤ ad) → Crosses t y z (pos 1) num den
  sides-up u d =
      let e = wind-by (pos 1) (pos 0) ((turn-ahead p q y z bx by bd h.up b).0 u) ((turn-ahead_down r s y z ax ay ad h.down a).1 d) in
      crosses_by t y z _ _ _ _ _ _ refl (one_mul num) (one_mul den) (settle (pos 1) e (λ f. absurd (omega (arith, ints))))

  pub sides-down : by ≤ℤ (y *ℤ bd) → (y *ℤ ad) <ℤ ay → Crosses t y z (negsuc 0) (neg_ℤ num) (neg_ℤ den)
  sides-down u d =
      let e = wind-by (pos 0) (negsuc 0) ((turn-ahead p q y z bx by bd h.up b).1 u) ((turn-ahead_down r s y z ax ay ad h.down a).0 d) in
      crosses_by t y z _ _ _ _ _ _ refl (minus_times num) (minus_times den) (settle (negsuc 0) e (λ f. absurd (omega (arith, ints))))

start_among : (t : Facet) (P : Point → Type 0) (e : ℕ) → P (start t e) → P t.a ⊎ P t.b ⊎ P t.c
start_among t P zero h = inl h
start_among t P (suc zero) h = inr (inl h)
start_among t P (suc (suc n)) h = inr (inr h)

-- if no edge passes the height
pub wind-outside : (t : Facet) (y z : ℤ) → (IsBetween t z → ⊥) → wind t y z ≡ pos 0
wind-outside t y z n = by (sides t z)
  where
    by : Sides t z → wind t y z ≡ pos 0
    by (all_below a b c) = wind-below t y z a b c
    by (all_above a b c) = wind-above t y z a b c
    by (between d u h k) = absurd (n (record { some_below = start_among t (λ p. IsBelow p.z z) u k.low; some_above = start_among t (λ p. IsAbove p.z z) d h.high }))
