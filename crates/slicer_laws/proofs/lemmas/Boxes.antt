-- The ray of a box. Only the sides at the ends of x are crossed: each by the lines in its rectangle, which is half-open.
use Rattle.std.proofs.Common.{◌≡◌, ℕ, ◌↔◌, ◌⊎◌, inl, inr, Bool, true, false, cond, not, ◌&&◌, List, [], ◌∷◌, ◌++◌, ℤ, pos, ◌+ℤ◌, ◌-ℤ◌, ◌*ℤ◌, neg_ℤ, ◌≤ℤ◌, ◌<ℤ◌, int_le, int_lt, refl, sym, ◌∙◌, ap, subst, arith}
use Rattle.std.proofs.lemmas.Int.{ints}
use lib.IntN.{+ℤ_idl, +ℤ_idr}
use Rattle.exact_int.proofs.lemmas.Identity.{reads, identity}
use Rattle.exact_int.proofs.lemmas.Signs.{at_most_or_above, clash, mul_positive, mul_not_positive_right}
use Rattle.geometry.specs.BoundingBox.{IsBox}
use Rattle.geometry.specs.Point.{Point}
use Rattle.geometry.specs.Facet.{Facet, facet_with, twice}
use Rattle.geometry.specs.Winding.{left, turn_of, turn, wind, volume, normal_x, hit, ray}
use Rattle.exact_cut.specs.Crossing.{Winding}
use Rattle.exact_cut.specs.Laws.{Meets}
use Rattle.exact_cut.proofs.lemmas.Ahead.{ahead, wind_values}
use Rattle.exact_cut.proofs.lemmas.Turns.{turn-opposite, turn_of-above, turn_of-below, turn_of-up}
use Rattle.raster.specs.declared.rule.Rule.{Rule}
use Rattle.raster.specs.declared.rule.Rule.TheVariants.{EvenOdd, NonZero, Positive}
use Rattle.raster.specs.Grid.{Grid, centre}
use Rattle.raster.specs.Rule.{is_inside}
use Rattle.raster.specs.Filler.{is_filled}
use Rattle.slicer_laws.proofs.lemmas.Shells.{ray-append}
use Rattle.slicer_laws.specs.Boxes.{at, box, holds, is_from_to, side, sides_x, sides_y, sides_z}

-- ---- a facet that is seen edge-on along x is not hit
cond-zero : (b : Bool) (w : ℤ) → w ≡ pos 0 → cond b w (pos 0) ≡ pos 0
cond-zero true w e = e
cond-zero false w e = refl

no_normal : (w n : ℤ) → n ≡ pos 0 → pos 0 <ℤ (w *ℤ n) → ⊥
no_normal w n e h = clash (w *ℤ n) h (at_most (w *ℤ n) (ap (λ m. w *ℤ m) e ∙ identity (w ∷ []) (search reads depth 40) refl))
  where
    at_most : (m : ℤ) → m ≡ pos 0 → m ≤ℤ pos 0
    at_most m e = omega (arith, ints)

hit_edge_on : (t : Facet) (c : Point) → normal_x t ≡ pos 0 → hit t c ≡ pos 0
unfolding hit
hit_edge_on t c e = by (wind_values t c.y c.z)
  where
    by : (wind t c.y c.z ≡ pos 0) ⊎ Winding t (wind t c.y c.z) → hit t c ≡ pos 0
    by (inl none) = cond-zero (int_lt (pos 0) (wind t c.y c.z *ℤ volume t c)) (wind t c.y c.z) none
    by (inr w) = absurd (no_normal (wind t c.y c.z) (normal_x t) e w.normal)

-- ---- a facet in a plane across x is hit from centres that it lies ahead of
tests_agree : (a b c d : ℤ) → (a <ℤ b) ↔ (c <ℤ d) → int_lt c d ≡ int_lt a b
tests_agree a b c d h = by (at_most_or_above b a) (at_most_or_above d c)
  where
    by : (b ≤ℤ a) ⊎ (a <ℤ b) → (d ≤ℤ c) ⊎ (c <ℤ d) → int_lt c d ≡ int_lt a b
    by (inl p) (inl q) = grind (arith, ints)
    by (inl p) (inr q) = absurd (let r : a <ℤ b = h.1 q in omega (arith, ints))
    by (inr p) (inl q) = absurd (let r : c <ℤ d = h.0 p in omega (arith, ints))
    by (inr p) (inr q) = grind (arith, ints)

hit_across : (x y1 z1 y2 z2 y3 z3 : ℤ) (c : Point)
    → hit (facet_with (at x y1 z1) (at x y2 z2) (at x y3 z3)) c
    ≡ cond (int_lt c.x x) (wind (facet_with (at x y1 z1) (at x y2 z2) (at x y3 z3)) c.y c.z) (pos 0)
unfolding hit
hit_across x y1 z1 y2 z2 y3 z3 c = by (wind_values t c.y c.z)
  where
    t : Facet
    t = facet_with (at x y1 z1) (at x y2 z2) (at x y3 z3)

    by : (wind t c.y c.z ≡ pos 0) ⊎ Winding t (wind t c.y c.z) → hit t c ≡ cond (int_lt c.x x) (wind t c.y c.z) (pos 0)
    by (inl none) =
        cond-zero (int_lt (pos 0) (wind t c.y c.z *ℤ volume t c)) (wind t c.y c.z) none
        ∙ sym (cond-zero (int_lt c.x x) (wind t c.y c.z) none)
    by (inr w) = ap (λ b. cond b (wind t c.y c.z) (pos 0)) (tests_agree c.x x (pos 0) (wind t c.y c.z *ℤ volume t c) from_plane)
      where
        in_plane : Meets t x (pos 1) c.y c.z
        in_plane = record {
          in_plane = identity (x ∷ y1 ∷ z1 ∷ y2 ∷ z2 ∷ y3 ∷ z3 ∷ c.y ∷ c.z ∷ []) (search reads depth 40 fits 5000) refl;
        }

        once : c.x *ℤ pos 1 ≡ c.x
        once = identity (c.x ∷ []) (search reads depth 40) refl

        above_zero : pos 0 <ℤ pos 1
        above_zero = omega (arith, ints)

        from_plane : (c.x <ℤ x) ↔ (pos 0 <ℤ (wind t c.y c.z *ℤ volume t c))
        from_plane =
            subst (λ (m : ℤ). (m <ℤ x) ↔ (pos 0 <ℤ (wind t c.y c.z *ℤ volume t c))) once
            (ahead t x (pos 1) c.x c.y c.z w above_zero in_plane)

-- ---- the turns of a side's four edges
-- an edge straight up, from height low to height high
above_or_not : (a b : ℤ) → int_le a b ≡ not (int_lt b a)
above_or_not a b = grind (arith, ints)

left_upright : (x y low high py pz : ℤ) → left (at x y low) (at x y high) py pz ≡ (y -ℤ py) *ℤ (high -ℤ low)
left_upright x y low high py pz = identity (y ∷ low ∷ high ∷ py ∷ pz ∷ []) (search reads depth 40) refl

abbrev one_if : Bool → ℤ
one_if b = cond b (pos 1) (pos 0)

-- the heights that an edge from low to high passes
abbrev passes : ℤ → ℤ → ℤ → Bool
passes low high m = int_le low m && int_lt m high

product_swap : (a b : ℤ) → a *ℤ b ≡ b *ℤ a
product_swap a b = identity (a ∷ b ∷ []) (search reads depth 40) refl

-- the turn of an edge straight up, by its tests
by_sign : (t l b h : ℤ) → ((t ≡ pos 1) × (pos 0 <ℤ l)) ⊎ ((t ≡ pos 0) × (l ≤ℤ pos 0)) → (b <ℤ h → pos 0 <ℤ l) → (h ≤ℤ b → l ≤ℤ pos 0)
    → t ≡ one_if (int_lt b h)
by_sign t l b h turns above below = by (at_most_or_above h b) turns
  where
    by : (h ≤ℤ b) ⊎ (b <ℤ h) → ((t ≡ pos 1) × (pos 0 <ℤ l)) ⊎ ((t ≡ pos 0) × (l ≤ℤ pos 0)) → t ≡ one_if (int_lt b h)
    by (inl p) (inl q) = absurd (clash l q.1 (below p))
    by (inl p) (inr q) = q.0 ∙ grind (arith, ints)
    by (inr p) (inl q) = q.0 ∙ grind (arith, ints)
    by (inr p) (inr q) = absurd (clash l (above p) q.1)

left_ahead : (y py low high : ℤ) → low <ℤ high → py <ℤ y → pos 0 <ℤ ((y -ℤ py) *ℤ (high -ℤ low))
left_ahead y py low high h k = mul_positive (y -ℤ py) (high -ℤ low) (omega (arith, ints)) (omega (arith, ints))

left_behind : (y py low high : ℤ) → low <ℤ high → y ≤ℤ py → ((y -ℤ py) *ℤ (high -ℤ low)) ≤ℤ pos 0
left_behind y py low high h k =
    subst (λ (m : ℤ). m ≤ℤ pos 0) (product_swap (high -ℤ low) (y -ℤ py))
    (mul_not_positive_right (high -ℤ low) (y -ℤ py) (omega (arith, ints)) (omega (arith, ints)))

passed_between : (low high z : ℤ) (b : Bool) → low ≤ℤ z → z <ℤ high → one_if b ≡ one_if (passes low high z && b)
passed_between low high z b h k = grind (arith, ints)

not_passed_below : (low high z : ℤ) (b : Bool) → high ≤ℤ z → pos 0 ≡ one_if (passes low high z && b)
not_passed_below low high z b h = grind (arith, ints)

not_passed_above : (low high z : ℤ) (b : Bool) → z <ℤ low → pos 0 ≡ one_if (passes low high z && b)
not_passed_above low high z b h = grind (arith, ints)

upright : (x y low high py pz : ℤ) → low ≤ℤ high
    → turn (at x y low) (at x y high) py pz ≡ one_if (passes low high pz && int_lt py y)
upright x y low high py pz order = by (at_most_or_above low pz) (at_most_or_above high pz)
  where
    l : ℤ
    l = left (at x y low) (at x y high) py pz

    Claim : Type 0
    Claim = turn (at x y low) (at x y high) py pz ≡ one_if (passes low high pz && int_lt py y)

    between_heights : low ≤ℤ pz → pz <ℤ high → low <ℤ high
    between_heights p q = omega (arith, ints)

    higher_still : pz <ℤ low → pz <ℤ high
    higher_still p = omega (arith, ints)

    by : (low ≤ℤ pz) ⊎ (pz <ℤ low) → (high ≤ℤ pz) ⊎ (pz <ℤ high) → Claim
    by (inl p) (inl q) =
        turn_of-below low high pz l p q ∙ not_passed_below low high pz (int_lt py y) q
    by (inl p) (inr q) =
        by_sign (turn_of low high pz l) l py y (turn_of-up low high pz l p q)
        (λ k. subst (λ (m : ℤ). pos 0 <ℤ m) (sym (left_upright x y low high py pz)) (left_ahead y py low high (between_heights p q) k))
        (λ k. subst (λ (m : ℤ). m ≤ℤ pos 0) (sym (left_upright x y low high py pz)) (left_behind y py low high (between_heights p q) k))
        ∙ passed_between low high pz (int_lt py y) p q
    by (inr p) q =
        turn_of-above low high pz l p (higher_still p) ∙ not_passed_above low high pz (int_lt py y) p

level : (x y1 y2 h py pz : ℤ) → turn (at x y1 h) (at x y2 h) py pz ≡ pos 0
level x y1 y2 h py pz = by (at_most_or_above h pz)
  where
    by : (h ≤ℤ pz) ⊎ (pz <ℤ h) → turn (at x y1 h) (at x y2 h) py pz ≡ pos 0
    by (inl p) = turn_of-below h h pz (left (at x y1 h) (at x y2 h) py pz) p p
    by (inr p) = turn_of-above h h pz (left (at x y1 h) (at x y2 h) py pz) p p

-- ---- the two facets of a side: the diagonal turns there and back
at_far_end : (a b c d e f m n : ℤ) → a ≡ pos 0 → b ≡ m → c ≡ neg_ℤ d → e ≡ pos 0 → f ≡ neg_ℤ n
    → (a +ℤ b +ℤ c) +ℤ (d +ℤ e +ℤ f) ≡ m -ℤ n
at_far_end a b c d e f m n p q r s t = omega (arith, ints)

at_near_end : (a b c d e f m n : ℤ) → a ≡ n → b ≡ pos 0 → c ≡ neg_ℤ d → e ≡ neg_ℤ m → f ≡ pos 0
    → (a +ℤ b +ℤ c) +ℤ (d +ℤ e +ℤ f) ≡ neg_ℤ (m -ℤ n)
at_near_end a b c d e f m n p q r s t = omega (arith, ints)

module _ (x y1 y2 z1 z2 py pz : ℤ) (order : z1 ≤ℤ z2) where
  abbrev low_low : Point
  low_low = at x y1 z1

  abbrev high_low : Point
  high_low = at x y2 z1

  abbrev high_high : Point
  high_high = at x y2 z2

  abbrev low_high : Point
  low_high = at x y1 z2

  -- 1 if the line passes the rectangle, else 0
  abbrev width : ℤ
  width = one_if (passes z1 z2 pz && int_lt py y2) -ℤ one_if (passes z1 z2 pz && int_lt py y1)

  winds_far : wind (facet_with low_low high_low high_high) py pz +ℤ wind (facet_with low_low high_high low_high) py pz ≡ width
  unfolding wind
  winds_far =
      at_far_end (turn low_low high_low py pz) (turn high_low high_high py pz) (turn high_high low_low py pz)
      (turn low_low high_high py pz) (turn high_high low_high py pz) (turn low_high low_low py pz) _ _
      (level x y1 y2 z1 py pz) (upright x y2 z1 z2 py pz order) (turn-opposite low_low high_high py pz)
      (level x y2 y1 z2 py pz) (turn-opposite low_low low_high py pz ∙ ap neg_ℤ (upright x y1 z1 z2 py pz order))

  winds_near : wind (facet_with low_low low_high high_high) py pz +ℤ wind (facet_with low_low high_high high_low) py pz ≡ neg_ℤ width
  unfolding wind
  winds_near =
      at_near_end (turn low_low low_high py pz) (turn low_high high_high py pz) (turn high_high low_low py pz)
      (turn low_low high_high py pz) (turn high_high high_low py pz) (turn high_low low_low py pz) _ _
      (upright x y1 z1 z2 py pz order) (level x y1 y2 z2 py pz) (turn-opposite low_low high_high py pz)
      (turn-opposite high_low high_high py pz ∙ ap neg_ℤ (upright x y2 z1 z2 py pz order)) (level x y2 y1 z1 py pz)

  side_hits : (f g v w z : ℤ) (b : Bool) → f ≡ cond b v (pos 0) → g ≡ cond b w (pos 0) → v +ℤ w ≡ z
      → f +ℤ (g +ℤ pos 0) ≡ cond b z (pos 0)
  side_hits f g v w z true p q r = grind (arith, ints)
  side_hits f g v w z false p q r = grind (arith, ints)

  far_hits : (c : Point) → c.y ≡ py → c.z ≡ pz
      → hit (facet_with low_low high_low high_high) c +ℤ (hit (facet_with low_low high_high low_high) c +ℤ pos 0)
      ≡ cond (int_lt c.x x) width (pos 0)
  far_hits c e f =
      side_hits _ _ _ _ width (int_lt c.x x) (hit_across x y1 z1 y2 z1 y2 z2 c) (hit_across x y1 z1 y2 z2 y1 z2 c)
      ((λ i. wind (facet_with low_low high_low high_high) (e i) (f i) +ℤ wind (facet_with low_low high_high low_high) (e i) (f i)) ∙ winds_far)

  near_hits : (c : Point) → c.y ≡ py → c.z ≡ pz
      → hit (facet_with low_low low_high high_high) c +ℤ (hit (facet_with low_low high_high high_low) c +ℤ pos 0)
      ≡ cond (int_lt c.x x) (neg_ℤ width) (pos 0)
  near_hits c e f =
      side_hits _ _ _ _ (neg_ℤ width) (int_lt c.x x) (hit_across x y1 z1 y1 z2 y2 z2 c) (hit_across x y1 z1 y2 z2 y2 z1 c)
      ((λ i. wind (facet_with low_low low_high high_high) (e i) (f i) +ℤ wind (facet_with low_low high_high high_low) (e i) (f i)) ∙ winds_near)

-- ---- the sides at the ends of y and z are edge-on
no_hits : (f g : ℤ) → f ≡ pos 0 → g ≡ pos 0 → f +ℤ (g +ℤ pos 0) ≡ pos 0
no_hits f g e h = omega (arith, ints)

level_y : (y x1 z1 x2 z2 x3 z3 : ℤ) (c : Point) → hit (twice (facet_with (at x1 y z1) (at x2 y z2) (at x3 y z3))) c ≡ pos 0
level_y y x1 z1 x2 z2 x3 z3 c =
    hit_edge_on (twice (facet_with (at x1 y z1) (at x2 y z2) (at x3 y z3))) c
    (identity (y ∷ z1 ∷ z2 ∷ z3 ∷ []) (search reads depth 40 fits 5000) refl)

level_z : (z x1 y1 x2 y2 x3 y3 : ℤ) (c : Point) → hit (twice (facet_with (at x1 y1 z) (at x2 y2 z) (at x3 y3 z))) c ≡ pos 0
level_z z x1 y1 x2 y2 x3 y3 c =
    hit_edge_on (twice (facet_with (at x1 y1 z) (at x2 y2 z) (at x3 y3 z))) c
    (identity (z ∷ y1 ∷ y2 ∷ y3 ∷ []) (search reads depth 40 fits 5000) refl)

side_y : (y x1 z1 x2 z2 x3 z3 x4 z4 : ℤ) (c : Point) → ray (side (at x1 y z1) (at x2 y z2) (at x3 y z3) (at x4 y z4)) c ≡ pos 0
side_y y x1 z1 x2 z2 x3 z3 x4 z4 c = no_hits _ _ (level_y y x1 z1 x2 z2 x3 z3 c) (level_y y x1 z1 x3 z3 x4 z4 c)

side_z : (z x1 y1 x2 y2 x3 y3 x4 y4 : ℤ) (c : Point) → ray (side (at x1 y1 z) (at x2 y2 z) (at x3 y3 z) (at x4 y4 z)) c ≡ pos 0
side_z z x1 y1 x2 y2 x3 y3 x4 y4 c = no_hits _ _ (level_z z x1 y1 x2 y2 x3 y3 c) (level_z z x1 y1 x3 y3 x4 y4 c)

none_of_two : (xs ys : List Facet) (c : Point) → ray xs c ≡ pos 0 → ray ys c ≡ pos 0 → ray (xs ++ ys) c ≡ pos 0
none_of_two xs ys c e f = ray-append xs ys c ∙ (λ i. e i +ℤ f i)

ray-sides_y : (low high c : Point) → ray (sides_y low high) c ≡ pos 0
ray-sides_y low high c =
    none_of_two (side (at low.x low.y low.z) (at high.x low.y low.z) (at high.x low.y high.z) (at low.x low.y high.z))
    (side (at low.x high.y low.z) (at low.x high.y high.z) (at high.x high.y high.z) (at high.x high.y low.z)) c
    (side_y low.y low.x low.z high.x low.z high.x high.z low.x high.z c)
    (side_y high.y low.x low.z low.x high.z high.x high.z high.x low.z c)

ray-sides_z : (low high c : Point) → ray (sides_z low high) c ≡ pos 0
ray-sides_z low high c =
    none_of_two (side (at low.x low.y low.z) (at low.x high.y low.z) (at high.x high.y low.z) (at high.x low.y low.z))
    (side (at low.x low.y high.z) (at high.x low.y high.z) (at high.x high.y high.z) (at low.x high.y high.z)) c
    (side_z low.z low.x low.y low.x high.y high.x high.y high.x low.y c)
    (side_z high.z low.x low.y high.x low.y high.x high.y low.x high.y c)

-- ---- what the tests say
width-is : (low high z : Bool) → (low ≡ true → high ≡ true)
    → one_if (z && high) -ℤ one_if (z && low) ≡ one_if ((not low && high) && z)
width-is true true true h = refl
width-is true true false h = refl
width-is true false z h = absurd (let e : false ≡ true = h refl in cc)
width-is false true true h = refl
width-is false true false h = refl
width-is false false true h = refl
width-is false false false h = refl

depth-is : (low high : Bool) (w : ℤ) → (low ≡ true → high ≡ true)
    → cond low (neg_ℤ w) (pos 0) +ℤ cond high w (pos 0) ≡ cond (not low && high) w (pos 0)
depth-is true true w h = cancelled w
  where
    cancelled : (w : ℤ) → neg_ℤ w +ℤ w ≡ pos 0
    cancelled w = omega (arith, ints)
depth-is true false w h = absurd (let e : false ≡ true = h refl in cc)
depth-is false true w h = +ℤ_idl w
depth-is false false w h = refl

all_three : (x y z : Bool) → cond x (one_if (y && z)) (pos 0) ≡ one_if (x && y && z)
all_three true true z = refl
all_three true false z = refl
all_three false y z = refl

below_too : (low high m : ℤ) → low ≤ℤ high → int_lt m (pos 2 *ℤ low) ≡ true → int_lt m (pos 2 *ℤ high) ≡ true
below_too low high m h k = grind (arith, ints)

twice_order : (low high : ℤ) → low ≤ℤ high → (pos 2 *ℤ low) ≤ℤ (pos 2 *ℤ high)
twice_order low high h = omega (arith, ints)

between-is : (low high m : ℤ) → (not (int_lt m (pos 2 *ℤ low)) && int_lt m (pos 2 *ℤ high)) ≡ is_from_to low high m
between-is low high m = ap (λ b. b && int_lt m (pos 2 *ℤ high)) (sym (above_or_not (pos 2 *ℤ low) m))

-- ---- the whole box
ray-sides_x : (low high c : Point) → IsBox low high → ray (sides_x low high) c ≡ one_if (holds low high c)
ray-sides_x low high c order =
    ray-append near far c
    ∙ (λ i. near_hits (pos 2 *ℤ low.x) y1 y2 z1 z2 c.y c.z z_order c refl refl i +ℤ far_hits (pos 2 *ℤ high.x) y1 y2 z1 z2 c.y c.z z_order c refl refl i)
    ∙ depth-is (int_lt c.x (pos 2 *ℤ low.x)) (int_lt c.x (pos 2 *ℤ high.x)) w (below_too low.x high.x c.x order.x)
    ∙ (λ i. cond (between-is low.x high.x c.x i) (across i) (pos 0))
    ∙ all_three (is_from_to low.x high.x c.x) (is_from_to low.y high.y c.y) (is_from_to low.z high.z c.z)
  where
    near : List Facet
    near = side (at low.x low.y low.z) (at low.x low.y high.z) (at low.x high.y high.z) (at low.x high.y low.z)

    far : List Facet
    far = side (at high.x low.y low.z) (at high.x high.y low.z) (at high.x high.y high.z) (at high.x low.y high.z)

    y1 : ℤ
    y1 = pos 2 *ℤ low.y

    y2 : ℤ
    y2 = pos 2 *ℤ high.y

    z1 : ℤ
    z1 = pos 2 *ℤ low.z

    z2 : ℤ
    z2 = pos 2 *ℤ high.z

    z_order : z1 ≤ℤ z2
    z_order = twice_order low.z high.z order.z

    w : ℤ
    w = one_if (passes z1 z2 c.z && int_lt c.y y2) -ℤ one_if (passes z1 z2 c.z && int_lt c.y y1)

    across : w ≡ one_if (is_from_to low.y high.y c.y && is_from_to low.z high.z c.z)
    across =
        width-is (int_lt c.y y1) (int_lt c.y y2) (passes z1 z2 c.z) (below_too low.y high.y c.y order.y)
        ∙ ap (λ b. one_if (b && passes z1 z2 c.z)) (between-is low.y high.y c.y)

pub ray-box : (low high c : Point) → IsBox low high → ray (box low high) c ≡ one_if (holds low high c)
ray-box low high c order =
    ray-append (sides_x low high) (sides_y low high ++ sides_z low high) c
    ∙ ap (λ z. ray (sides_x low high) c +ℤ z) (none_of_two (sides_y low high) (sides_z low high) c (ray-sides_y low high c) (ray-sides_z low high c))
    ∙ +ℤ_idr (ray (sides_x low high) c)
    ∙ ray-sides_x low high c order

inside_one : (rule : Rule) (b : Bool) → is_inside rule (one_if b) ≡ b
inside_one EvenOdd true = refl
inside_one EvenOdd false = refl
inside_one NonZero true = refl
inside_one NonZero false = refl
inside_one Positive true = refl
inside_one Positive false = refl

pub filled-box : (low high : Point) → IsBox low high → (g : Grid) (rule : Rule) (i j k : ℕ)
    → is_filled rule (box low high) (centre g i j k) ≡ holds low high (centre g i j k)
filled-box low high order g rule i j k =
    ap (is_inside rule) (ray-box low high (centre g i j k) order) ∙ inside_one rule (holds low high (centre g i j k))
