-- A facet that the line along x through a point crosses exactly there touches the point.
use Rattle.std.proofs.Common.{◌≡◌, ◌⊎◌, inl, inr, ℕ, [], ◌∷◌, ℤ, pos, negsuc, ◌+ℤ◌, ◌-ℤ◌, ◌*ℤ◌, neg_ℤ, ◌≤ℤ◌, ◌<ℤ◌, refl, sym, ◌∙◌, ap, subst, arith}
use Rattle.std.proofs.lemmas.Int.{ints}
use Rattle.exact_int.proofs.lemmas.Identity.{reads, identity}
use Rattle.exact_int.proofs.lemmas.Signs.{weak, weak_below}
use Rattle.geometry.specs.Point.{Point}
use Rattle.geometry.specs.Facet.{Facet}
use Rattle.geometry.specs.Touch.{Touches}
use Rattle.geometry.specs.Winding.{left, volume, wind}
use Rattle.exact_cut.specs.Crossing.{Crosses}
use Rattle.exact_cut.specs.Cut.{finish, start, Rises}
use Rattle.exact_cut.specs.CutPoint.{cut_d, cut_y}
use Rattle.exact_cut.proofs.lemmas.Ahead.{WindCase, winds_up, winds_down, winds_not, wind_case, crosses, cut-left, cut-left_down, Sides, all_below, all_above, between, sides, wind-below, wind-above}
use Rattle.exact_cut.proofs.lemmas.Steps.{Mean, crossing-mean}
use Rattle.exact_cut.proofs.lemmas.Touching.{touches_from}
use Rattle.exact_cut.proofs.lemmas.Winds.{Passes, passes, den_of, num_of}

mean-touches : (t : Facet) (c : Point) (num den : ℤ) → Mean t num den c.y c.z → pos 0 <ℤ den → num ≡ den *ℤ c.x → Touches t c
mean-touches t c num den mean some there =
    touches_from t c mean.l mean.m mean.n mean.l_in mean.m_in mean.n_in (subst (λ (k : ℤ). pos 0 <ℤ k) (sym mean.total) some)
    (mean.mean_x ∙ there ∙ ap (λ k. k *ℤ c.x) (sym mean.total))
    (mean.mean_y ∙ ap (λ k. k *ℤ c.y) (sym mean.total))
    (mean.mean_z ∙ ap (λ k. k *ℤ c.z) (sym mean.total))

-- the fraction of the crossing, if the facet's plane passes through the point
crossed_there : (w num den x h v : ℤ) → num -ℤ x *ℤ den ≡ h *ℤ v → v ≡ pos 0 → w *ℤ num ≡ (w *ℤ den) *ℤ x
crossed_there w num den x h v e f =
    identity (w ∷ num ∷ den ∷ x ∷ []) (search reads depth 40) refl
    ∙ ap (λ k. (w *ℤ den) *ℤ x +ℤ w *ℤ k) (e ∙ ap (λ k. h *ℤ k) f)
    ∙ last w den x h
  where
    last : (w den x h : ℤ) → (w *ℤ den) *ℤ x +ℤ w *ℤ (h *ℤ pos 0) ≡ (w *ℤ den) *ℤ x
    last w den x h = identity (w ∷ den ∷ x ∷ h ∷ []) (search reads depth 40) refl

-- if the winding is not 0, it has the signs of both cross products
times_one : (w a : ℤ) → w ≡ pos 1 → pos 0 ≤ℤ a → pos 0 ≤ℤ (w *ℤ a)
times_one w a e h = subst (λ (k : ℤ). pos 0 ≤ℤ (k *ℤ a)) (sym e) (once a h)
  where
    once : (a : ℤ) → pos 0 ≤ℤ a → pos 0 ≤ℤ (pos 1 *ℤ a)
    once a h = omega (arith, ints)

times_minus : (w a : ℤ) → w ≡ negsuc 0 → a ≤ℤ pos 0 → pos 0 ≤ℤ (w *ℤ a)
times_minus w a e h = subst (λ (k : ℤ). pos 0 ≤ℤ (k *ℤ a)) (sym e) (taken a h)
  where
    taken : (a : ℤ) → a ≤ℤ pos 0 → pos 0 ≤ℤ (negsuc 0 *ℤ a)
    taken a h = omega (arith, ints)

same_signs : (w up down : ℤ) → WindCase w up down → (w ≡ pos 0) ⊎ ((pos 0 ≤ℤ (w *ℤ up)) × (pos 0 ≤ℤ (w *ℤ down)))
same_signs w up down (winds_up e a b) = inr (times_one w up e (weak up a), times_one w down e b)
same_signs w up down (winds_down e a b) = inr (times_minus w up e a, times_minus w down e (weak_below down b))
same_signs w up down (winds_not e) = inl e

reversed : (w a b : ℤ) → w *ℤ (a -ℤ b) ≡ neg_ℤ (w *ℤ (b -ℤ a))
reversed w a b = identity (w ∷ a ∷ b ∷ []) (search reads depth 40) refl

-- a facet in whose plane the point lies, and which does not touch it, is not wound about the line
pub untouched-wind : (t : Facet) (c : Point) → volume t c ≡ pos 0 → ¬ Touches t c → wind t c.y c.z ≡ pos 0
untouched-wind t c flat free = by (sides t c.z)
  where
    w : ℤ
    w = wind t c.y c.z

    cut : (d u : ℕ) → Rises (finish t d) (start t d) c.z → Rises (start t u) (finish t u) c.z → w ≡ pos 0
    cut d u falls rises = go (same_signs w (left p q c.y c.z) (left s r c.y c.z) (wind_case t r s p q c.y c.z h)) (crosses t r s p q c.y c.z h)
      where
        r : Point
        r = finish t d

        s : Point
        s = start t d

        p : Point
        p = start t u

        q : Point
        q = finish t u

        h : Passes t r s p q c.z
        h = passes t c.z d u falls rises

        up : pos 0 ≤ℤ (w *ℤ left p q c.y c.z) → pos 0 ≤ℤ (w *ℤ (cut_y p q c.z -ℤ c.y *ℤ cut_d p q))
        up k = subst (λ (l : ℤ). pos 0 ≤ℤ (w *ℤ l)) (cut-left p q c.y c.z) k

        down : pos 0 ≤ℤ (w *ℤ left s r c.y c.z) → pos 0 ≤ℤ neg_ℤ (w *ℤ (cut_y r s c.z -ℤ c.y *ℤ cut_d r s))
        down k =
            subst (λ (l : ℤ). pos 0 ≤ℤ l)
            (ap (λ l. w *ℤ l) (cut-left_down r s c.y c.z) ∙ reversed w (c.y *ℤ cut_d r s) (cut_y r s c.z)) k

        go : (w ≡ pos 0) ⊎ ((pos 0 ≤ℤ (w *ℤ left p q c.y c.z)) × (pos 0 ≤ℤ (w *ℤ left s r c.y c.z)))
            → (w ≡ pos 0) ⊎ Crosses t c.y c.z w (w *ℤ num_of r s p q c.y c.z) (w *ℤ den_of r s p q c.z) → w ≡ pos 0
        go (inl e) k = e
        go (inr a) (inl e) = e
        go (inr a) (inr k) =
            absurd
            (free
            (mean-touches t c (w *ℤ num_of r s p q c.y c.z) (w *ℤ den_of r s p q c.z)
            (crossing-mean t c.y c.z w d u falls rises (up a.0) (down a.1)) k.den_positive
            (crossed_there w (num_of r s p q c.y c.z) (den_of r s p q c.z) c.x h.height (volume t c) (h.num_is c.x c.y) flat)))

    by : Sides t c.z → w ≡ pos 0
    by (all_below a b e) = wind-below t c.y c.z a b e
    by (all_above a b e) = wind-above t c.y c.z a b e
    by (between d u falls rises) = cut d u falls rises
