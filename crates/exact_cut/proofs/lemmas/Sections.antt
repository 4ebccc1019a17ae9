-- The crossing of a facet, from the ends of its section.
use Rattle.std.proofs.Common.{◌≡◌, ◌⊎◌, ◌↔◌, [], ◌∷◌, Bool, true, false, ℤ, pos, negsuc, ◌*ℤ◌, neg_ℤ, ◌≤ℤ◌, ◌<ℤ◌, IsTrue, refl, sym, ◌∙◌, subst, inl, inr, arith}
use Rattle.std.proofs.lemmas.Int.{ints}
use mathlib.Core.Bool.{beq}
use Rattle.exact_int.proofs.lemmas.Signs.{at_most_or_above}
use Rattle.geometry.specs.Point.{Point}
use Rattle.geometry.specs.Facet.{Facet}
use Rattle.geometry.specs.Winding.{wind}
use Rattle.exact_cut.specs.Cut.{start, finish, IsBetween, IsCut}
use Rattle.exact_cut.specs.CutPoint.{CutIs, cut_x, cut_y, cut_d}
use Rattle.exact_cut.specs.Crossing.{Crosses}
use Rattle.exact_cut.specs.Laws.{Meets}
use Rattle.exact_cut.specs.declared.cut.Cut.{Cut}
use Rattle.exact_cut.specs.declared.scanline.cut_point.CutPoint.{CutPoint}
use Rattle.exact_cut.specs.declared.scanline.section.Section.{Section}
use Rattle.exact_cut.specs.Section.{IsSection, num_between, den_between}
use Rattle.exact_int.proofs.lemmas.Identity.{reads, identity}
use Rattle.exact_cut.proofs.lemmas.Winds.{Passes, passes}
use Rattle.exact_cut.proofs.lemmas.Ahead.{wind-outside, crosses_by, meets-by, meets-negated, sides-same, sides-up, sides-down}

cut_is : (l h l' h' : Point) (z x y d : ℤ) → l ≡ l' → h ≡ h' → x ≡ cut_x l h z → y ≡ cut_y l h z → d ≡ cut_d l h → CutIs l' h' z x y d
cut_is l h l' h' z x y d e f a b c = record { x_is = a ∙ (λ i. cut_x (e i) (f i) z); y_is = b ∙ (λ i. cut_y (e i) (f i) z); d_is = c ∙ (λ i. cut_d (e i) (f i)) }

-- a section, from the corners and cut points that the code computes
pub from_steps : (t : Facet) (z : ℤ) (c : Cut) (p q : CutPoint) {dl dh ul uh : Point} → IsCut t z c
    → dl ≡ finish t c.down → dh ≡ start t c.down → ul ≡ start t c.up → uh ≡ finish t c.up
    → p.x ≡ cut_x dl dh z → p.y ≡ cut_y dl dh z → p.d ≡ cut_d dl dh → q.x ≡ cut_x ul uh z → q.y ≡ cut_y ul uh z → q.d ≡ cut_d ul uh → IsSection t z (record { down = p; up = q })
from_steps t z c p q {dl} {dh} {ul} {uh} k e1 e2 e3 e4 px py pd qx qy qd = record {
  cut = c;
  is_cut = k;
  down = cut_is dl dh (finish t c.down) (start t c.down) z p.x p.y p.d e1 e2 px py pd;
  up = cut_is ul uh (start t c.up) (finish t c.up) z q.x q.y q.d e3 e4 qx qy qd;
}

-- a test that fails
not_less : (b : Bool) (x y : ℤ) → IsTrue b ↔ (x <ℤ y) → b ≡ false → y ≤ℤ x
not_less b x y h e = by (at_most_or_above y x)
  where
    by : (y ≤ℤ x) ⊎ (x <ℤ y) → y ≤ℤ x
    by (inl k) = k
    by (inr k) = let l = h.1 k in absurd (cc)

num-swap : (p q : CutPoint) (y : ℤ) → neg_ℤ (num_between p q y) ≡ num_between q p y
num-swap p q y = identity (p.x ∷ p.y ∷ p.d ∷ q.x ∷ q.y ∷ q.d ∷ y ∷ []) (search reads depth 40 fits 5000) refl

den-swap : (p q : CutPoint) → neg_ℤ (den_between p q) ≡ den_between q p
den-swap p q = identity (p.y ∷ p.d ∷ q.y ∷ q.d ∷ []) (search reads depth 40 fits 5000) refl

pub meets_as : {t : Facet} {y z num den num' den' : ℤ} → num' ≡ num → den' ≡ den → Meets t num den y z → Meets t num' den' y z
meets_as {t} {y} {z} {num} {den} {num'} {den'} e f m = subst (λ n. Meets t n den' y z) (sym e) (subst (λ d. Meets t num d y z) (sym f) m)

module _ (t : Facet) (y z : ℤ) (s : Section) (l : IsSection t z s) where
  passing : Passes t (finish t l.cut.down) (start t l.cut.down) (start t l.cut.up) (finish t l.cut.up) z
  passing = passes t z l.cut.down l.cut.up l.is_cut.falls l.is_cut.rises

  pub both_alike : ((y *ℤ s.down.d) <ℤ s.down.y) × ((y *ℤ s.up.d) <ℤ s.up.y) ⊎ (s.down.y ≤ℤ (y *ℤ s.down.d)) × (s.up.y ≤ℤ (y *ℤ s.up.d)) → wind t y z ≡ pos 0
  both_alike = sides-same t (finish t l.cut.down) (start t l.cut.down) (start t l.cut.up) (finish t l.cut.up) y z passing s.down.x s.down.y s.down.d s.up.x s.up.y s.up.d _ _ l.down l.up refl refl

  pub up_ahead : (y *ℤ s.up.d) <ℤ s.up.y → s.down.y ≤ℤ (y *ℤ s.down.d) → Crosses t y z (pos 1) (num_between s.down s.up y) (den_between s.down s.up)
  up_ahead = sides-up t (finish t l.cut.down) (start t l.cut.down) (start t l.cut.up) (finish t l.cut.up) y z passing s.down.x s.down.y s.down.d s.up.x s.up.y s.up.d _ _ l.down l.up refl refl

  pub down_ahead : s.up.y ≤ℤ (y *ℤ s.up.d) → (y *ℤ s.down.d) <ℤ s.down.y → Crosses t y z (negsuc 0) (num_between s.up s.down y) (den_between s.up s.down)
  down_ahead h k =
      let c = sides-down t (finish t l.cut.down) (start t l.cut.down) (start t l.cut.up) (finish t l.cut.up) y z passing s.down.x s.down.y s.down.d s.up.x s.up.y s.up.d _ _ l.down l.up refl refl h k in
      subst (λ n. Crosses t y z (negsuc 0) n (den_between s.up s.down)) (num-swap s.down s.up y) (subst (λ n. Crosses t y z (negsuc 0) (neg_ℤ (num_between s.down s.up y)) n) (den-swap s.down s.up) c)

  pub up_meets : Meets t (num_between s.down s.up y) (den_between s.down s.up) y z
  up_meets = meets-by t (finish t l.cut.down) (start t l.cut.down) (start t l.cut.up) (finish t l.cut.up) y z passing s.down.x s.down.y s.down.d s.up.x s.up.y s.up.d _ _ l.down l.up refl refl

  pub down_meets : Meets t (num_between s.up s.down y) (den_between s.up s.down) y z
  down_meets = meets_as (sym (num-swap s.down s.up y)) (sym (den-swap s.down s.up)) (meets-negated t (num_between s.down s.up y) (den_between s.down s.up) y z up_meets)

  module _ (down up : Bool) (is_down : IsTrue down ↔ ((y *ℤ s.down.d) <ℤ s.down.y)) (is_up : IsTrue up ↔ ((y *ℤ s.up.d) <ℤ s.up.y)) where
    pub same_side : beq up down ≡ true → wind t y z ≡ pos 0
    same_side e = by up down refl refl e
      where
        by : (u d : Bool) → up ≡ u → down ≡ d → beq u d ≡ true → wind t y z ≡ pos 0
        by true true f g e = both_alike (inl (is_down.0 g, is_up.0 f))
        by true false f g e = cc
        by false true f g e = cc
        by false false f g e = both_alike (inr (not_less down (y *ℤ s.down.d) s.down.y is_down g, not_less up (y *ℤ s.up.d) s.up.y is_up f))

    pub up_alone : beq up down ≡ false → up ≡ true → Crosses t y z (pos 1) (num_between s.down s.up y) (den_between s.down s.up)
    up_alone e f = by down refl
      where
        by : (d : Bool) → down ≡ d → Crosses t y z (pos 1) (num_between s.down s.up y) (den_between s.down s.up)
        by true g = absurd (let h : beq true true ≡ false = (λ i. beq (sym f i) (sym g i)) ∙ e in cc)
        by false g = up_ahead (is_up.0 f) (not_less down (y *ℤ s.down.d) s.down.y is_down g)

    pub down_alone : beq up down ≡ false → up ≡ false → Crosses t y z (negsuc 0) (num_between s.up s.down y) (den_between s.up s.down)
    down_alone e f = by down refl
      where
        by : (d : Bool) → down ≡ d → Crosses t y z (negsuc 0) (num_between s.up s.down y) (den_between s.up s.down)
        by true g = down_ahead (not_less up (y *ℤ s.up.d) s.up.y is_up f) (is_down.0 g)
        by false g = absurd (let h : beq false false ≡ false = (λ i. beq (sym f i) (sym g i)) ∙ e in cc)

-- for numbers that are equal to those three
pub crosses_as : {t : Facet} {y z sign num den sign' num' den' : ℤ} → sign' ≡ sign → num' ≡ num → den' ≡ den → Crosses t y z sign num den → Crosses t y z sign' num' den'
crosses_as {t} {y} {z} {sign} {num} {den} {sign'} {num'} {den'} e f g c = crosses_by t y z sign num den sign' num' den' (sym e) (sym f) (sym g) c

-- the winding is not 0 there
pub crossed : {t : Facet} {y z sign num den : ℤ} → Crosses t y z sign num den → wind t y z ≡ pos 0 → ⊥
crossed {t} {y} {z} c e = by_unit (wind t y z) c.winding.unit e
  where
    by_unit : (w : ℤ) → (w ≡ pos 1) ⊎ (w ≡ negsuc 0) → w ≡ pos 0 → ⊥
    by_unit w (inl f) e = omega (arith, ints)
    by_unit w (inr f) e = omega (arith, ints)

-- if no edge passes the height
pub unpassed : (t : Facet) (z : ℤ) → (IsBetween t z → ⊥) → (y : ℤ) → wind t y z ≡ pos 0
unpassed t z n y = wind-outside t y z n
