-- A facet's one edge down and one edge up at a height. They make up its winding, and the line through their cut points is in
-- the facet's plane.
use Rattle.std.proofs.Common.{◌≡◌, ℕ, zero, suc, [], ◌∷◌, ℤ, pos, ◌+ℤ◌, ◌-ℤ◌, ◌*ℤ◌, neg_ℤ, ◌≤ℤ◌, refl, ◌∙◌, ap, arith}
use Rattle.std.proofs.lemmas.Int.{ints}
use Rattle.exact_int.proofs.lemmas.Identity.{reads, identity}
use Rattle.geometry.specs.TieRule.{IsBelow, IsAbove}
use Rattle.geometry.specs.Point.{Point}
use Rattle.geometry.specs.Facet.{Facet, facet_with}
use Rattle.geometry.specs.Winding.{left, turn, wind, determinant, volume, normal_x, normal_y}
use Rattle.exact_cut.specs.Cut.{start, finish, Rises}
use Rattle.exact_cut.specs.CutPoint.{cut_y, cut_x, cut_d}
use Rattle.exact_cut.proofs.lemmas.Turns.{turn_of-below, turn_of-above}

-- the crossing of the scanline y by the line through the cut points of s down to r and of p up to q, before its sign is chosen
abbrev pub den_of : Point → Point → Point → Point → ℤ → ℤ
den_of r s p q z = cut_y p q z *ℤ cut_d r s -ℤ cut_y r s z *ℤ cut_d p q

abbrev pub num_of : Point → Point → Point → Point → ℤ → ℤ → ℤ
num_of r s p q y z =
    cut_x r s z *ℤ cut_y p q z -ℤ cut_y r s z *ℤ cut_x p q z +ℤ y *ℤ (cut_x p q z *ℤ cut_d r s -ℤ cut_x r s z *ℤ cut_d p q)

-- an amount of edges that is 0 at an edge whose ends lie on one side of z
pub record Quiet (f : Point → Point → ℤ) (z : ℤ) : Type 0 where
  pub below : (u v : Point) → IsBelow u.z z → IsBelow v.z z → f u v ≡ pos 0
  pub above : (u v : Point) → IsAbove u.z z → IsAbove v.z z → f u v ≡ pos 0

-- The facet's one edge down, from s to r, and its one edge up, from p to q, at the height z. One corner is alone on its side,
-- and `height` is its distance from z. It may be 0 if that corner is the lower one.
pub record Passes (t : Facet) (r s p q : Point) (z : ℤ) : Type 0 where
  pub up : Rises p q z
  pub down : Rises r s z
  pub height : ℤ
  pub not_negative : pos 0 ≤ℤ height
  pub sums : (f : Point → Point → ℤ) → Quiet f z → f t.a t.b +ℤ f t.b t.c +ℤ f t.c t.a ≡ f p q +ℤ f s r
  pub winds : (y : ℤ) → wind t y z ≡ turn p q y z +ℤ turn s r y z
  pub den_is : den_of r s p q z ≡ height *ℤ normal_x t
  pub den_x_is : cut_x p q z *ℤ cut_d r s -ℤ cut_x r s z *ℤ cut_d p q ≡ neg_ℤ (height *ℤ normal_y t)
  pub num_is : (x y : ℤ) → num_of r s p q y z -ℤ x *ℤ den_of r s p q z ≡ height *ℤ volume t (record { x = x; y = y; z = z })

add_zero_mid : (a b c : ℤ) → b ≡ pos 0 → a +ℤ b +ℤ c ≡ a +ℤ c
add_zero_mid a b c e = omega (arith, ints)

add_zero_last : (a b c : ℤ) → c ≡ pos 0 → a +ℤ b +ℤ c ≡ a +ℤ b
add_zero_last a b c e = omega (arith, ints)

-- a up to b, b down to c: b alone is above
passes-ab-bc : (t : Facet) (z : ℤ) → Rises t.a t.b z → Rises t.c t.b z → Passes t t.c t.b t.a t.b z
unfolding wind
passes-ab-bc t z u d = record {
  up = u;
  down = d;
  height = t.b.z -ℤ z;
  not_negative = omega (arith, ints);
  sums = λ f k. add_zero_last (f t.a t.b) (f t.b t.c) (f t.c t.a) (k.below t.c t.a d.low u.low);
  winds = λ y. add_zero_last (turn t.a t.b y z) (turn t.b t.c y z) (turn t.c t.a y z) (turn_of-below t.c.z t.a.z z (left t.c t.a y z) d.low u.low);
  den_is = identity (t.a.y ∷ t.a.z ∷ t.b.y ∷ t.b.z ∷ t.c.y ∷ t.c.z ∷ z ∷ []) (search reads depth 40 fits 5000) refl;
  den_x_is = identity (t.a.x ∷ t.a.z ∷ t.b.x ∷ t.b.z ∷ t.c.x ∷ t.c.z ∷ z ∷ []) (search reads depth 40 fits 5000) refl;
  num_is = λ x y. identity (t.a.x ∷ t.a.y ∷ t.a.z ∷ t.b.x ∷ t.b.y ∷ t.b.z ∷ t.c.x ∷ t.c.y ∷ t.c.z ∷ x ∷ y ∷ z ∷ []) (search reads depth 40 fits 5000) refl;
}

-- a up to b, c down to a: a alone is below
passes-ab-ca : (t : Facet) (z : ℤ) → Rises t.a t.b z → Rises t.a t.c z → Passes t t.a t.c t.a t.b z
unfolding wind
passes-ab-ca t z u d = record {
  up = u;
  down = d;
  height = z -ℤ t.a.z;
  not_negative = omega (arith, ints);
  sums = λ f k. add_zero_mid (f t.a t.b) (f t.b t.c) (f t.c t.a) (k.above t.b t.c u.high d.high);
  winds = λ y. add_zero_mid (turn t.a t.b y z) (turn t.b t.c y z) (turn t.c t.a y z) (turn_of-above t.b.z t.c.z z (left t.b t.c y z) u.high d.high);
  den_is = identity (t.a.y ∷ t.a.z ∷ t.b.y ∷ t.b.z ∷ t.c.y ∷ t.c.z ∷ z ∷ []) (search reads depth 40 fits 5000) refl;
  den_x_is = identity (t.a.x ∷ t.a.z ∷ t.b.x ∷ t.b.z ∷ t.c.x ∷ t.c.z ∷ z ∷ []) (search reads depth 40 fits 5000) refl;
  num_is = λ x y. identity (t.a.x ∷ t.a.y ∷ t.a.z ∷ t.b.x ∷ t.b.y ∷ t.b.z ∷ t.c.x ∷ t.c.y ∷ t.c.z ∷ x ∷ y ∷ z ∷ []) (search reads depth 40 fits 5000) refl;
}

-- ---- the same facet, from its second corner on
abbrev from_second : Facet → Facet
from_second t = facet_with t.b t.c t.a

last_first : (a b c : ℤ) → a +ℤ b +ℤ c ≡ b +ℤ c +ℤ a
last_first a b c = omega (arith, ints)

normal_x-turned : (t : Facet) → normal_x (from_second t) ≡ normal_x t
normal_x-turned t = identity (t.a.y ∷ t.a.z ∷ t.b.y ∷ t.b.z ∷ t.c.y ∷ t.c.z ∷ []) (search reads depth 40 fits 5000) refl

normal_y-turned : (t : Facet) → normal_y (from_second t) ≡ normal_y t
normal_y-turned t = identity (t.a.x ∷ t.a.z ∷ t.b.x ∷ t.b.z ∷ t.c.x ∷ t.c.z ∷ []) (search reads depth 40 fits 5000) refl

-- of three rows, the last one first
determinant-turned : (a b c d e f g h i : ℤ) → determinant d e f g h i a b c ≡ determinant a b c d e f g h i
determinant-turned a b c d e f g h i = identity (a ∷ b ∷ c ∷ d ∷ e ∷ f ∷ g ∷ h ∷ i ∷ []) (search reads depth 40 fits 5000) refl

passes-turned : (t : Facet) (r s p q : Point) (z : ℤ) → Passes (from_second t) r s p q z → Passes t r s p q z
unfolding wind
passes-turned t r s p q z h = record {
  up = h.up;
  down = h.down;
  height = h.height;
  not_negative = h.not_negative;
  sums = λ f k. last_first (f t.a t.b) (f t.b t.c) (f t.c t.a) ∙ h.sums f k;
  winds = λ y. last_first (turn t.a t.b y z) (turn t.b t.c y z) (turn t.c t.a y z) ∙ h.winds y;
  den_is = h.den_is ∙ ap (λ n. h.height *ℤ n) (normal_x-turned t);
  den_x_is = h.den_x_is ∙ ap (λ n. neg_ℤ (h.height *ℤ n)) (normal_y-turned t);
  num_is = λ x y.
      h.num_is x y
      ∙ ap (λ v. h.height *ℤ v) (determinant-turned (t.a.x -ℤ x) (t.a.y -ℤ y) (t.a.z -ℤ z) (t.b.x -ℤ x) (t.b.y -ℤ y) (t.b.z -ℤ z) (t.c.x -ℤ x) (t.c.y -ℤ y) (t.c.z -ℤ z));
}

-- b up to c, a down to b: b alone is below
passes-bc-ab : (t : Facet) (z : ℤ) → Rises t.b t.c z → Rises t.b t.a z → Passes t t.b t.a t.b t.c z
passes-bc-ab t z u d = passes-turned t t.b t.a t.b t.c z (passes-ab-ca (from_second t) z u d)

-- b up to c, c down to a: c alone is above
passes-bc-ca : (t : Facet) (z : ℤ) → Rises t.b t.c z → Rises t.a t.c z → Passes t t.a t.c t.b t.c z
passes-bc-ca t z u d = passes-turned t t.a t.c t.b t.c z (passes-ab-bc (from_second t) z u d)

-- c up to a, a down to b: a alone is above
passes-ca-ab : (t : Facet) (z : ℤ) → Rises t.c t.a z → Rises t.b t.a z → Passes t t.b t.a t.c t.a z
passes-ca-ab t z u d = passes-turned t t.b t.a t.c t.a z (passes-bc-ca (from_second t) z u d)

-- c up to a, b down to c: c alone is below
passes-ca-bc : (t : Facet) (z : ℤ) → Rises t.c t.a z → Rises t.c t.b z → Passes t t.c t.b t.c t.a z
passes-ca-bc t z u d = passes-turned t t.c t.b t.c t.a z (passes-bc-ab (from_second t) z u d)

not_both : (u v : Point) (z : ℤ) → Rises u v z → Rises v u z → ⊥
not_both u v z h k = omega (arith, ints)

-- by the edges' numbers
pub passes : (t : Facet) (z : ℤ) (d u : ℕ) → Rises (finish t d) (start t d) z → Rises (start t u) (finish t u) z → Passes t (finish t d) (start t d) (start t u) (finish t u) z
passes t z zero zero d u = absurd (not_both t.a t.b z u d)
passes t z zero (suc zero) d u = passes-bc-ab t z u d
passes t z zero (suc (suc n)) d u = passes-ca-ab t z u d
passes t z (suc zero) zero d u = passes-ab-bc t z u d
passes t z (suc zero) (suc zero) d u = absurd (not_both t.b t.c z u d)
passes t z (suc zero) (suc (suc n)) d u = passes-ca-bc t z u d
passes t z (suc (suc m)) zero d u = passes-ab-ca t z u d
passes t z (suc (suc m)) (suc zero) d u = passes-bc-ca t z u d
passes t z (suc (suc m)) (suc (suc n)) d u = absurd (not_both t.c t.a z u d)
