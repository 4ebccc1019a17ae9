-- A facet with two corners exchanged is passed the other way, and lies where it lay.
use Rattle.std.proofs.Common.{◌≡◌, List, [], ◌∷◌, ℤ, pos, negsuc, zero, suc, ◌+ℤ◌, neg_ℤ, refl, ◌∙◌, ap, arith}
use Rattle.std.proofs.lemmas.Int.{ints}
use Rattle.exact_int.proofs.lemmas.Identity.{reads, identity}
use Rattle.geometry.specs.Point.{Point}
use Rattle.geometry.specs.Facet.{Facet, twice}
use Rattle.geometry.specs.Winding.{turn, turn_x, wind, wind_y, volume, hit, hit_y, ray, ray_y}
use Rattle.exact_cut.proofs.lemmas.Turns.{turn-opposite, turn_x-opposite}
use Rattle.exact_cut.proofs.lemmas.Quadrants.{ahead_only}
use Rattle.exact_cut.proofs.lemmas.Steps.{taken-neg}
use Rattle.mesh_weld.proofs.lemmas.Sums.{total-map, total-neg}
use Rattle.raster.specs.declared.rule.Rule.TheVariants.{EvenOdd, NonZero}
use Rattle.raster.specs.Rule.{is_inside}
use Rattle.slicer_laws.specs.InsideOut.{inside_out, turned}

-- the edges c a, b c and a b, each taken back
three_back : (a b c p q r : ℤ) → a ≡ neg_ℤ r → b ≡ neg_ℤ q → c ≡ neg_ℤ p → a +ℤ b +ℤ c ≡ neg_ℤ (p +ℤ q +ℤ r)
three_back a b c p q r e f g = omega (arith, ints)

wind-turned : (t : Facet) (y z : ℤ) → wind (turned t) y z ≡ neg_ℤ (wind t y z)
unfolding wind
wind-turned t y z =
    three_back (turn t.a t.c y z) (turn t.c t.b y z) (turn t.b t.a y z) (turn t.a t.b y z) (turn t.b t.c y z) (turn t.c t.a y z)
    (turn-opposite t.c t.a y z) (turn-opposite t.b t.c y z) (turn-opposite t.a t.b y z)

wind_y-turned : (t : Facet) (x z : ℤ) → wind_y (turned t) x z ≡ neg_ℤ (wind_y t x z)
unfolding wind_y
wind_y-turned t x z =
    ap neg_ℤ
    (three_back (turn_x t.a t.c x z) (turn_x t.c t.b x z) (turn_x t.b t.a x z) (turn_x t.a t.b x z) (turn_x t.b t.c x z) (turn_x t.c t.a x z)
    (turn_x-opposite t.c t.a x z) (turn_x-opposite t.b t.c x z) (turn_x-opposite t.a t.b x z))

volume-turned : (t : Facet) (p : Point) → volume (turned t) p ≡ neg_ℤ (volume t p)
volume-turned t p =
    identity (t.a.x ∷ t.a.y ∷ t.a.z ∷ t.b.x ∷ t.b.y ∷ t.b.z ∷ t.c.x ∷ t.c.y ∷ t.c.z ∷ p.x ∷ p.y ∷ p.z ∷ [])
    (search reads depth 40 fits 20000) refl

hit-turned : (t : Facet) (c : Point) → hit (turned t) c ≡ neg_ℤ (hit t c)
unfolding hit
hit-turned t c =
    (λ i. ahead_only (wind-turned t c.y c.z i) (volume-turned t c i)) ∙ taken-neg (wind t c.y c.z) (volume t c)

hit_y-turned : (t : Facet) (c : Point) → hit_y (turned t) c ≡ neg_ℤ (hit_y t c)
unfolding hit_y
hit_y-turned t c =
    (λ i. ahead_only (wind_y-turned t c.x c.z i) (volume-turned t c i)) ∙ taken-neg (wind_y t c.x c.z) (volume t c)

-- ---- rays
pub ray-turned : (facets : List Facet) (c : Point) → ray (inside_out facets) c ≡ neg_ℤ (ray facets c)
ray-turned facets c =
    total-map (λ t. hit (twice t) c) turned facets
    ∙ total-neg (λ t. hit (twice (turned t)) c) (λ t. hit (twice t) c) (λ t. hit-turned (twice t) c) facets

pub ray_y-turned : (facets : List Facet) (c : Point) → ray_y (inside_out facets) c ≡ neg_ℤ (ray_y facets c)
ray_y-turned facets c =
    total-map (λ t. hit_y (twice t) c) turned facets
    ∙ total-neg (λ t. hit_y (twice (turned t)) c) (λ t. hit_y (twice t) c) (λ t. hit_y-turned (twice t) c) facets

-- ---- rules that ask for the amount alone
pub evenodd-neg : (z : ℤ) → is_inside EvenOdd (neg_ℤ z) ≡ is_inside EvenOdd z
evenodd-neg (pos zero) = refl
evenodd-neg (pos (suc n)) = refl
evenodd-neg (negsuc n) = refl

pub nonzero-neg : (z : ℤ) → is_inside NonZero (neg_ℤ z) ≡ is_inside NonZero z
nonzero-neg z = grind (arith, ints)
