-- A facet and a point that are stretched together keep their winding, and the facet is hit as before.
use Rattle.std.proofs.Common.{◌≡◌, ◌≤◌, ℕ, Bool, true, false, List, [], ◌∷◌, refl, sym, ◌∙◌, ap, subst, arith}
use Rattle.std.specs.Prelude.{ℤ, pos, neg_ℤ, ◌+ℤ◌, ◌-ℤ◌, ◌*ℤ◌, ◌<ℤ◌, int_lt, if◌then◌else◌}
use Rattle.std.proofs.lemmas.Int.{ints}
use Rattle.exact_int.proofs.lemmas.Identity.{reads, identity}
use Rattle.exact_int.proofs.lemmas.Signs.{lt_of_mul_left, mul_negative_right, mul_positive, right_of_positive, weak}
use Rattle.exact_int.proofs.lemmas.Tests.{plain_less}
use Rattle.geometry.specs.Point.{Point, half_micrometres_of}
use Rattle.geometry.specs.Facet.{Facet, facet_with, twice}
use Rattle.geometry.specs.Winding.{determinant, hit, hit_y, left, left_x, ray, ray_y, turn, turn_of, turn_x, volume, wind, wind_y}
use Rattle.part_on_screen.specs.Screen.{IsScreen, Screen}
use Rattle.part_on_screen.specs.Stretched.{part_on_screen, stretched}
use Rattle.raster.specs.Grid.{Grid, centre}
use Rattle.part_on_screen.specs.Stands.{ray_at, stretched_part, turned_facet, turned_part}
use Rattle.part_on_screen.proofs.lemmas.Places.{point-by}

-- ---- signs
pub same-test : (b c : Bool) → (b ≡ true → c ≡ true) → (c ≡ true → b ≡ true) → b ≡ c
same-test true c f g = sym (f refl)
same-test false true f g = g refl
same-test false false f g = refl

above : (k z : ℤ) → pos 0 <ℤ k → int_lt (pos 0) (k *ℤ z) ≡ int_lt (pos 0) z
above k z some =
    same-test (int_lt (pos 0) (k *ℤ z)) (int_lt (pos 0) z)
    (λ h. (plain_less (pos 0) z).1 (right_of_positive k z (weak k some) ((plain_less (pos 0) (k *ℤ z)).0 h)))
    (λ h. (plain_less (pos 0) (k *ℤ z)).1 (mul_positive k z some ((plain_less (pos 0) z).0 h)))

times-none : (k : ℤ) → k *ℤ pos 0 ≡ pos 0
times-none k = identity (k ∷ []) (search reads depth 40) refl

below : (k z : ℤ) → pos 0 <ℤ k → int_lt (k *ℤ z) (pos 0) ≡ int_lt z (pos 0)
below k z some =
    same-test (int_lt (k *ℤ z) (pos 0)) (int_lt z (pos 0))
    (λ h. (plain_less z (pos 0)).1 (lt_of_mul_left k z (pos 0) (weak k some) (subst (λ (u : ℤ). (k *ℤ z) <ℤ u) (sym (times-none k)) ((plain_less (k *ℤ z) (pos 0)).0 h))))
    (λ h. (plain_less (k *ℤ z) (pos 0)).1 (mul_negative_right k z some ((plain_less z (pos 0)).0 h)))

turn-kept : (u v z k l : ℤ) → pos 0 <ℤ k → turn_of u v z (k *ℤ l) ≡ turn_of u v z l
unfolding turn_of
turn-kept u v z k l some = rw (above k l some, below k l some) refl

-- ---- what is stretched
abbrev stretched_facet : ℕ → ℕ → Facet → Facet
stretched_facet m n t = facet_with (stretched m n t.a) (stretched m n t.b) (stretched m n t.c)

left-stretched : (k uy uz vy vz y z : ℤ)
    → (vy *ℤ k -ℤ uy *ℤ k) *ℤ (z -ℤ uz) -ℤ (y *ℤ k -ℤ uy *ℤ k) *ℤ (vz -ℤ uz) ≡ k *ℤ ((vy -ℤ uy) *ℤ (z -ℤ uz) -ℤ (y -ℤ uy) *ℤ (vz -ℤ uz))
left-stretched k uy uz vy vz y z = identity (k ∷ uy ∷ uz ∷ vy ∷ vz ∷ y ∷ z ∷ []) (search reads depth 40 fits 5000) refl

edge-kept : (m n : ℕ) (u v : Point) (y z : ℤ) → pos 0 <ℤ pos n → turn (stretched m n u) (stretched m n v) (y *ℤ pos n) z ≡ turn u v y z
edge-kept m n u v y z some =
    ap (turn_of u.z v.z z) (left-stretched (pos n) u.y u.z v.y v.z y z) ∙ turn-kept u.z v.z z (pos n) (left u v y z) some

edge_x-kept : (m n : ℕ) (u v : Point) (x z : ℤ) → pos 0 <ℤ pos m → turn_x (stretched m n u) (stretched m n v) (x *ℤ pos m) z ≡ turn_x u v x z
edge_x-kept m n u v x z some =
    ap (turn_of u.z v.z z) (left-stretched (pos m) u.x u.z v.x v.z x z) ∙ turn-kept u.z v.z z (pos m) (left_x u v x z) some

sum-of : (a b c p q r : ℤ) → a ≡ p → b ≡ q → c ≡ r → a +ℤ b +ℤ c ≡ p +ℤ q +ℤ r
sum-of a b c p q r e f g = λ i. e i +ℤ f i +ℤ g i

wind-kept : (m n : ℕ) (t : Facet) (y z : ℤ) → pos 0 <ℤ pos n → wind (stretched_facet m n t) (y *ℤ pos n) z ≡ wind t y z
unfolding wind
wind-kept m n t y z some =
    sum-of _ _ _ (turn t.a t.b y z) (turn t.b t.c y z) (turn t.c t.a y z)
    (edge-kept m n t.a t.b y z some) (edge-kept m n t.b t.c y z some) (edge-kept m n t.c t.a y z some)

wind_y-kept : (m n : ℕ) (t : Facet) (x z : ℤ) → pos 0 <ℤ pos m → wind_y (stretched_facet m n t) (x *ℤ pos m) z ≡ wind_y t x z
unfolding wind_y
wind_y-kept m n t x z some =
    ap neg_ℤ
    (sum-of _ _ _ (turn_x t.a t.b x z) (turn_x t.b t.c x z) (turn_x t.c t.a x z)
    (edge_x-kept m n t.a t.b x z some) (edge_x-kept m n t.b t.c x z some) (edge_x-kept m n t.c t.a x z some))

difference : (a b k : ℤ) → a *ℤ k -ℤ b *ℤ k ≡ k *ℤ (a -ℤ b)
difference a b k = identity (a ∷ b ∷ k ∷ []) (search reads depth 40) refl

three-rows : (k l a b c d e f g h i : ℤ)
    → determinant (k *ℤ a) (l *ℤ b) c (k *ℤ d) (l *ℤ e) f (k *ℤ g) (l *ℤ h) i ≡ (k *ℤ l) *ℤ determinant a b c d e f g h i
three-rows k l a b c d e f g h i = identity (k ∷ l ∷ a ∷ b ∷ c ∷ d ∷ e ∷ f ∷ g ∷ h ∷ i ∷ []) (search reads depth 40 fits 20000) refl

volume-stretched : (m n : ℕ) (t : Facet) (p : Point) → volume (stretched_facet m n t) (stretched m n p) ≡ (pos m *ℤ pos n) *ℤ volume t p
volume-stretched m n t p =
    (λ i. determinant (difference t.a.x p.x (pos m) i) (difference t.a.y p.y (pos n) i) (t.a.z -ℤ p.z)
    (difference t.b.x p.x (pos m) i) (difference t.b.y p.y (pos n) i) (t.b.z -ℤ p.z)
    (difference t.c.x p.x (pos m) i) (difference t.c.y p.y (pos n) i) (t.c.z -ℤ p.z))
    ∙ three-rows (pos m) (pos n) (t.a.x -ℤ p.x) (t.a.y -ℤ p.y) (t.a.z -ℤ p.z) (t.b.x -ℤ p.x) (t.b.y -ℤ p.y) (t.b.z -ℤ p.z) (t.c.x -ℤ p.x) (t.c.y -ℤ p.y) (t.c.z -ℤ p.z)

-- ---- hits and rays
abbrev taken : ℤ → ℤ → ℤ
taken w v = if int_lt (pos 0) (w *ℤ v) then w else pos 0

swap : (w k v : ℤ) → w *ℤ (k *ℤ v) ≡ k *ℤ (w *ℤ v)
swap w k v = identity (w ∷ k ∷ v ∷ []) (search reads depth 40) refl

taken-kept : (w k v : ℤ) → pos 0 <ℤ k → taken w (k *ℤ v) ≡ taken w v
taken-kept w k v some =
    ap (λ (z : ℤ). if int_lt (pos 0) z then w else pos 0) (swap w k v) ∙ ap (λ (b : Bool). if b then w else pos 0) (above k (w *ℤ v) some)

hit-kept : (m n : ℕ) (t : Facet) (p : Point) → pos 0 <ℤ pos m → pos 0 <ℤ pos n → hit (stretched_facet m n t) (stretched m n p) ≡ hit t p
unfolding hit
hit-kept m n t p some_m some_n =
    (λ i. taken (wind-kept m n t p.y p.z some_n i) (volume-stretched m n t p i))
    ∙ taken-kept (wind t p.y p.z) (pos m *ℤ pos n) (volume t p) (mul_positive (pos m) (pos n) some_m some_n)

hit_y-kept : (m n : ℕ) (t : Facet) (p : Point) → pos 0 <ℤ pos m → pos 0 <ℤ pos n → hit_y (stretched_facet m n t) (stretched m n p) ≡ hit_y t p
unfolding hit_y
hit_y-kept m n t p some_m some_n =
    (λ i. taken (wind_y-kept m n t p.x p.z some_m i) (volume-stretched m n t p i))
    ∙ taken-kept (wind_y t p.x p.z) (pos m *ℤ pos n) (volume t p) (mul_positive (pos m) (pos n) some_m some_n)

doubled : (a k : ℤ) → pos 2 *ℤ (a *ℤ k) ≡ (pos 2 *ℤ a) *ℤ k
doubled a k = identity (a ∷ k ∷ []) (search reads depth 40) refl

point-doubled : (m n : ℕ) (p : Point) → half_micrometres_of (stretched m n p) ≡ stretched m n (half_micrometres_of p)
point-doubled m n p = point-by _ _ (doubled p.x (pos m)) (doubled p.y (pos n)) refl

twice-stretched : (m n : ℕ) (t : Facet) → twice (stretched_facet m n t) ≡ stretched_facet m n (twice t)
twice-stretched m n t = λ i. facet_with (point-doubled m n t.a i) (point-doubled m n t.b i) (point-doubled m n t.c i)

some-of : (n : ℕ) → 1 ≤ n → pos 0 <ℤ pos n
some-of n h = omega (arith, ints, h)

pub rays-stretch : (s : Screen) (facets : List Facet) (c : Point) → IsScreen s
    → ray (part_on_screen s facets) (stretched s.times_x s.times_y c) ≡ ray (turned_part s.turn facets) c
rays-stretch s [] c is = refl
rays-stretch s (t ∷ facets) c is =
    λ i. first i +ℤ rays-stretch s facets c is i
  where
    first : hit (twice (stretched_facet s.times_x s.times_y (turned_facet s.turn t))) (stretched s.times_x s.times_y c) ≡ hit (twice (turned_facet s.turn t)) c
    first =
        ap (λ (u : Facet). hit u (stretched s.times_x s.times_y c)) (twice-stretched s.times_x s.times_y (turned_facet s.turn t))
        ∙ hit-kept s.times_x s.times_y (twice (turned_facet s.turn t)) c (some-of s.times_x is.times_x) (some-of s.times_y is.times_y)

pub rays-along-y-stretch : (s : Screen) (facets : List Facet) (c : Point) → IsScreen s
    → ray_y (part_on_screen s facets) (stretched s.times_x s.times_y c) ≡ ray_y (turned_part s.turn facets) c
rays-along-y-stretch s [] c is = refl
rays-along-y-stretch s (t ∷ facets) c is =
    λ i. first i +ℤ rays-along-y-stretch s facets c is i
  where
    first : hit_y (twice (stretched_facet s.times_x s.times_y (turned_facet s.turn t))) (stretched s.times_x s.times_y c) ≡ hit_y (twice (turned_facet s.turn t)) c
    first =
        ap (λ (u : Facet). hit_y u (stretched s.times_x s.times_y c)) (twice-stretched s.times_x s.times_y (turned_facet s.turn t))
        ∙ hit_y-kept s.times_x s.times_y (twice (turned_facet s.turn t)) c (some-of s.times_x is.times_x) (some-of s.times_y is.times_y)

-- ---- rays from fractions
pub rays-from-whole-points : (facets : List Facet) (x y z : ℤ) (m n : ℕ) → 1 ≤ m → 1 ≤ n
    → ray_at facets (x *ℤ pos m) m (y *ℤ pos n) n z ≡ ray facets (record { x = x; y = y; z = z })
rays-from-whole-points [] x y z m n some_m some_n = refl
rays-from-whole-points (t ∷ facets) x y z m n some_m some_n = λ i. first i +ℤ rays-from-whole-points facets x y z m n some_m some_n i
  where
    c : Point
    c = record { x = x; y = y; z = z }

    first : hit (twice (stretched_facet m n t)) (stretched m n c) ≡ hit (twice t) c
    first = ap (λ (u : Facet). hit u (stretched m n c)) (twice-stretched m n t) ∙ hit-kept m n (twice t) c (some-of m some_m) (some-of n some_n)

twice-multiplied : (a m k : ℤ) → (a *ℤ m) *ℤ k ≡ (a *ℤ k) *ℤ m
twice-multiplied a m k = identity (a ∷ m ∷ k ∷ []) (search reads depth 40) refl

point-exchanged : (m n k l : ℕ) (p : Point) → stretched k l (stretched m n p) ≡ stretched m n (stretched k l p)
point-exchanged m n k l p = point-by _ _ (twice-multiplied p.x (pos m) (pos k)) (twice-multiplied p.y (pos n) (pos l)) refl

facet-exchanged : (m n k l : ℕ) (t : Facet) → stretched_facet k l (stretched_facet m n t) ≡ stretched_facet m n (stretched_facet k l t)
facet-exchanged m n k l t = λ i. facet_with (point-exchanged m n k l t.a i) (point-exchanged m n k l t.b i) (point-exchanged m n k l t.c i)

part-exchanged : (m n k l : ℕ) (facets : List Facet) → stretched_part k l (stretched_part m n facets) ≡ stretched_part m n (stretched_part k l facets)
part-exchanged m n k l [] = refl
part-exchanged m n k l (t ∷ facets) = λ i. facet-exchanged m n k l t i ∷ part-exchanged m n k l facets i

pub rays-from-equal-points : (facets : List Facet) (x y z p q : ℤ) (m n k l : ℕ) → 1 ≤ m → 1 ≤ n → 1 ≤ k → 1 ≤ l
    → x *ℤ pos k ≡ p *ℤ pos m → y *ℤ pos l ≡ q *ℤ pos n → ray_at facets x m y n z ≡ ray_at facets p k q l z
rays-from-equal-points facets x y z p q m n k l some_m some_n some_k some_l e f =
    sym (rays-from-whole-points (stretched_part m n facets) x y z k l some_k some_l)
    ∙ (λ i. ray (part-exchanged m n k l facets i) (record { x = e i; y = f i; z = z }))
    ∙ rays-from-whole-points (stretched_part k l facets) p q z m n some_m some_n

pub pixels-have-true-centres : (s : Screen) (facets : List Facet) (g : Grid) (i j k : ℕ)
    → ray (part_on_screen s facets) (centre g i j k)
    ≡ ray_at (turned_part s.turn facets) (centre g i j k).x s.times_x (centre g i j k).y s.times_y (centre g i j k).z
pixels-have-true-centres s [] g i j k = refl
pixels-have-true-centres s (t ∷ facets) g i j k =
    ap (λ (r : ℤ). hit (twice (stretched_facet s.times_x s.times_y (turned_facet s.turn t))) (centre g i j k) +ℤ r) (pixels-have-true-centres s facets g i j k)
