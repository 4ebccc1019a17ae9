-- A part and a point that are turned by quarters: which of their rays are the same.
use Rattle.std.proofs.Common.{◌≡◌, ◌↔◌, ◌⊎◌, inl, inr, ◌+◌, Bool, true, false, cond, ◌&&◌, ◌||◌, List, [], ◌∷◌, map, ℤ, pos, negsuc, ◌+ℤ◌, ◌-ℤ◌, ◌*ℤ◌, neg_ℤ, ◌<ℤ◌, int_lt, if◌then◌else◌, refl, sym, ◌∙◌, ap, subst, arith}
use Rattle.std.specs.Prelude.{All, count_by}
use Rattle.std.specs.Ordering.{int_eq}
use Rattle.std.proofs.lemmas.Bool.Decides.{Decides-int_eq}
use Rattle.std.proofs.lemmas.Int.{ints}
use Rattle.std.proofs.lemmas.List.Elements.{All-head, All-map, All-tail, All-weaker}
use Rattle.exact_int.proofs.lemmas.Identity.{reads, identity}
use Rattle.exact_int.proofs.lemmas.Signs.{neg_right, sign_cases}
use Rattle.geometry.specs.TieRule.{rises_through}
use Rattle.geometry.specs.Point.{Point, half_micrometres_of, origin, same}
use Rattle.geometry.specs.Facet.{Edge, Facet, edge, edges, facet_with, twice}
use Rattle.geometry.specs.Touch.{Touches}
use Rattle.geometry.specs.Winding.{hit, hit_y, left, left_x, ray, ray_y, total, turn, turn_of, turn_x, volume, wind, wind_y}
use Rattle.exact_cut.specs.Crossing.{IsUnit, Winding}
use Rattle.exact_cut.proofs.lemmas.Ahead.{wind_values}
use Rattle.exact_cut.proofs.lemmas.Quadrants.{ahead_only}
use Rattle.exact_cut.proofs.lemmas.Rays.{hit-taken, hit_y-taken}
use Rattle.exact_cut.proofs.lemmas.Shifts.{point_by}
use Rattle.mesh_weld.specs.Balance.{IsBalanced, half_edge_count}
use Rattle.mesh_weld.specs.Probing.{NoneTouches}
use Rattle.mesh_weld.proofs.lemmas.Edges.{count_by-cons, runs}
use Rattle.mesh_weld.proofs.lemmas.Probing.{rays_agree}
use Rattle.mesh_weld.proofs.lemmas.Sums.{total-difference, total-map, winds_along_y_cancel}
use Rattle.part_on_screen.specs.Screen.{IsScreen, Screen}
use Rattle.part_on_screen.specs.Stands.{turned_facet, turned_part}
use Rattle.part_on_screen.specs.Stretched.{on_screen, part_on_screen}
use Rattle.part_on_screen.specs.Turned.{quarter_turned, turned}
use Rattle.part_on_screen.specs.declared.quarters.Quarters.{Quarters}
use Rattle.part_on_screen.specs.declared.quarters.Quarters.TheVariants.{Zero, One, Two, Three}
use Rattle.part_on_screen.proofs.lemmas.StretchedRays.{rays-stretch, same-test}
use Rattle.slicer_laws.specs.QuarterTurns.{MissesEdges, is_met}
use Rattle.slicer_laws.proofs.lemmas.TouchedFacets.{untouched-wind}

-- ---- a facet and a point after a quarter turn
abbrev quarter_facet : Facet → Facet
quarter_facet t = facet_with (quarter_turned t.a) (quarter_turned t.b) (quarter_turned t.c)

doubled : (p : Point) → half_micrometres_of (quarter_turned p) ≡ quarter_turned (half_micrometres_of p)
doubled p = point_by (neg_right (pos 2) p.y) refl refl

twice-turned : (t : Facet) → twice (quarter_facet t) ≡ quarter_facet (twice t)
twice-turned t = λ i. facet_with (doubled t.a i) (doubled t.b i) (doubled t.c i)

volume-turned : (t : Facet) (c : Point) → volume (quarter_facet t) (quarter_turned c) ≡ volume t c
volume-turned t c =
    identity (t.a.x ∷ t.a.y ∷ t.a.z ∷ t.b.x ∷ t.b.y ∷ t.b.z ∷ t.c.x ∷ t.c.y ∷ t.c.z ∷ c.x ∷ c.y ∷ c.z ∷ [])
    (search reads depth 40 fits 20000) refl

negated : (l m n s a b c p : ℤ) → l *ℤ neg_ℤ a +ℤ m *ℤ neg_ℤ b +ℤ n *ℤ neg_ℤ c ≡ s *ℤ neg_ℤ p → l *ℤ a +ℤ m *ℤ b +ℤ n *ℤ c ≡ s *ℤ p
negated l m n s a b c p e = before l m n a b c ∙ ap neg_ℤ e ∙ after s p
  where
    before : (l m n a b c : ℤ) → l *ℤ a +ℤ m *ℤ b +ℤ n *ℤ c ≡ neg_ℤ (l *ℤ neg_ℤ a +ℤ m *ℤ neg_ℤ b +ℤ n *ℤ neg_ℤ c)
    before l m n a b c = identity (l ∷ m ∷ n ∷ a ∷ b ∷ c ∷ []) (search reads depth 40) refl

    after : (s p : ℤ) → neg_ℤ (s *ℤ neg_ℤ p) ≡ s *ℤ p
    after s p = identity (s ∷ p ∷ []) (search reads depth 40) refl

touches-before : (t : Facet) (c : Point) → Touches (quarter_facet t) (quarter_turned c) → Touches t c
touches-before t c h =
    record {
      of_a = h.of_a;
      of_b = h.of_b;
      of_c = h.of_c;
      some = h.some;
      mean_x = h.mean_y;
      mean_y = negated (pos h.of_a) (pos h.of_b) (pos h.of_c) (pos (h.of_a + h.of_b + h.of_c)) t.a.y t.b.y t.c.y c.y h.mean_x;
      mean_z = h.mean_z;
    }

free-turned : (facets : List Facet) (c : Point) → NoneTouches facets c → NoneTouches (turned_part One facets) (quarter_turned c)
free-turned facets c free =
    All-map (λ t. ¬ Touches (twice t) (quarter_turned c)) (turned_facet One) facets
    (All-weaker (λ t. ¬ Touches (twice t) c) (λ t. ¬ Touches (twice (quarter_facet t)) (quarter_turned c)) still facets free)
  where
    still : (t : Facet) → ¬ Touches (twice t) c → ¬ Touches (twice (quarter_facet t)) (quarter_turned c)
    still t h k = h (touches-before (twice t) c (subst (λ (s : Facet). Touches s (quarter_turned c)) (twice-turned t) k))

same_totals : (f g : Facet → ℤ) (facets : List Facet) → All (λ t. f t ≡ g t) facets → total f facets ≡ total g facets
same_totals f g [] h = refl
same_totals f g (t ∷ ts) h = λ i. All-head (λ s. f s ≡ g s) t ts h i +ℤ same_totals f g ts (All-tail (λ s. f s ≡ g s) t ts h) i

-- ---- a ray along x becomes one along y. An edge that passes the height is on the left, on the right, or on the line.
abbrev above : ℤ → ℤ → ℤ
above h z = if int_lt z h then pos 1 else pos 0

abbrev Mirrored : ℤ → ℤ → ℤ → ℤ → Type 0
Mirrored u v z l = neg_ℤ (turn_of u v z (neg_ℤ l)) ≡ turn_of u v z l -ℤ (above v z -ℤ above u z)

on_the_right : (u v z l : ℤ) → l <ℤ pos 0 → Mirrored u v z l
unfolding turn_of
on_the_right u v z l h = grind (arith, ints)

on_the_left : (u v z l : ℤ) → pos 0 <ℤ l → Mirrored u v z l
unfolding turn_of
on_the_left u v z l h = grind (arith, ints)

at_no_height : (u v z l : ℤ) → (rises_through u v z || rises_through v u z) ≡ false → Mirrored u v z l
unfolding turn_of
at_no_height u v z l h = grind (arith, ints)

passed_by : (b : Bool) (l : ℤ) → (b && int_eq l (pos 0)) ≡ false → l ≡ pos 0 → b ≡ false
passed_by false l h e = refl
passed_by true l h e = sym ((Decides-int_eq l (pos 0)).1 e) ∙ h

mirrored : (u v z l : ℤ) → ((rises_through u v z || rises_through v u z) && int_eq l (pos 0)) ≡ false → Mirrored u v z l
mirrored u v z l h = by (sign_cases l)
  where
    by : (l <ℤ pos 0) ⊎ (l ≡ pos 0) ⊎ (pos 0 <ℤ l) → Mirrored u v z l
    by (inl k) = on_the_right u v z l k
    by (inr (inl e)) = at_no_height u v z l (passed_by (rises_through u v z || rises_through v u z) l h e)
    by (inr (inr k)) = on_the_left u v z l k

left-mirrored : (u v : Point) (y z : ℤ) → left_x (quarter_turned u) (quarter_turned v) (neg_ℤ y) z ≡ neg_ℤ (left u v y z)
left-mirrored u v y z = identity (u.y ∷ u.z ∷ v.y ∷ v.z ∷ y ∷ z ∷ []) (search reads depth 40 fits 5000) refl

edge-mirrored : (c u v : Point) → is_met c u v ≡ false
    → neg_ℤ (turn_x (quarter_turned u) (quarter_turned v) (neg_ℤ c.y) c.z) ≡ turn u v c.y c.z -ℤ (above v.z c.z -ℤ above u.z c.z)
edge-mirrored c u v h =
    ap (λ l. neg_ℤ (turn_of u.z v.z c.z l)) (left-mirrored u v c.y c.z) ∙ mirrored u.z v.z c.z (left u v c.y c.z) h

round_trip : (p q r k l m a b c : ℤ) → neg_ℤ p ≡ k -ℤ (b -ℤ a) → neg_ℤ q ≡ l -ℤ (c -ℤ b) → neg_ℤ r ≡ m -ℤ (a -ℤ c)
    → neg_ℤ (p +ℤ q +ℤ r) ≡ k +ℤ l +ℤ m
round_trip p q r k l m a b c e f g = omega (arith, ints)

wind_y-turned : (t : Facet) (c : Point) → MissesEdges t c → wind_y (quarter_facet t) (neg_ℤ c.y) c.z ≡ wind t c.y c.z
unfolding wind wind_y
wind_y-turned t c h =
    round_trip
    (turn_x (quarter_turned t.a) (quarter_turned t.b) (neg_ℤ c.y) c.z)
    (turn_x (quarter_turned t.b) (quarter_turned t.c) (neg_ℤ c.y) c.z)
    (turn_x (quarter_turned t.c) (quarter_turned t.a) (neg_ℤ c.y) c.z)
    (turn t.a t.b c.y c.z) (turn t.b t.c c.y c.z) (turn t.c t.a c.y c.z)
    (above t.a.z c.z) (above t.b.z c.z) (above t.c.z c.z)
    (edge-mirrored c t.a t.b h.first) (edge-mirrored c t.b t.c h.second) (edge-mirrored c t.c t.a h.third)

hit_y-turned : (t : Facet) (c : Point) → MissesEdges t c → hit_y (quarter_facet t) (quarter_turned c) ≡ hit t c
hit_y-turned t c h =
    hit_y-taken (quarter_facet t) (quarter_turned c)
    ∙ (λ i. ahead_only (wind_y-turned t c h i) (volume-turned t c i))
    ∙ sym (hit-taken t c)

pub x-becomes-y : (facets : List Facet) (c : Point) → All (λ t. MissesEdges (twice t) c) facets
    → ray_y (turned_part One facets) (quarter_turned c) ≡ ray facets c
x-becomes-y facets c misses =
    total-map (λ t. hit_y (twice t) (quarter_turned c)) (turned_facet One) facets
    ∙ same_totals (λ t. hit_y (twice (quarter_facet t)) (quarter_turned c)) (λ t. hit (twice t) c) facets
    (All-weaker (λ t. MissesEdges (twice t) c) (λ t. hit_y (twice (quarter_facet t)) (quarter_turned c) ≡ hit (twice t) c) one facets misses)
  where
    one : (t : Facet) → MissesEdges (twice t) c → hit_y (twice (quarter_facet t)) (quarter_turned c) ≡ hit (twice t) c
    one t h = ap (λ (s : Facet). hit_y s (quarter_turned c)) (twice-turned t) ∙ hit_y-turned (twice t) c h

-- ---- the ray along x after the turn goes where the ray along y came from: it crosses what that does not, the other way
wind_y-before : (t : Facet) (x z : ℤ) → wind_y t x z ≡ neg_ℤ (wind (quarter_facet t) x z)
unfolding wind wind_y
wind_y-before t x z = refl

abbrev OtherWay : ℤ → ℤ → Type 0
OtherWay v w = ahead_only w v ≡ ahead_only (neg_ℤ w) v -ℤ neg_ℤ w

nothing : (a : ℤ) → a ≡ a -ℤ pos 0
nothing a = omega (arith, ints)

up-below : (v : ℤ) → v <ℤ pos 0 → OtherWay v (pos 1)
up-below v h = grind (arith, ints)

up-above : (v : ℤ) → pos 0 <ℤ v → OtherWay v (pos 1)
up-above v h = grind (arith, ints)

down-below : (v : ℤ) → v <ℤ pos 0 → OtherWay v (negsuc 0)
down-below v h = grind (arith, ints)

down-above : (v : ℤ) → pos 0 <ℤ v → OtherWay v (negsuc 0)
down-above v h = grind (arith, ints)

-- a facet is ahead one way or the other
other-way : (t : Facet) (w v : ℤ) → (w ≡ pos 0) ⊎ Winding t w → (v ≡ pos 0 → w ≡ pos 0) → OtherWay v w
other-way t w v winding flat = by winding (sign_cases v)
  where
    at : (k : ℤ) → w ≡ k → OtherWay v k → OtherWay v w
    at k e h = subst (OtherWay v) (sym e) h

    turned_by : IsUnit w → (v <ℤ pos 0) ⊎ (pos 0 <ℤ v) → OtherWay v w
    turned_by (inl e) (inl h) = at (pos 1) e (up-below v h)
    turned_by (inl e) (inr h) = at (pos 1) e (up-above v h)
    turned_by (inr e) (inl h) = at (negsuc 0) e (down-below v h)
    turned_by (inr e) (inr h) = at (negsuc 0) e (down-above v h)

    by : (w ≡ pos 0) ⊎ Winding t w → (v <ℤ pos 0) ⊎ (v ≡ pos 0) ⊎ (pos 0 <ℤ v) → OtherWay v w
    by (inl e) s = at (pos 0) e (nothing (ahead_only (pos 0) v))
    by (inr k) (inl h) = turned_by k.unit (inl h)
    by (inr k) (inr (inl e)) = at (pos 0) (flat e) (nothing (ahead_only (pos 0) v))
    by (inr k) (inr (inr h)) = turned_by k.unit (inr h)

hit-turned : (t : Facet) (c : Point) → ¬ Touches t c → hit (quarter_facet t) (quarter_turned c) ≡ hit_y t c -ℤ wind_y t c.x c.z
hit-turned t c free =
    hit-taken (quarter_facet t) (quarter_turned c)
    ∙ ap (λ v. ahead_only w v) (volume-turned t c)
    ∙ other-way (quarter_facet t) w (volume t c) (wind_values (quarter_facet t) c.x c.z) flat
    ∙ (λ i. ahead_only (before i) (volume t c) -ℤ before i)
    ∙ ap (λ h. h -ℤ wind_y t c.x c.z) (sym (hit_y-taken t c))
  where
    w : ℤ
    w = wind (quarter_facet t) c.x c.z

    before : neg_ℤ w ≡ wind_y t c.x c.z
    before = sym (wind_y-before t c.x c.z)

    flat : volume t c ≡ pos 0 → w ≡ pos 0
    flat e = untouched-wind (quarter_facet t) (quarter_turned c) (volume-turned t c ∙ e) (λ h. free (touches-before t c h))

quarter-ray : (facets : List Facet) (c : Point) → IsBalanced facets → NoneTouches facets c
    → ray (turned_part One facets) (quarter_turned c) ≡ ray facets c
quarter-ray facets c closed free =
    total-map (λ t. hit (twice t) (quarter_turned c)) (turned_facet One) facets
    ∙ same_totals (λ t. hit (twice (quarter_facet t)) (quarter_turned c)) (λ t. hit_y (twice t) c -ℤ wind_y (twice t) c.x c.z) facets
    (All-weaker (λ t. ¬ Touches (twice t) c)
    (λ t. hit (twice (quarter_facet t)) (quarter_turned c) ≡ hit_y (twice t) c -ℤ wind_y (twice t) c.x c.z) one facets free)
    ∙ total-difference (λ t. hit_y (twice t) c) (λ t. wind_y (twice t) c.x c.z) facets
    ∙ less_nothing _ _ (winds_along_y_cancel facets closed c.x c.z)
    ∙ sym (rays_agree facets closed c free)
  where
    one : (t : Facet) → ¬ Touches (twice t) c → hit (twice (quarter_facet t)) (quarter_turned c) ≡ hit_y (twice t) c -ℤ wind_y (twice t) c.x c.z
    one t h = ap (λ (s : Facet). hit s (quarter_turned c)) (twice-turned t) ∙ hit-turned (twice t) c h

    less_nothing : (a b : ℤ) → b ≡ pos 0 → a -ℤ b ≡ a
    less_nothing a b e = omega (arith, ints)

-- ---- edges after a quarter turn
abbrev turned_edge : Edge → Edge
turned_edge e = edge (quarter_turned e.from) (quarter_turned e.to)

edges-turned : (facets : List Facet) → edges (turned_part One facets) ≡ map turned_edge (edges facets)
edges-turned [] = refl
edges-turned (t ∷ ts) =
    λ i. turned_edge (edge t.a t.b) ∷ turned_edge (edge t.b t.c) ∷ turned_edge (edge t.c t.a) ∷ edges-turned ts i

eq-neg : (a b : ℤ) → int_eq (neg_ℤ a) (neg_ℤ b) ≡ int_eq a b
eq-neg a b =
    same-test (int_eq (neg_ℤ a) (neg_ℤ b)) (int_eq a b)
    (λ h. (Decides-int_eq a b).1 (back a b ((Decides-int_eq (neg_ℤ a) (neg_ℤ b)).0 h)))
    (λ h. (Decides-int_eq (neg_ℤ a) (neg_ℤ b)).1 (ap neg_ℤ ((Decides-int_eq a b).0 h)))
  where
    back : (a b : ℤ) → neg_ℤ a ≡ neg_ℤ b → a ≡ b
    back a b e = omega (arith, ints)

first-second : (a b c : Bool) → (a && (b && c)) ≡ (b && (a && c))
first-second true true c = refl
first-second true false c = refl
first-second false true c = refl
first-second false false c = refl

same-turned : (p q : Point) → same (quarter_turned p) (quarter_turned q) ≡ same p q
same-turned p q =
    ap (λ b. b && (int_eq p.x q.x && int_eq p.z q.z)) (eq-neg p.y q.y)
    ∙ first-second (int_eq p.y q.y) (int_eq p.x q.x) (int_eq p.z q.z)

counts-turned : (u v : Point) (es : List Edge)
    → count_by (runs (quarter_turned u) (quarter_turned v)) (map turned_edge es) ≡ count_by (runs u v) es
counts-turned u v [] = refl
counts-turned u v (e ∷ es) =
    count_by-cons (runs (quarter_turned u) (quarter_turned v)) (turned_edge e) (map turned_edge es)
    ∙ (λ i. cond (same-turned e.from u i && same-turned e.to v i) 1 0 + counts-turned u v es i)
    ∙ sym (count_by-cons (runs u v) e es)

count-turned : (facets : List Facet) (u v : Point)
    → half_edge_count (turned_part One facets) (quarter_turned u) (quarter_turned v) ≡ half_edge_count facets u v
count-turned facets u v =
    ap (count_by (runs (quarter_turned u) (quarter_turned v))) (edges-turned facets) ∙ counts-turned u v (edges facets)

abbrev quarter_back : Point → Point
quarter_back p = record { x = p.y; y = neg_ℤ p.x; z = p.z }

neg-neg : (z : ℤ) → neg_ℤ (neg_ℤ z) ≡ z
neg-neg z = omega (arith, ints)

there_again : (p : Point) → quarter_turned (quarter_back p) ≡ p
there_again p = λ i. record { x = neg-neg p.x i; y = p.y; z = p.z }

quarter-closed : (facets : List Facet) → IsBalanced (turned_part One facets) ↔ IsBalanced facets
quarter-closed facets = (before, after)
  where
    before : IsBalanced (turned_part One facets) → IsBalanced facets
    before h u v = sym (count-turned facets u v) ∙ h (quarter_turned u) (quarter_turned v) ∙ count-turned facets v u

    between_turned : IsBalanced facets → (u v : Point)
        → half_edge_count (turned_part One facets) (quarter_turned u) (quarter_turned v)
        ≡ half_edge_count (turned_part One facets) (quarter_turned v) (quarter_turned u)
    between_turned h u v = count-turned facets u v ∙ h u v ∙ sym (count-turned facets v u)

    after : IsBalanced facets → IsBalanced (turned_part One facets)
    after h u v =
        subst (λ (p : Point). half_edge_count (turned_part One facets) p v ≡ half_edge_count (turned_part One facets) v p) (there_again u)
        (subst
        (λ (p : Point). half_edge_count (turned_part One facets) (quarter_turned (quarter_back u)) p
        ≡ half_edge_count (turned_part One facets) p (quarter_turned (quarter_back u)))
        (there_again v) (between_turned h (quarter_back u) (quarter_back v)))

-- ---- by any number of quarters
not_turned : (facets : List Facet) → turned_part Zero facets ≡ facets
not_turned [] = refl
not_turned (t ∷ ts) = λ i. t ∷ not_turned ts i

turned_twice : (facets : List Facet) → turned_part One (turned_part One facets) ≡ turned_part Two facets
turned_twice [] = refl
turned_twice (t ∷ ts) = λ i. turned_facet Two t ∷ turned_twice ts i

turned_thrice : (facets : List Facet) → turned_part One (turned_part One (turned_part One facets)) ≡ turned_part Three facets
turned_thrice [] = refl
turned_thrice (t ∷ ts) = λ i. turned_facet Three t ∷ turned_thrice ts i

by_quarters : (P : List Facet → Point → Type 0)
    → ((facets : List Facet) (c : Point) → P facets c → P (turned_part One facets) (quarter_turned c))
    → (turn : Quarters) (facets : List Facet) (c : Point) → P facets c → P (turned_part turn facets) (turned turn c)
by_quarters P step Zero facets c h = subst (λ (s : List Facet). P s c) (sym (not_turned facets)) h
by_quarters P step One facets c h = step facets c h
by_quarters P step Two facets c h =
    subst (λ (s : List Facet). P s (turned Two c)) (turned_twice facets)
    (step (turned_part One facets) (turned One c) (step facets c h))
by_quarters P step Three facets c h =
    subst (λ (s : List Facet). P s (turned Three c)) (turned_thrice facets)
    (step (turned_part One (turned_part One facets)) (turned Two c) (step (turned_part One facets) (turned One c) (step facets c h)))

pub closed-turned : (turn : Quarters) (facets : List Facet) → IsBalanced (turned_part turn facets) ↔ IsBalanced facets
closed-turned turn facets =
    by_quarters (λ s c. IsBalanced s ↔ IsBalanced facets)
    (λ s c h. (λ k. h.0 ((quarter-closed s).0 k), λ k. (quarter-closed s).1 (h.1 k)))
    turn facets origin (λ h. h, λ h. h)

-- a closed part that does not touch a point, and its ray from there
record Free (r : ℤ) (facets : List Facet) (c : Point) : Type 0 where
  closed : IsBalanced facets
  free : NoneTouches facets c
  ray_is : ray facets c ≡ r

all-turned : (turn : Quarters) (facets : List Facet) (c : Point) → IsBalanced facets → NoneTouches facets c
    → Free (ray facets c) (turned_part turn facets) (turned turn c)
all-turned turn facets c closed free =
    by_quarters (Free (ray facets c)) step turn facets c (record { closed = closed; free = free; ray_is = refl })
  where
    step : (s : List Facet) (p : Point) → Free (ray facets c) s p → Free (ray facets c) (turned_part One s) (quarter_turned p)
    step s p h =
        record {
          closed = (quarter-closed s).1 h.closed;
          free = free-turned s p h.free;
          ray_is = quarter-ray s p h.closed h.free ∙ h.ray_is;
        }

pub rays-turn : (turn : Quarters) (facets : List Facet) (c : Point) → IsBalanced facets → NoneTouches facets c
    → ray (turned_part turn facets) (turned turn c) ≡ ray facets c
rays-turn turn facets c closed free = let h = all-turned turn facets c closed free in h.ray_is

pub rays-along-y-turn : (turn : Quarters) (facets : List Facet) (c : Point) → IsBalanced facets → NoneTouches facets c
    → ray_y (turned_part turn facets) (turned turn c) ≡ ray_y facets c
rays-along-y-turn turn facets c closed free =
    let h = all-turned turn facets c closed free in
    sym (rays_agree (turned_part turn facets) h.closed (turned turn c) h.free) ∙ h.ray_is ∙ rays_agree facets closed c free

pub rays-on-screens : (s : Screen) (facets : List Facet) (c : Point) → IsScreen s → IsBalanced facets → NoneTouches facets c
    → ray (part_on_screen s facets) (on_screen s c) ≡ ray facets c
rays-on-screens s facets c is closed free = rays-stretch s facets (turned s.turn c) is ∙ rays-turn s.turn facets c closed free
