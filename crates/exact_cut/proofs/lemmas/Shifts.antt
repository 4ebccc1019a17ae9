-- A facet relative to a point: its windings, volume and hits at the origin are those of the facet at the point.
use Rattle.std.proofs.Common.{◌≡◌, subst, [], ◌∷◌, ℤ, pos, ◌+ℤ◌, ◌-ℤ◌, ◌*ℤ◌, neg_ℤ, int_lt, int_le, ◌&&◌, if◌then◌else◌, refl, sym, ◌∙◌, ap, arith, ◌⊎◌, inl, inr, negsuc}
use Rattle.std.proofs.lemmas.Int.{ints}
use Rattle.exact_int.specs.Bounds.{IsAtMost}
use Rattle.exact_int.proofs.lemmas.Identity.{reads, identity}
use Rattle.geometry.specs.Point.{Point, origin}
use Rattle.geometry.specs.Facet.{Facet}
use Rattle.geometry.specs.Winding.{left, left_x, turn, turn_x, turn_of, wind, wind_y, determinant, volume, hit, hit_y}
use Rattle.exact_cut.specs.Crossing.{Winding}
use Rattle.exact_cut.specs.RelativeFacet.{minus, relative_to}
use Rattle.exact_cut.proofs.lemmas.Ahead.{wind_values}
use Rattle.exact_cut.proofs.lemmas.Quadrants.{ahead_only}
use Rattle.exact_cut.proofs.lemmas.Steps.{swap, swap_tri, hit-swap}

abbrev point_with : ℤ → ℤ → ℤ → Point
point_with x y z = record { x = x; y = y; z = z }

pub point_by : {x y z x' y' z' : ℤ} → x ≡ x' → y ≡ y' → z ≡ z' → point_with x y z ≡ point_with x' y' z'
point_by e f g = λ i. point_with (e i) (f i) (g i)

not_above : (u z : ℤ) → int_le (u -ℤ z) (pos 0) ≡ int_le u z
not_above u z = grind (arith, ints)

above : (u z : ℤ) → int_lt (pos 0) (u -ℤ z) ≡ int_lt z u
above u z = grind (arith, ints)

turn_of-shift : (u v z l : ℤ) → turn_of (u -ℤ z) (v -ℤ z) (pos 0) l ≡ turn_of u v z l
unfolding turn_of
turn_of-shift u v z l = λ i.
    if not_above u z i && above v z i && int_lt (pos 0) l then pos 1
    else (if not_above v z i && above u z i && int_lt l (pos 0) then negsuc 0 else pos 0)

turn-shift : (u v c : Point) → turn (minus u c) (minus v c) (pos 0) (pos 0) ≡ turn u v c.y c.z
turn-shift u v c =
    ap (turn_of (u.z -ℤ c.z) (v.z -ℤ c.z) (pos 0)) (identity (u.y ∷ u.z ∷ v.y ∷ v.z ∷ c.y ∷ c.z ∷ []) (search reads depth 40 fits 5000) refl)
    ∙ turn_of-shift u.z v.z c.z (left u v c.y c.z)

turn_x-shift : (u v c : Point) → turn_x (minus u c) (minus v c) (pos 0) (pos 0) ≡ turn_x u v c.x c.z
turn_x-shift u v c =
    ap (turn_of (u.z -ℤ c.z) (v.z -ℤ c.z) (pos 0)) (identity (u.x ∷ u.z ∷ v.x ∷ v.z ∷ c.x ∷ c.z ∷ []) (search reads depth 40 fits 5000) refl)
    ∙ turn_of-shift u.z v.z c.z (left_x u v c.x c.z)

wind-shift : (t : Facet) (c : Point) → wind (relative_to t c) (pos 0) (pos 0) ≡ wind t c.y c.z
unfolding wind
wind-shift t c = λ i. turn-shift t.a t.b c i +ℤ turn-shift t.b t.c c i +ℤ turn-shift t.c t.a c i

wind_y-shift : (t : Facet) (c : Point) → wind_y (relative_to t c) (pos 0) (pos 0) ≡ wind_y t c.x c.z
unfolding wind_y
wind_y-shift t c = λ i. neg_ℤ (turn_x-shift t.a t.b c i +ℤ turn_x-shift t.b t.c c i +ℤ turn_x-shift t.c t.a c i)

less_nothing : (a : ℤ) → a -ℤ pos 0 ≡ a
less_nothing a = omega (arith, ints)

volume-shift : (t : Facet) (c : Point) → volume (relative_to t c) origin ≡ volume t c
volume-shift t c = λ i.
    determinant (less_nothing (t.a.x -ℤ c.x) i) (less_nothing (t.a.y -ℤ c.y) i) (less_nothing (t.a.z -ℤ c.z) i)
    (less_nothing (t.b.x -ℤ c.x) i) (less_nothing (t.b.y -ℤ c.y) i) (less_nothing (t.b.z -ℤ c.z) i)
    (less_nothing (t.c.x -ℤ c.x) i) (less_nothing (t.c.y -ℤ c.y) i) (less_nothing (t.c.z -ℤ c.z) i)

pub hit_from : (t s : Facet) (c : Point) {r w v : ℤ} → s ≡ relative_to t c → w ≡ wind s (pos 0) (pos 0) → v ≡ volume s origin → r ≡ ahead_only w v → r ≡ hit t c
unfolding hit
hit_from t s c e f g h =
    h ∙ (λ i. ahead_only ((f ∙ ap (λ s. wind s (pos 0) (pos 0)) e ∙ wind-shift t c) i) ((g ∙ ap (λ s. volume s origin) e ∙ volume-shift t c) i))

pub hit_y_from : (t s : Facet) (c : Point) {r w v : ℤ} → s ≡ relative_to t c → w ≡ wind_y s (pos 0) (pos 0) → v ≡ volume s origin → r ≡ ahead_only w v → r ≡ hit_y t c
unfolding hit_y
hit_y_from t s c e f g h =
    h ∙ (λ i. ahead_only ((f ∙ ap (λ s. wind_y s (pos 0) (pos 0)) e ∙ wind_y-shift t c) i) ((g ∙ ap (λ s. volume s origin) e ∙ volume-shift t c) i))

-- a hit is 0 or a wind, so 1, -1 or 0
unit_of : (w x : ℤ) → (w ≡ pos 0) ⊎ (w ≡ pos 1) ⊎ (w ≡ negsuc 0) → IsAtMost 1 (if int_lt (pos 0) x then w else pos 0)
unit_of w x (inl e) = record { at_most = grind (arith, ints) }
unit_of w x (inr (inl e)) = record { at_most = grind (arith, ints) }
unit_of w x (inr (inr e)) = record { at_most = grind (arith, ints) }

three_values : (t : Facet) (y z : ℤ) → (wind t y z ≡ pos 0) ⊎ (wind t y z ≡ pos 1) ⊎ (wind t y z ≡ negsuc 0)
three_values t y z = by (wind_values t y z)
  where
    by : (wind t y z ≡ pos 0) ⊎ Winding t (wind t y z) → (wind t y z ≡ pos 0) ⊎ (wind t y z ≡ pos 1) ⊎ (wind t y z ≡ negsuc 0)
    by (inl e) = inl e
    by (inr w) = inr w.unit

pub hit-unit : (t : Facet) (c : Point) → IsAtMost 1 (hit t c)
unfolding hit
hit-unit t c = unit_of (wind t c.y c.z) (wind t c.y c.z *ℤ volume t c) (three_values t c.y c.z)

opposite-unit : (a : ℤ) → IsAtMost 1 a → IsAtMost 1 (neg_ℤ a)
opposite-unit a h = record { at_most = omega (arith, ints, h.at_most) }

pub hit_y-unit : (t : Facet) (c : Point) → IsAtMost 1 (hit_y t c)
hit_y-unit t c = subst (IsAtMost 1) (sym (hit-swap t c)) (opposite-unit (hit (swap_tri t) (swap c)) (hit-unit (swap_tri t) (swap c)))
