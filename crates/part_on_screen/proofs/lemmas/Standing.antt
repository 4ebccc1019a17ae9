-- A part lies between the sides of its grid, and its points stay apart.
use Rattle.std.proofs.Common.{◌≡◌, ℕ, ◌≤◌, [], ◌∷◌, refl, ap, sym, ◌∙◌, subst, arith}
use Rattle.std.specs.Prelude.{ℤ, pos, neg_ℤ, nat_abs, ◌+ℤ◌, ◌-ℤ◌, ◌*ℤ◌, ◌≤ℤ◌, ◌<ℤ◌}
use Rattle.std.proofs.lemmas.Int.{ints}
use Rattle.exact_int.proofs.lemmas.Identity.{reads, identity}
use Rattle.exact_int.proofs.lemmas.Signs.{antisym, at_most_from_not_above, difference_from_lt, mul_positive}
use Rattle.geometry.specs.BoundingBox.{IsBox}
use Rattle.geometry.specs.Point.{Point}
use Rattle.raster.specs.Grid.{Grid}
use Rattle.part_on_screen.specs.Middle.{IsGridOn, IsInMiddle, screen_depth, screen_width}
use Rattle.part_on_screen.specs.Screen.{IsScreen, Screen}
use Rattle.part_on_screen.specs.Stands.{IsBetweenSides}
use Rattle.part_on_screen.specs.Stretched.{on_screen}
use Rattle.part_on_screen.specs.Turned.{turned}
use Rattle.part_on_screen.proofs.lemmas.Places.{point-by}
use Rattle.part_on_screen.specs.declared.quarters.Quarters.{Quarters}
use Rattle.part_on_screen.specs.declared.quarters.Quarters.TheVariants.{Zero, One, Two, Three}

not-after : (low high start : ℤ) (length : ℕ) → low ≤ℤ high → nat_abs (high -ℤ low) ≤ length → IsInMiddle low high length start → start ≤ℤ low
not-after low high start length order fit h = omega (arith, ints, order, fit, h.not_above)

not-before : (low high start : ℤ) (length : ℕ) → low ≤ℤ high → nat_abs (high -ℤ low) ≤ length → IsInMiddle low high length start → high ≤ℤ (start +ℤ pos length)
not-before low high start length order fit h = omega (arith, ints, order, fit, h.near)

pub parts-are-on-screen : (s : Screen) (low high : Point) (layer_height : ℕ) (g : Grid) → IsBox low high → IsGridOn s low high layer_height g → IsBetweenSides s low high g
parts-are-on-screen s low high layer_height g box on =
    record {
      left = not-after low.x high.x g.origin.x (screen_width s) box.x on.fits.along_x on.middle_x;
      right = not-before low.x high.x g.origin.x (screen_width s) box.x on.fits.along_x on.middle_x;
      front = not-after low.y high.y g.origin.y (screen_depth s) box.y on.fits.along_y on.middle_y;
      back = not-before low.y high.y g.origin.y (screen_depth s) box.y on.fits.along_y on.middle_y;
    }

not-less : (a b c : ℤ) → pos 0 <ℤ c → a *ℤ c ≡ b *ℤ c → a <ℤ b → ⊥
not-less a b c some e h =
    let more : pos 0 <ℤ ((b -ℤ a) *ℤ c) = mul_positive (b -ℤ a) c (difference_from_lt a b h) some in
    let apart : (b -ℤ a) *ℤ c ≡ b *ℤ c -ℤ a *ℤ c = identity (a ∷ b ∷ c ∷ []) (search reads depth 40) refl in
    clash (a *ℤ c) (b *ℤ c) e (subst (λ (z : ℤ). pos 0 <ℤ z) apart more)
  where
    clash : (x y : ℤ) → x ≡ y → pos 0 <ℤ (y -ℤ x) → ⊥
    clash x y e h = omega (arith, ints, e, h)

cancel : (a b c : ℤ) → pos 0 <ℤ c → a *ℤ c ≡ b *ℤ c → a ≡ b
cancel a b c some e =
    antisym a b (at_most_from_not_above b a (not-less b a c some (sym e))) (at_most_from_not_above a b (not-less a b c some e))

above-none : (n : ℕ) → 1 ≤ n → pos 0 <ℤ pos n
above-none n h = omega (arith, ints, h)

back : (a b : ℤ) → neg_ℤ a ≡ neg_ℤ b → a ≡ b
back a b e = omega (arith, ints, e)

unturned : (t : Quarters) (p q : Point) → (turned t p).x ≡ (turned t q).x → (turned t p).y ≡ (turned t q).y → p.z ≡ q.z → p ≡ q
unturned Zero p q e f g = point-by p q e f g
unturned One p q e f g = point-by p q f (back p.y q.y e) g
unturned Two p q e f g = point-by p q (back p.x q.x e) (back p.y q.y f) g
unturned Three p q e f g = point-by p q (back p.x q.x f) (back p.y q.y (back (neg_ℤ p.y) (neg_ℤ q.y) e)) g

same-height : (t : Quarters) (p : Point) → (turned t p).z ≡ p.z
same-height Zero p = refl
same-height One p = refl
same-height Two p = refl
same-height Three p = refl

pub points-stay-apart : (s : Screen) (p q : Point) → IsScreen s → on_screen s p ≡ on_screen s q → p ≡ q
points-stay-apart s p q is e =
    unturned s.turn p q
    (cancel (turned s.turn p).x (turned s.turn q).x (pos s.times_x) (above-none s.times_x is.times_x) (ap (λ (r : Point). r.x) e))
    (cancel (turned s.turn p).y (turned s.turn q).y (pos s.times_y) (above-none s.times_y is.times_y) (ap (λ (r : Point). r.y) e))
    (sym (same-height s.turn p) ∙ ap (λ (r : Point). r.z) e ∙ same-height s.turn q)
