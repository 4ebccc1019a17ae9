-- A facet's hit, by the sign of its winding times its volume.
use Rattle.std.proofs.Common.{◌≡◌, ℤ, pos, ◌+ℤ◌, ◌*ℤ◌, ◌≤ℤ◌, ◌<ℤ◌, int_lt, false, if◌then◌else◌, ◌∙◌, arith}
use Rattle.std.proofs.lemmas.Int.{ints}
use Rattle.geometry.specs.Point.{Point}
use Rattle.geometry.specs.Facet.{Facet}
use Rattle.geometry.specs.Winding.{wind, volume, hit}

pub chosen : (x w : ℤ) → pos 0 <ℤ x → (if int_lt (pos 0) x then w else pos 0) ≡ w
chosen x w h = grind (arith, ints)

pub not_chosen : (x w : ℤ) → x ≤ℤ pos 0 → (if int_lt (pos 0) x then w else pos 0) ≡ pos 0
not_chosen x w h = grind (arith, ints)

pub hit-wind : (t : Facet) (p : Point) → pos 0 <ℤ (wind t p.y p.z *ℤ volume t p) → hit t p ≡ wind t p.y p.z
unfolding hit
hit-wind t p h = chosen (wind t p.y p.z *ℤ volume t p) (wind t p.y p.z) h

pub hit-zero : (t : Facet) (p : Point) → (wind t p.y p.z *ℤ volume t p) ≤ℤ pos 0 → hit t p ≡ pos 0
unfolding hit
hit-zero t p h = not_chosen (wind t p.y p.z *ℤ volume t p) (wind t p.y p.z) h

pub not_above_zero : (x : ℤ) → int_lt (pos 0) x ≡ false → x ≤ℤ pos 0
not_above_zero x e = omega (arith, ints)

pub three_sum : {a k l m : ℤ} (k' l' m' : ℤ) → a ≡ k' +ℤ l' +ℤ m' → k' ≡ k → l' ≡ l → m' ≡ m → a ≡ k +ℤ l +ℤ m
three_sum k' l' m' e f g h = e ∙ (λ i. f i +ℤ g i +ℤ h i)
