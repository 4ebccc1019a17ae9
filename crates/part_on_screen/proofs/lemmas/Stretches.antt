-- Facets that are put on a screen one after the other.
use Rattle.std.proofs.Common.{◌≡◌, ℕ, zero, suc, ◌<◌, List, [], ◌∷◌, ◌++◌, map, take, drop, get_or, length, refl, ap, sym, ◌∙◌, arith}
use Rattle.std.specs.Prelude.{ℤ, neg_ℤ, pos, ◌*ℤ◌}
use Rattle.exact_int.specs.Bounds.{IsAtMost}
use Rattle.exact_int.proofs.lemmas.Sizes.{neg_of}
use Rattle.geometry.specs.Point.{IsMeshPoint, Point}
use Rattle.geometry.specs.declared.limits.TheConstants.{COORDINATE_LIMIT}
use Rattle.part_on_screen.specs.Screen.{Screen}
use Rattle.part_on_screen.specs.Stretched.{on_screen, stretched}
use Rattle.part_on_screen.specs.Turned.{turned}
use Rattle.part_on_screen.specs.declared.quarters.Quarters.{Quarters}
use Rattle.part_on_screen.specs.declared.quarters.Quarters.TheVariants.{Zero, One, Two, Three}
use Rattle.part_on_screen.proofs.lemmas.Places.{point-by, point_at}

-- the element that is next
pub next-element : {X : Type 0} (f : X → X) (xs : List X) (i : ℕ) (d e : X) → i < length xs
    → get_or (take i xs ++ map f (drop i xs)) i e ≡ f (get_or xs i d)
next-element f [] i d e h = absurd (omega (arith, h))
next-element f (x ∷ xs) zero d e h = refl
next-element f (x ∷ xs) (suc i) d e h = next-element f xs i d e (omega (arith, h))

pub same-length : {X : Type 0} (f : X → X) (xs : List X) (i : ℕ) → i < length xs → i < length (take i xs ++ map f (drop i xs))
same-length f [] i h = absurd (omega (arith, h))
same-length f (x ∷ xs) zero h = omega arith
same-length f (x ∷ xs) (suc i) h = let k = same-length f xs i (omega (arith, h)) in omega (arith, k)

-- a coordinate after a turn, by the coordinates that were passed on
pub turned-x : (t : Quarters) (p : Point) (r a b : ℤ) → ((z : ℤ) → r ≡ (turned t (record { x = a; y = b; z = z })).x) → a ≡ p.x → b ≡ p.y → r ≡ (turned t p).x
turned-x t p r a b h e f =
    h p.z ∙ ap (λ (u : ℤ). (turned t (record { x = u; y = b; z = p.z })).x) e ∙ ap (λ (v : ℤ). (turned t (record { x = p.x; y = v; z = p.z })).x) f

pub turned-y : (t : Quarters) (p : Point) (r a b : ℤ) → ((z : ℤ) → r ≡ (turned t (record { x = a; y = b; z = z })).y) → a ≡ p.x → b ≡ p.y → r ≡ (turned t p).y
turned-y t p r a b h e f =
    h p.z ∙ ap (λ (u : ℤ). (turned t (record { x = u; y = b; z = p.z })).y) e ∙ ap (λ (v : ℤ). (turned t (record { x = p.x; y = v; z = p.z })).y) f

pub turned-z : (t : Quarters) (p : Point) → (turned t p).z ≡ p.z
turned-z Zero p = refl
turned-z One p = refl
turned-z Two p = refl
turned-z Three p = refl

-- a product by its factors
pub product : (a b : ℤ) (n m : ℕ) → a ≡ b → n ≡ m → a *ℤ pos n ≡ b *ℤ pos m
product a b n m e f = ap (λ z. z *ℤ pos n) e ∙ ap (λ k. b *ℤ pos k) f

-- the turned coordinates are in range
negative-in-range : (z : ℤ) → IsAtMost COORDINATE_LIMIT z → IsAtMost COORDINATE_LIMIT (neg_ℤ z)
negative-in-range z h = record { at_most = neg_of z COORDINATE_LIMIT h.at_most }

pub turned-in-range : (t : Quarters) (p : Point) → IsMeshPoint p → IsMeshPoint (turned t p)
turned-in-range Zero p h = h
turned-in-range One p h = (negative-in-range p.y h.1, h.0, h.2)
turned-in-range Two p h = (negative-in-range p.x h.0, negative-in-range p.y h.1, h.2)
turned-in-range Three p h = (negative-in-range (neg_ℤ p.y) (negative-in-range p.y h.1), negative-in-range p.x h.0, h.2)

-- a point that stands somewhere, by the quotients of its coordinates there and the turn back
pub stood : (s : Screen) (t : Quarters) (a b x y z : ℤ) (p there : Point) → ((q : Point) → turned s.turn (turned t q) ≡ q)
    → x ≡ (turned t (point_at a b z)).x → y ≡ (turned t (point_at a b z)).y → z ≡ there.z → p ≡ point_at x y z
    → a *ℤ pos s.times_x ≡ there.x → b *ℤ pos s.times_y ≡ there.y → on_screen s p ≡ there
stood s t a b x y z p there back at_x at_y at_z is along_x along_y =
    ap (on_screen s) (is ∙ point-by (point_at x y z) (turned t (point_at a b z)) at_x at_y (sym (turned-z t (point_at a b z))))
    ∙ ap (stretched s.times_x s.times_y) (back (point_at a b z))
    ∙ point-by _ there along_x along_y at_z
