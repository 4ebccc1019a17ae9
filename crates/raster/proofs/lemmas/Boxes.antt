-- The least and the greatest coordinates of a mesh make a box.
use Rattle.std.proofs.Common.{◌≡◌, List, [], ◌∷◌, Some, None, refl, arith}
use Rattle.std.specs.Prelude.{IfSome, Option, option_map, ℤ, ◌≤ℤ◌, flat_map, fold}
use Rattle.std.specs.Int.{int_min, int_max}
use Rattle.std.proofs.lemmas.Int.{ints, clamps}
use Rattle.geometry.specs.Point.{Point}
use Rattle.geometry.specs.Facet.{Facet, corners}
use Rattle.geometry.specs.BoundingBox.{Bounds, IsBox, bounds_of, corner_pair, extent, greatest_of, least_of}

wider : (a b c : ℤ) → a ≤ℤ b → int_min a c ≤ℤ int_max b c
wider a b c h = omega (arith, ints, clamps)

same-order : (a : ℤ) → a ≤ℤ a
same-order a = omega (arith, ints)

fold-box : (low high : Point) (ps : List Point) → IsBox low high → IsBox (fold least_of low ps) (fold greatest_of high ps)
fold-box low high [] h = h
fold-box low high (p ∷ ps) h =
    fold-box (least_of low p) (greatest_of high p) ps
    (record { x = wider low.x high.x p.x h.x; y = wider low.y high.y p.y h.y; z = wider low.z high.z p.z h.z })

list-box : (ps : List Point) → IfSome (option_map corner_pair (bounds_of ps)) (λ c. IsBox c.0 c.1)
list-box [] = tt
list-box (p ∷ ps) = fold-box p p ps (record { x = same-order p.x; y = same-order p.y; z = same-order p.z })

pub bounds-box : (facets : List Facet) → IfSome (extent facets) (λ c. IsBox c.0 c.1)
bounds-box facets = list-box (flat_map corners facets)

abbrev pub box_of : Point × Point → Bounds
box_of c = record { low = c.0; high = c.1 }

-- a pair of corners says what the bounds do
pub bounds-back : (o : Option Bounds) → option_map box_of (option_map corner_pair o) ≡ o
bounds-back None = refl
bounds-back (Some b) = refl
