-- The ray of a box along y: with x and y exchanged it is the ray along x of a box that is turned inside out.
use Rattle.std.proofs.Common.{◌≡◌, Bool, true, false, cond, ◌&&◌, List, [], ◌∷◌, map, ℤ, pos, negsuc, neg_ℤ, zero, suc, refl, sym, ◌∙◌, ap}
use Rattle.std.specs.Prelude.{IsPermutation}
use Rattle.geometry.specs.Point.{Point}
use Rattle.geometry.specs.Facet.{Facet, twice}
use Rattle.geometry.specs.Winding.{hit, hit_y, ray, ray_y}
use Rattle.exact_cut.proofs.lemmas.Steps.{hit-swap, swap, swap_tri}
use Rattle.mesh_weld.proofs.lemmas.Sums.{total-map, total-neg}
use Rattle.geometry.specs.BoundingBox.{IsBox}
use Rattle.slicer_laws.specs.Boxes.{box, holds, is_from_to}
use Rattle.slicer_laws.specs.InsideOut.{inside_out}
use Rattle.slicer_laws.proofs.lemmas.Boxes.{ray-box}
use Rattle.slicer_laws.proofs.lemmas.ClosedBoxes.{exchanged}
use Rattle.raster.proofs.lemmas.Sweeps.{total-permutation}
use Rattle.slicer_laws.proofs.lemmas.Turned.{ray-turned}

ray_y-swap : (facets : List Facet) (c : Point) → ray_y facets c ≡ neg_ℤ (ray (map swap_tri facets) (swap c))
ray_y-swap facets c =
    total-neg (λ t. hit_y (twice t) c) (λ t. hit (twice (swap_tri t)) (swap c)) (λ t. hit-swap (twice t) c) facets
    ∙ ap neg_ℤ (sym (total-map (λ t. hit (twice t) (swap c)) swap_tri facets))

swapped_box : (low high : Point) → IsPermutation (inside_out (box (swap low) (swap high))) (map swap_tri (box low high))
swapped_box low high =
    exchanged (inside_out (box (swap low) (swap high))) (map swap_tri (box low high))
    ((0, 5) ∷ (1, 4) ∷ (2, 7) ∷ (3, 6) ∷ (8, 9) ∷ (10, 11) ∷ []) refl refl

neg-neg : (z : ℤ) → neg_ℤ (neg_ℤ z) ≡ z
neg-neg (pos zero) = refl
neg-neg (pos (suc n)) = refl
neg-neg (negsuc n) = refl

other_order : (x y z : Bool) → (y && x && z) ≡ (x && y && z)
other_order true true z = refl
other_order true false z = refl
other_order false true z = refl
other_order false false z = refl

pub ray_y-box : (low high c : Point) → IsBox low high → ray_y (box low high) c ≡ cond (holds low high c) (pos 1) (pos 0)
ray_y-box low high c order =
    ray_y-swap (box low high) c
    ∙ ap neg_ℤ
    (total-permutation (λ t. hit (twice t) (swap c)) (inside_out (box (swap low) (swap high))) (map swap_tri (box low high)) (swapped_box low high)
    ∙ ray-turned (box (swap low) (swap high)) (swap c))
    ∙ neg-neg (ray (box (swap low) (swap high)) (swap c))
    ∙ ray-box (swap low) (swap high) (swap c) (record { x = order.y; y = order.x; z = order.z })
    ∙ ap (λ b. cond b (pos 1) (pos 0)) (other_order (is_from_to low.x high.x c.x) (is_from_to low.y high.y c.y) (is_from_to low.z high.z c.z))
