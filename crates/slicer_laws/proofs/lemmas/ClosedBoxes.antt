-- Each edge of a box is taken once there and once back.
use Rattle.std.proofs.Common.{◌≡◌, ℕ, Bool, true, cond, ◌&&◌, List, [], ◌∷◌, length, map, refl, ◌∙◌, ltb}
use Rattle.std.specs.Prelude.{IsPermutation}
use Rattle.std.specs.List.Sorted.{SwapsInRange, apply_swaps}
use Rattle.std.proofs.lemmas.Bool.{and_parts, ltb-true}
use Rattle.std.proofs.lemmas.List.Sorted.{sum_by-IsPermutation}
use Rattle.geometry.specs.Point.{Point}
use Rattle.geometry.specs.Facet.{edges}
use Rattle.mesh_weld.specs.Balance.{IsBalanced}
use Rattle.mesh_weld.proofs.lemmas.Edges.{back, runs}
use Rattle.mesh_weld.proofs.lemmas.Sums.{count-back}
use Rattle.slicer_laws.specs.Boxes.{box}

-- ---- an order reached by written-out exchanges
abbrev are_below : ℕ → List (ℕ × ℕ) → Bool
are_below n [] = true
are_below n (p ∷ ps) = ltb p.0 n && (ltb p.1 n && are_below n ps)

in_range : (n : ℕ) (moves : List (ℕ × ℕ)) → are_below n moves ≡ true → SwapsInRange n moves
in_range n [] h = tt
in_range n (p ∷ ps) h =
    let first : (ltb p.0 n ≡ true) × ((ltb p.1 n && are_below n ps) ≡ true) = and_parts _ _ h in
    let second : (ltb p.1 n ≡ true) × (are_below n ps ≡ true) = and_parts _ _ first.1 in
    (ltb-true p.0 n first.0, ltb-true p.1 n second.0, in_range n ps second.1)

pub exchanged : {X : Type 0} (xs ys : List X) (moves : List (ℕ × ℕ)) → are_below (length xs) moves ≡ true
    → ys ≡ apply_swaps xs moves → IsPermutation xs ys
exchanged xs ys moves h e = record { moves = moves; below = in_range (length xs) moves h; is = e }

-- ---- edges taken back
-- each edge changes places with the one that is its way back
returns-back : (low high : Point) → IsPermutation (map back (edges (box low high))) (edges (box low high))
returns-back low high =
    exchanged (map back (edges (box low high))) (edges (box low high))
    ((0, 17) ∷ (1, 35) ∷ (2, 3) ∷ (4, 18) ∷ (5, 24) ∷ (6, 28) ∷ (7, 22) ∷ (8, 9) ∷ (10, 31) ∷ (11, 13) ∷ (12, 29) ∷ (14, 15) ∷ (16, 30) ∷ (19, 34) ∷ (20, 21) ∷ (23, 25) ∷ (26, 27) ∷ (32, 33) ∷ [])
    refl refl

pub box_is_closed : (low high : Point) → IsBalanced (box low high)
box_is_closed low high u v =
    sum_by-IsPermutation (λ e. cond (runs u v e) 1 0) (map back (edges (box low high))) (edges (box low high)) (returns-back low high)
    ∙ count-back u v (edges (box low high))
