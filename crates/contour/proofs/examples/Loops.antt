-- Worked examples: loops of a box, alone and with a facet that occurs twice, of an octahedron and of two boxes; a rising
-- plane through two boxes.
use Rattle.std.proofs.Common.{◌≡◌, ℕ, List, [], ◌∷◌, refl, map, length}
use Rattle.std.specs.Prelude.{pos}
use Rattle.geometry.proofs.examples.Meshes.{at, cube, octahedron, two_boxes, box_with_a_pair}
use Rattle.geometry.specs.Winding.{ray, turn_of, wind, hit}
use Rattle.plane_segments.specs.Segment.{segments}
use Rattle.plane_segments.specs.declared.segment.Segment.{Segment}
use Rattle.contour.specs.Loops.{loop_facets, loops}
use Rattle.contour.specs.Active.{active_facets, reached_count}

abbrev facets_in : List (List Segment) → List (List ℕ)
facets_in found = map (λ loop. map (λ s. s.facet) loop) found

loops_box : facets_in (loops (segments (cube 0 2) (pos 1))) ≡ (4 ∷ 11 ∷ 10 ∷ 7 ∷ 6 ∷ 9 ∷ 8 ∷ 5 ∷ []) ∷ []
loops_box = refl

loops_box_above : facets_in (loops (segments (cube 0 2) (pos 3))) ≡ (4 ∷ 11 ∷ 10 ∷ 7 ∷ 6 ∷ 9 ∷ 8 ∷ 5 ∷ []) ∷ []
loops_box_above = refl

loops_pair : facets_in (loops (segments box_with_a_pair (pos 1)))
    ≡ (4 ∷ 11 ∷ 10 ∷ 7 ∷ 6 ∷ 9 ∷ 8 ∷ 5 ∷ []) ∷ (12 ∷ 13 ∷ []) ∷ []
loops_pair = refl

loops_octahedron : facets_in (loops (segments octahedron (pos 0))) ≡ (0 ∷ 1 ∷ 2 ∷ 3 ∷ []) ∷ []
loops_octahedron = refl

loops_two : map length (loops (segments two_boxes (pos 6))) ≡ 8 ∷ 8 ∷ []
loops_two = refl

-- the rays of two boxes from the centre of the middle voxel, loop by loop
loop_rays : map (λ loop. ray (loop_facets two_boxes loop) (at (pos 6) (pos 6) (pos 6))) (loops (segments two_boxes (pos 6))) ≡ pos 1 ∷ pos 1 ∷ []
unfolding turn_of wind hit
loop_rays = refl

loop_rays_pair : map (λ loop. ray (loop_facets box_with_a_pair loop) (at (pos 1) (pos 1) (pos 1))) (loops (segments box_with_a_pair (pos 1))) ≡ pos 1 ∷ pos 0 ∷ []
unfolding turn_of wind hit
loop_rays_pair = refl

passed_rows : map (reached_count two_boxes) (pos 2 ∷ pos 6 ∷ pos 10 ∷ pos 12 ∷ []) ≡ 10 ∷ 20 ∷ 22 ∷ 24 ∷ []
passed_rows = refl

active_rows : map (active_facets two_boxes) (pos 2 ∷ pos 6 ∷ pos 10 ∷ pos 12 ∷ [])
    ≡ (4 ∷ 5 ∷ 6 ∷ 7 ∷ 8 ∷ 9 ∷ 10 ∷ 11 ∷ [])
    ∷ (4 ∷ 5 ∷ 6 ∷ 7 ∷ 8 ∷ 9 ∷ 10 ∷ 11 ∷ 16 ∷ 17 ∷ 18 ∷ 19 ∷ 20 ∷ 21 ∷ 22 ∷ 23 ∷ [])
    ∷ (16 ∷ 17 ∷ 18 ∷ 19 ∷ 20 ∷ 21 ∷ 22 ∷ 23 ∷ []) ∷ [] ∷ []
active_rows = refl
