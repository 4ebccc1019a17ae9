-- Worked rows of quarter turns: premises of the laws that hold, and what fails without them. The block's edges are two micrometres
-- long.
use Rattle.std.proofs.Common.{◌≡◌, refl, List, [], ◌∷◌, ◌++◌, arith, lit≤}
use Rattle.std.specs.Prelude.{All, pos, negsuc}
use Rattle.std.proofs.lemmas.Int.{ints}
use Rattle.std.proofs.lemmas.List.Elements.{All-append, All-from_recursion}
use Rattle.geometry.specs.Facet.{Facet, facet_with, twice}
use Rattle.geometry.specs.Point.{Point}
use Rattle.geometry.specs.Touch.{Touches}
use Rattle.geometry.specs.Winding.{turn_of, wind, wind_y, hit, hit_y, ray, ray_y}
use Rattle.mesh_weld.specs.Probing.{NoneTouches}
use Rattle.raster.specs.declared.rule.Rule.TheVariants.{EvenOdd}
use Rattle.raster.specs.Grid.{Grid, centre, grid_with}
use Rattle.raster.specs.Filler.{area_of}
use Rattle.part_on_screen.specs.Stands.{turned_part}
use Rattle.part_on_screen.specs.Turned.{quarter_turned}
use Rattle.part_on_screen.specs.declared.quarters.Quarters.TheVariants.{One}
use Rattle.slicer_laws.specs.Boxes.{at, box, side, sides_x, sides_y, sides_z}
use Rattle.slicer_laws.specs.QuarterTurns.{MissesEdges, turned_grid}

abbrev pub low : Point
low = at (pos 0) (pos 0) (pos 0)

abbrev pub high : Point
high = at (pos 2) (pos 2) (pos 2)

abbrev pub block : List Facet
block = box low high

-- ---- a centre inside, which no facet touches
abbrev pub inside : Point
inside = at (pos 1) (pos 1) (pos 2)

abbrev IsFree : Facet → Type 0
IsFree t = ¬ Touches (twice t) inside

four : (p q r s : Facet) → IsFree p → IsFree q → IsFree r → IsFree s → All IsFree (p ∷ q ∷ r ∷ s ∷ [])
four p q r s a b c d = All-from_recursion IsFree (p ∷ q ∷ r ∷ s ∷ []) (a, (b, (c, (d, tt))))

sides_x_are_free : All IsFree (sides_x low high)
sides_x_are_free =
    four _ _ _ _
    (λ h. omega (arith, ints, h.some, h.mean_x))
    (λ h. omega (arith, ints, h.some, h.mean_x))
    (λ h. omega (arith, ints, h.some, h.mean_x))
    (λ h. omega (arith, ints, h.some, h.mean_x))

sides_y_are_free : All IsFree (sides_y low high)
sides_y_are_free =
    four _ _ _ _
    (λ h. omega (arith, ints, h.some, h.mean_y))
    (λ h. omega (arith, ints, h.some, h.mean_y))
    (λ h. omega (arith, ints, h.some, h.mean_y))
    (λ h. omega (arith, ints, h.some, h.mean_y))

sides_z_are_free : All IsFree (sides_z low high)
sides_z_are_free =
    four _ _ _ _
    (λ h. omega (arith, ints, h.some, h.mean_z))
    (λ h. omega (arith, ints, h.some, h.mean_z))
    (λ h. omega (arith, ints, h.some, h.mean_z))
    (λ h. omega (arith, ints, h.some, h.mean_z))

inside_is_free : NoneTouches block inside
inside_is_free =
    All-append IsFree (sides_x low high) (sides_y low high ++ sides_z low high) sides_x_are_free
    (All-append IsFree (sides_y low high) (sides_z low high) sides_y_are_free sides_z_are_free)

-- ---- a pixel whose centre lies on the block's near face along y. After the turn that face is the far one along x.
abbrev pub on_face : Grid
on_face = grid_with (at (pos 0) (negsuc 0) (pos 0)) 2 2 1 1 1

face_is_touched : Touches (twice (facet_with (at (pos 0) (pos 0) (pos 0)) (at (pos 2) (pos 0) (pos 0)) (at (pos 2) (pos 0) (pos 2)))) (centre on_face 0 0 0)
face_is_touched = record { of_a = 1; of_b = 0; of_c = 1; some = lit≤ tt; mean_x = refl; mean_y = refl; mean_z = refl }

before_the_turn : area_of on_face EvenOdd block 0 ≡ 1
unfolding turn_of wind hit
before_the_turn = refl

after_the_turn : area_of (turned_grid on_face) EvenOdd (turned_part One block) 0 ≡ 0
unfolding turn_of wind hit
after_the_turn = refl

-- the line along x through that centre meets edges, and the ray along y after the turn has other crossings
along_x : ray block (centre on_face 0 0 0) ≡ pos 1
unfolding turn_of wind hit
along_x = refl

along_y_after_the_turn : ray_y (turned_part One block) (quarter_turned (centre on_face 0 0 0)) ≡ pos 0
unfolding turn_of wind_y hit_y
along_y_after_the_turn = refl

-- ---- a wall that is not closed: the ray along x becomes one along y, and no ray along x crosses the turned wall
abbrev pub wall : List Facet
wall = side (at (pos 2) (pos 0) (pos 0)) (at (pos 2) (pos 2) (pos 0)) (at (pos 2) (pos 2) (pos 2)) (at (pos 2) (pos 0) (pos 2))

wall_is_off_edges : All (λ t. MissesEdges (twice t) inside) wall
wall_is_off_edges =
    All-from_recursion (λ t. MissesEdges (twice t) inside) wall
    (record { first = refl; second = refl; third = refl }, (record { first = refl; second = refl; third = refl }, tt))

wall_along_x : ray wall inside ≡ pos 1
unfolding turn_of wind hit
wall_along_x = refl

wall_turned_along_y : ray_y (turned_part One wall) (quarter_turned inside) ≡ pos 1
unfolding turn_of wind_y hit_y
wall_turned_along_y = refl

wall_turned_along_x : ray (turned_part One wall) (quarter_turned inside) ≡ pos 0
unfolding turn_of wind hit
wall_turned_along_x = refl
