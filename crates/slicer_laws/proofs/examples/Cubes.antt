-- Worked rows: premises of the laws that hold, and what fails without them. The cubes' edges are one micrometre long.
use Rattle.std.proofs.Common.{◌≡◌, ◌≤◌, ℕ, zero, suc, refl, List, ◌++◌, arith, lit≤}
use Rattle.std.specs.Prelude.{pos, negsuc, ◌≤ℤ◌}
use Rattle.std.proofs.lemmas.Int.{ints}
use Rattle.geometry.specs.BoundingBox.{IsBox}
use Rattle.geometry.specs.Facet.{Facet}
use Rattle.geometry.specs.Winding.{turn_of, wind, hit, ray}
use Rattle.raster.specs.declared.rule.Rule.TheVariants.{EvenOdd, NonZero, Positive}
use Rattle.exact_int.specs.Bounds.{IsAtMost}
use Rattle.geometry.specs.declared.limits.TheConstants.{COORDINATE_LIMIT}
use Rattle.raster.specs.Grid.{Grid, IsGrid, grid_with}
use Rattle.raster.specs.Filler.{area_of}
use Rattle.slicer_laws.specs.Boxes.{at, box}
use Rattle.slicer_laws.specs.InsideOut.{inside_out}
use Rattle.slicer_laws.specs.Moves.{moved_mesh}
use Rattle.slicer_laws.specs.Shells.{AreApart}
use Rattle.slicer_laws.specs.Slabs.{layers_from}

abbrev pub cube : List Facet
cube = box (at (pos 0) (pos 0) (pos 0)) (at (pos 1) (pos 1) (pos 1))

abbrev pub neighbour : List Facet
neighbour = box (at (pos 1) (pos 0) (pos 0)) (at (pos 2) (pos 1) (pos 1))

-- two voxels beside each other: the first in the cube, the second in its neighbour
abbrev pub pair : Grid
pair = grid_with (at (pos 0) (pos 0) (pos 0)) 1 1 2 1 1

cube_is_a_box : IsBox (at (pos 0) (pos 0) (pos 0)) (at (pos 1) (pos 1) (pos 1))
cube_is_a_box = record { x = omega (arith, ints); y = omega (arith, ints); z = omega (arith, ints) }

-- ---- a mesh turned inside out
ray_inside_out : ray (inside_out cube) (at (pos 1) (pos 1) (pos 1)) ≡ negsuc 0
unfolding turn_of wind hit
ray_inside_out = refl

positive_cube : area_of pair Positive cube 0 ≡ 1
unfolding turn_of wind hit
positive_cube = refl

positive_inside_out : area_of pair Positive (inside_out cube) 0 ≡ 0
unfolding turn_of wind hit
positive_inside_out = refl

-- ---- another mesh of as many facets
ray_cube : ray cube (at (pos 3) (pos 1) (pos 1)) ≡ pos 0
unfolding turn_of wind hit
ray_cube = refl

ray_neighbour : ray neighbour (at (pos 3) (pos 1) (pos 1)) ≡ pos 1
unfolding turn_of wind hit
ray_neighbour = refl

-- ---- slabs
-- a grid of ten layers that begins at the limit of coordinates: all above its first layer begins beyond it
abbrev pub tall : Grid
tall = grid_with (at (pos 0) (pos 0) (pos COORDINATE_LIMIT)) 1 1 1 1 10

in_limits : (n : ℕ) → n ≤ COORDINATE_LIMIT → IsAtMost COORDINATE_LIMIT (pos n)
in_limits n h = record { at_most = h }

tall_is_a_grid : IsGrid tall
tall_is_a_grid =
    record {
      origin = (in_limits 0 (lit≤ tt), in_limits 0 (lit≤ tt), in_limits COORDINATE_LIMIT (lit≤ tt));
      pitch = (lit≤ tt, lit≤ tt);
      layer_height = (lit≤ tt, lit≤ tt);
      columns_low = lit≤ tt;
      columns_high = lit≤ tt;
      rows_low = lit≤ tt;
      rows_high = lit≤ tt;
      layers_low = lit≤ tt;
      layers_high = lit≤ tt;
      last_x = omega (arith, ints);
      last_y = omega (arith, ints);
      last_z = omega (arith, ints);
    }

upper_part_too_high : (layers_from 1 tall).origin.z ≤ℤ pos COORDINATE_LIMIT → ⊥
upper_part_too_high h = omega (arith, ints)

-- above all layers of a grid there is none, wherever its origin lies
no_layers : IsGrid (layers_from 1 pair) → ⊥
no_layers h = omega (arith, h.layers_low)

-- a layer below the cube, and one within it
abbrev pub stack : Grid
stack = grid_with (at (pos 0) (pos 0) (negsuc 0)) 1 1 1 1 2

area_below : area_of stack EvenOdd cube 0 ≡ 0
unfolding turn_of wind hit
area_below = refl

area_within : area_of (layers_from 1 stack) EvenOdd cube 0 ≡ 1
unfolding turn_of wind hit
area_within = refl

area_above : area_of (layers_from 2 stack) EvenOdd cube 0 ≡ 0
unfolding turn_of wind hit
area_above = refl

-- ---- a mesh moved by a micrometre, and a centre moved by two half-micrometres, by one, or not at all
moved_by_two : ray (moved_mesh (at (pos 1) (pos 0) (pos 0)) cube) (at (pos 2) (pos 0) (pos 0)) ≡ pos 1
unfolding turn_of wind hit
moved_by_two = refl

moved_by_one : ray (moved_mesh (at (pos 1) (pos 0) (pos 0)) cube) (at (pos 1) (pos 0) (pos 0)) ≡ pos 0
unfolding turn_of wind hit
moved_by_one = refl

left_behind : ray (moved_mesh (at (pos 1) (pos 0) (pos 0)) cube) (at (pos 0) (pos 0) (pos 0)) ≡ pos 0
unfolding turn_of wind hit
left_behind = refl

-- ---- shells
neighbours_add : area_of pair EvenOdd (cube ++ neighbour) 0 ≡ 2
unfolding turn_of wind hit
neighbours_add = refl

cubes_are_apart : AreApart pair EvenOdd 0 cube neighbour
unfolding turn_of wind hit
cubes_are_apart zero zero h l = refl
cubes_are_apart (suc zero) zero h l = refl
cubes_are_apart (suc (suc i)) j h l = absurd (omega arith)
cubes_are_apart i (suc j) h l = absurd (omega arith)

-- a cube that occurs twice fills its voxel twice, which is not filled by evenodd, and filled once by nonzero
twice_evenodd : area_of pair EvenOdd (cube ++ cube) 0 ≡ 0
unfolding turn_of wind hit
twice_evenodd = refl

twice_nonzero : area_of pair NonZero (cube ++ cube) 0 ≡ 1
unfolding turn_of wind hit
twice_nonzero = refl

-- the negative ray of the turned cube takes from the cube, though no voxel is filled by both
positive_with_negative_ray : area_of pair Positive (cube ++ inside_out cube) 0 ≡ 0
unfolding turn_of wind hit
positive_with_negative_ray = refl

-- ---- half-open boxes: the points at the low ends are held, those at a high end are not
near_corner : ray cube (at (pos 0) (pos 0) (pos 0)) ≡ pos 1
unfolding turn_of wind hit
near_corner = refl

far_x : ray cube (at (pos 2) (pos 0) (pos 0)) ≡ pos 0
unfolding turn_of wind hit
far_x = refl

far_y : ray cube (at (pos 0) (pos 2) (pos 0)) ≡ pos 0
unfolding turn_of wind hit
far_y = refl

far_z : ray cube (at (pos 0) (pos 0) (pos 2)) ≡ pos 0
unfolding turn_of wind hit
far_z = refl

-- with its corners exchanged along x it is inside out, and its ray is -1
corners_exchanged : ray (box (at (pos 1) (pos 0) (pos 0)) (at (pos 0) (pos 1) (pos 1))) (at (pos 1) (pos 1) (pos 1)) ≡ negsuc 0
unfolding turn_of wind hit
corners_exchanged = refl
