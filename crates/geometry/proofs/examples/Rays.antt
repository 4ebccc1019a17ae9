-- Worked rays: the tie rule; an octahedron, at its centre, at a corner and beside it, and a slanted facet.
use Rattle.std.proofs.Common.{◌≡◌, refl, true, false}
use Rattle.std.specs.Prelude.{pos, negsuc}
use Rattle.geometry.proofs.examples.Meshes.{at, octahedron}
use Rattle.geometry.specs.Facet.{Facet, facet_with, twice}
use Rattle.geometry.specs.TieRule.{is_below, rises_through}
use Rattle.geometry.specs.Winding.{turn_of, wind, hit, ray, wind_y, hit_y, ray_y}

height_of_the_plane : is_below (pos 4) (pos 4) ≡ true
height_of_the_plane = refl

edge_up_to_the_plane : rises_through (pos 0) (pos 4) (pos 4) ≡ false
edge_up_to_the_plane = refl

edge_up_from_the_plane : rises_through (pos 4) (pos 8) (pos 4) ≡ true
edge_up_from_the_plane = refl

ray_octahedron : ray octahedron (at (pos 0) (pos 0) (pos 0)) ≡ pos 1
unfolding turn_of wind hit
ray_octahedron = refl

ray_y_octahedron : ray_y octahedron (at (pos 0) (pos 0) (pos 0)) ≡ pos 1
unfolding turn_of wind_y hit_y
ray_y_octahedron = refl

ray_corner : ray octahedron (at (pos 0) (negsuc 3) (pos 0)) ≡ pos 0
unfolding turn_of wind hit
ray_corner = refl

ray_y_corner : ray_y octahedron (at (pos 0) (negsuc 3) (pos 0)) ≡ pos 1
unfolding turn_of wind_y hit_y
ray_y_corner = refl

ray_inside : ray octahedron (at (pos 0) (pos 3) (pos 0)) ≡ pos 1
unfolding turn_of wind hit
ray_inside = refl

ray_north : ray octahedron (at (pos 0) (pos 4) (pos 0)) ≡ pos 0
unfolding turn_of wind hit
ray_north = refl

ray_east : ray octahedron (at (pos 4) (pos 0) (pos 0)) ≡ pos 0
unfolding turn_of wind hit
ray_east = refl

-- the line along x at y = z = 1 crosses this facet at x = 4/3, in half-micrometres
abbrev slanted : Facet
slanted = facet_with (at (pos 1) (pos 0) (pos 0)) (at (pos 0) (pos 3) (pos 0)) (at (pos 0) (pos 0) (pos 3))

hit_ahead : hit (twice slanted) (at (pos 1) (pos 1) (pos 1)) ≡ pos 1
unfolding turn_of wind hit
hit_ahead = refl

hit_behind : hit (twice slanted) (at (pos 2) (pos 1) (pos 1)) ≡ pos 0
unfolding turn_of wind hit
hit_behind = refl

-- a facet that is seen edge-on along x is not crossed
wind_line : wind (twice (facet_with (at (pos 0) (pos 0) (pos 0)) (at (pos 0) (pos 0) (pos 4)) (at (pos 2) (pos 0) (pos 2)))) (pos 0) (pos 0) ≡ pos 0
unfolding turn_of wind
wind_line = refl
