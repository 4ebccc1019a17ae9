-- Worked examples: the segments of a box and of an octahedron.
use Rattle.std.proofs.Common.{◌≡◌, [], ◌∷◌, refl, map, Some}
use Rattle.std.specs.Prelude.{pos, slice_get}
use Rattle.geometry.proofs.examples.Meshes.{cube, octahedron}
use Rattle.plane_segments.specs.Segment.{segments}

-- the facets of its sides, whether the plane is in its bottom or between; in its top there is none
facets_box : map (λ s. s.facet) (segments (cube 0 2) (pos 1)) ≡ 4 ∷ 5 ∷ 6 ∷ 7 ∷ 8 ∷ 9 ∷ 10 ∷ 11 ∷ []
facets_box = refl

same_bottom : segments (cube 0 2) (pos 0) ≡ segments (cube 0 2) (pos 1)
same_bottom = refl

none_top : segments (cube 0 2) (pos 4) ≡ []
none_top = refl

-- the first of them runs from the diagonal of its side to an upright edge
first_box : slice_get (segments (cube 0 2) (pos 1)) 0
    ≡ Some (record { facet = 4; from = record { low = 0; high = 5 }; to = record { low = 4; high = 5 } })
first_box = refl

none_octahedron : segments octahedron (pos 4) ≡ []
none_octahedron = refl
