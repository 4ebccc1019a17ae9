-- The facets that a plane cuts, and how those at one height follow from those at a lower one. Heights z are in
-- half-micrometres. TieRule says which corners count as below a height.
-- - `active_facets facets z`: the numbers of the facets that are cut at the height z, in ascending order
-- - `reached_count facets z`: the number of facets that the plane has reached
use Rattle.std.specs.Prelude.{ℕ, Bool, ◌&&◌, List, [], ◌∷◌, ◌++◌, map, filter, take, drop, count_by, ℤ, pos, ◌*ℤ◌, nat_lt}
use Rattle.std.specs.List.{enumerate_from, list_any, prefix_len}
use Rattle.geometry.specs.TieRule.{is_below, is_above}
use Rattle.geometry.specs.Facet.{Facet, corners, least_z}
use Rattle.mesh_weld.specs.Solid.{facet_at, top_of}
use Rattle.plane_segments.specs.Segment.{height}

-- some corner counts as below the height z
abbrev pub is_reached : ℤ → Facet → Bool
is_reached z t = list_any (λ p. is_below (height p) z) (corners t)

-- some corner counts as below the height z, and some corner is above it
abbrev pub is_between : ℤ → Facet → Bool
is_between z t = is_reached z t && list_any (λ p. is_above (height p) z) (corners t)

abbrev pub active_facets : List Facet → ℤ → List ℕ
active_facets facets z = map (λ e. e.0) (filter (λ e. is_between z e.1) (enumerate_from 0 facets))

abbrev pub reached_count : List Facet → ℤ → ℕ
reached_count facets z = count_by (is_reached z) facets

-- the lowest corner of the facet with a number counts as below the height z, and its highest corner is above z
abbrev pub starts_by : List Facet → ℤ → ℕ → Bool
starts_by facets z n = is_below (pos 2 *ℤ least_z (facet_at facets n)) z

abbrev pub ends_above : List Facet → ℤ → ℕ → Bool
ends_above facets z n = is_above (pos 2 *ℤ top_of facets n) z

-- two ascending lists as one
abbrev pub merge : List ℕ → List ℕ → List ℕ
merge [] ms = ms
merge (n ∷ ns) ms =
    take (prefix_len (λ m. nat_lt m n) ms) ms ++ n ∷ merge ns (drop (prefix_len (λ m. nat_lt m n) ms) ms)
