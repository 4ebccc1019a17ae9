-- Ids of corners, which are indices among the points found, and how the numbers of the corners come from them.
use Rattle.std.specs.Prelude.{◌≡◌, ℕ, ◌≤◌, List, [], ◌∷◌, length, map, flat_map, slice_index}
use Rattle.std.specs.List.{All, Contains}
use Rattle.geometry.specs.Point.{Point}
use Rattle.geometry.specs.Facet.{Facet, corners}
use Rattle.geometry.specs.declared.limits.TheConstants.{CORNER_LIMIT}
use Rattle.mesh_weld.specs.Solid.{number_of}

-- the ranks of three ids
abbrev pub ranks_of : List ℕ → List ℕ → List ℕ
ranks_of ranks ids =
    slice_index ranks (slice_index ids 0) ∷ slice_index ranks (slice_index ids 1) ∷ slice_index ranks (slice_index ids 2) ∷ []

-- the ids of all facets' corners among some points
pub record AreIds (facets : List Facet) (ids : List (List ℕ)) : Type 0 where
  pub found : List Point
  pub few : length found ≤ CORNER_LIMIT
  pub covers : All (Contains found) (flat_map corners facets)
  pub are : ids ≡ map (λ t. map (number_of found) (corners t)) facets
