-- Welders, and facets by the ids of their corners: an id is a point's index among the points found so far. A point may
-- have two ids, if it found no free slot in the table.
use Rattle.std.specs.Prelude.{◌≡◌, ℕ, ◌+◌, ◌*◌, ◌<◌, ◌≤◌, not, List, ◌++◌, [], OnErr, OnOk, Result, length, filter, flat_map, slice_index_or}
use Rattle.std.specs.List.{All, Contains}
use Rattle.geometry.specs.Point.{Point, origin}
use Rattle.geometry.specs.Facet.{Facet, corners}
use Rattle.mesh_weld.specs.PointOrder.{IsAppendedOrSame}
use Rattle.mesh_weld.specs.declared.names.Names.{Names}
use Rattle.mesh_weld.specs.Solid.{HaveDistinctCorners, facet_by, facets_by, is_kept, kept_facets}

-- the facets that were added: those with three distinct corners and the degenerate ones, each in their order
pub record Welder : Type 0 where
  pub kept : List Facet
  pub degenerate : List Facet

abbrev pub degenerate_facets : List Facet → List Facet
degenerate_facets facets = filter (λ t. not (is_kept t)) facets

abbrev pub welder_of : List Facet → Welder
welder_of facets = record { kept = kept_facets facets; degenerate = degenerate_facets facets }

-- a welder of facets that are given by ids, and of degenerate ones
abbrev pub welder_by : List Point → List (List ℕ) → List Facet → Welder
welder_by points ids degenerate = record { kept = facets_by points ids; degenerate = degenerate }

-- more facets after those so far
abbrev pub with_facets : Welder → List Facet → Welder
with_facets welder facets =
    record { kept = welder.kept ++ kept_facets facets; degenerate = welder.degenerate ++ degenerate_facets facets }

-- an id that leads to a point, which is among the points already or is appended to them
abbrev pub IsNamed : List Point → Point → List Point → ℕ → Type 0
IsNamed old p new id = IsAppendedOrSame old p new × (id < length new) × (slice_index_or new id origin ≡ p)

-- each number is an index of the points
abbrev pub AreBelow : List Point → List (List ℕ) → Type 0
AreBelow points numbers = All (All (λ n. n < length points)) numbers

-- the ids of a facet's corners; those that are new are appended to the points
pub record IsNamedFacet (old : List Point) (t : Facet) (new : List Point) (ids : List ℕ) : Type 0 where
  pub more : List Point
  pub appended : new ≡ old ++ more
  pub few : length more ≤ 3
  pub own : All (Contains (corners t)) more
  pub three : length ids ≡ 3
  pub below : All (λ id. id < length new) ids
  pub leads : facet_by new ids ≡ t

-- three ids a facet, which lead to three distinct points; each point is a facet's corner
pub record AreNamed (points : List Point) (ids : List (List ℕ)) : Type 0 where
  pub three : All (λ own. length own ≡ 3) ids
  pub below : AreBelow points ids
  pub covered : All (Contains (flat_map corners (facets_by points ids))) points
  pub few : length points ≤ 3 * length ids
  pub distinct : HaveDistinctCorners (facets_by points ids)

-- after any facets that are named, more of them are named, in their order, and the degenerate ones are added to theirs
pub record AreNamedMore {A : Type 0} (old : Names A) (ids : List (List ℕ)) (facets : List Facet) (new : Names A) (more : List (List ℕ)) : Type 0 where
  pub named : (before : List (List ℕ)) → AreNamed old.points.items (before ++ ids) → AreNamed new.points.items (before ++ more)
  pub added : (before : List (List ℕ)) → AreNamed old.points.items (before ++ ids)
      → facets_by new.points.items (before ++ more) ≡ facets_by old.points.items (before ++ ids) ++ kept_facets facets
  pub degenerate : new.degenerate.items ≡ old.degenerate.items ++ degenerate_facets facets
  pub few : length new.points.items ≤ length old.points.items + 3 * length facets

-- a welder has more facets after those so far, or none if an allocation failed
pub record IsMoreWelded (old : Welder) (facets : List Facet) (new : Welder) {E : Type 0} (result : Result (Unit {0}) E) : Type 0 where
  pub added : OnOk result (new ≡ with_facets old facets)
  pub whole : (before : List Facet) → old ≡ welder_of before → OnOk result (new ≡ welder_of (before ++ facets))
  pub failed : OnErr result (new ≡ welder_of [])
