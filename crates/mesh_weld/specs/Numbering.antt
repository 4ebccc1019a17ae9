-- The numbering of a solid: its vertices, the numbers of its facets' corners and edges, the order of the facets, their
-- height ranges and the tops of the order's blocks.
use Rattle.std.specs.Prelude.{◌≡◌, ℕ, List, [], ◌∷◌}
use Rattle.geometry.specs.Facet.{Facet}
use Rattle.mesh_weld.specs.Balance.{IsBalanced}
use Rattle.mesh_weld.specs.EdgeNumbers.{AreEdgeNumbers}
use Rattle.mesh_weld.specs.declared.numbering.Numbering.{Numbering}
use Rattle.mesh_weld.specs.Solid.{AreBlockTops, IsByHeight, height_ranges, top_of, triples, vertices}

-- a list in groups of three
abbrev pub threes : List ℕ → List (List ℕ)
threes [] = []
threes (a ∷ []) = []
threes (a ∷ b ∷ []) = []
threes (a ∷ b ∷ c ∷ rest) = (a ∷ b ∷ c ∷ []) ∷ threes rest

-- what a solid holds besides its facets; the facets are closed
pub record IsNumberingOf {A : Type 0} (facets : List Facet) (own : Numbering A) : Type 0 where
  pub closed : IsBalanced facets
  pub points_are : own.points.items ≡ vertices facets
  pub numbers_are : own.numbers.items ≡ triples facets
  pub edges_are : AreEdgeNumbers facets (threes own.edges.numbers.items) own.edges.count
  pub order_is : IsByHeight facets own.heights.order.items
  pub ranges_are : own.heights.ranges.items ≡ height_ranges facets
  pub tops_are : AreBlockTops (top_of facets) own.heights.order.items own.heights.tops.items
