-- Closed meshes: between any two points as many half-edges run there as back.
use Rattle.std.specs.Prelude.{◌≡◌, ◌≢◌, ℕ, Bool, true, false, ◌&&◌, ◌||◌, List, count_by}
use Rattle.geometry.specs.Point.{Point, same, is_before}
use Rattle.geometry.specs.Facet.{Facet, Edge, edges}

-- the number of half-edges from u to v
abbrev pub half_edge_count : List Facet → Point → Point → ℕ
half_edge_count facets u v = count_by (λ e. same e.from u && same e.to v) (edges facets)

-- a mesh is closed: as many half-edges run from any point to another as back
abbrev pub IsBalanced : List Facet → Type 0
IsBalanced facets = (u v : Point) → half_edge_count facets u v ≡ half_edge_count facets v u

-- edges in order of their starts, then of their ends
abbrev pub is_edge_before : Edge → Edge → Bool
is_edge_before d e = is_before d.from e.from || (same d.from e.from && is_before d.to e.to)

-- the least pair of points, from before to, between which the half-edges there and back differ in number
pub record IsLeastOpen (facets : List Facet) (from to : Point) (there back : ℕ) : Type 0 where
  pub in_order : is_before from to ≡ true
  pub there_is : there ≡ half_edge_count facets from to
  pub back_is : back ≡ half_edge_count facets to from
  pub differ : there ≢ back
  pub least : (e : Edge) → is_before e.from e.to ≡ true → half_edge_count facets e.from e.to ≢ half_edge_count facets e.to e.from
      → is_edge_before e (record { from = from; to = to }) ≡ false

abbrev pub HasOpenEdge : List Facet → Type 0
HasOpenEdge facets = (from : Point) × (to : Point) × (there : ℕ) × (back : ℕ) × IsLeastOpen facets from to there back
