-- The laws of closed meshes. What changes its sign with an edge's direction sums to 0 over all half-edges, and so do the
-- windings along a line. So a ray's crossings can be summed ahead of its start, or behind it.
use Rattle.std.specs.Prelude.{◌≡◌, ◌↔◌, ◌⊎◌, false, ℕ, List, [], ◌∷◌, ℤ, pos, ◌+ℤ◌, neg_ℤ}
use Rattle.geometry.specs.Point.{Point}
use Rattle.geometry.specs.Facet.{Facet, twice}
use Rattle.geometry.specs.Winding.{total, wind, wind_y, hit, hit_y, ray, ray_y, neg_ray_back}
use Rattle.mesh_weld.specs.Balance.{IsBalanced}
use Rattle.mesh_weld.specs.EdgeNumbers.{AreEdgeNumbers}
use Rattle.mesh_weld.specs.Solid.{is_kept, kept_facets}
use Rattle.mesh_weld.specs.Probing.{NoneTouches, NoneBetween}

-- the amount of an edge changes its sign with the direction
abbrev pub IsOpposite : (Point → Point → ℤ) → Type 0
IsOpposite amount = (u v : Point) → amount v u ≡ neg_ℤ (amount u v)

-- the sum of the amounts of a facet's three half-edges
abbrev pub round : (Point → Point → ℤ) → Facet → ℤ
round amount t = amount t.a t.b +ℤ amount t.b t.c +ℤ amount t.c t.a

-- such an amount sums to 0 over the half-edges of a closed mesh
abbrev pub AmountsCancel : Type 0
AmountsCancel = (amount : Point → Point → ℤ) → IsOpposite amount → (facets : List Facet) → IsBalanced facets
    → total (round amount) facets ≡ pos 0

-- the windings of a closed mesh's facets, its signed crossings by a whole line, sum to 0 for each line along x or y
abbrev pub WindsCancel : Type 0
WindsCancel = (facets : List Facet) → IsBalanced facets → (y z : ℤ) → total (λ t. wind (twice t) y z) facets ≡ pos 0

abbrev pub WindsAlongYCancel : Type 0
WindsAlongYCancel = (facets : List Facet) → IsBalanced facets → (x z : ℤ) → total (λ t. wind_y (twice t) x z) facets ≡ pos 0

-- a ray's signed crossings are minus those of the rest of its line, which lies behind its start
abbrev pub RayFromTheLeft : Type 0
RayFromTheLeft = (facets : List Facet) → IsBalanced facets → (c : Point) → neg_ray_back facets c ≡ ray facets c

-- no ray crosses a degenerate facet, one with two equal corners
abbrev pub DegenerateFacetsAreMissed : Type 0
DegenerateFacetsAreMissed = (t : Facet) → is_kept t ≡ false → (c : Point) → (hit (twice t) c ≡ pos 0) × (hit_y (twice t) c ≡ pos 0)

-- the half-edges of a degenerate facet balance one another
abbrev pub DegenerateFacetsAreClosed : Type 0
DegenerateFacetsAreClosed = (t : Facet) → is_kept t ≡ false → IsBalanced (t ∷ [])

-- the edges of all facets can be numbered
abbrev pub EdgesHaveNumbers : Type 0
EdgesHaveNumbers = (facets : List Facet) → (numbers : List (List ℕ)) × (count : ℕ) × AreEdgeNumbers facets numbers count

-- a mesh without its degenerate facets has the same rays, and is closed exactly if the whole mesh is
abbrev pub KeptRaysAreAll : Type 0
KeptRaysAreAll = (facets : List Facet) (c : Point)
    → (ray (kept_facets facets) c ≡ ray facets c) × (ray_y (kept_facets facets) c ≡ ray_y facets c)

abbrev pub KeptAreClosed : Type 0
KeptAreClosed = (facets : List Facet) → IsBalanced (kept_facets facets) ↔ IsBalanced facets

-- the rays along x and along y agree at a centre that no facet of a closed mesh touches
abbrev pub RaysAgree : Type 0
RaysAgree = (facets : List Facet) → IsBalanced facets → (c : Point) → NoneTouches facets c → ray facets c ≡ ray_y facets c

-- centres that differ in x alone, or in y alone, have equal rays if no point of a closed mesh's facets is between them
abbrev pub StepsKeepRays : Type 0
StepsKeepRays = (facets : List Facet) → IsBalanced facets → (c d : Point) → c.z ≡ d.z → (c.x ≡ d.x) ⊎ (c.y ≡ d.y)
    → NoneBetween facets c d → ray facets c ≡ ray facets d
