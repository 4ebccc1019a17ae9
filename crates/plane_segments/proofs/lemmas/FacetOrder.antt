-- The segments of a height are in the order of their facets, which are of the mesh; so there are no more of them than
-- facets.
use Rattle.std.proofs.Common.{◌≡◌, ℕ, zero, suc, ◌+◌, ◌<◌, ◌≤◌, List, [], ◌∷◌, refl, sym, subst, length, get_or, arith, Some, None}
use Rattle.std.specs.Prelude.{Option, ℤ, filter_map, find, All}
use Rattle.std.specs.List.{enumerate_from, cons_option}
use Rattle.geometry.specs.Point.{Point}
use Rattle.geometry.specs.Facet.{Facet, Edge, half_edges}
use Rattle.mesh_weld.specs.Solid.{vertices}
use Rattle.plane_segments.specs.declared.segment.Segment.{Segment}
use Rattle.plane_segments.specs.Segment.{both_of, is_downward, is_upward, node_of, segment_of, segments}

-- a segment from a facet has its number
abbrev IsOf : ℕ → Option Segment → Type 0
IsOf n None = Unit {0}
IsOf n (Some s) = s.facet ≡ n

own_facet : (points : List Point) (z : ℤ) (n : ℕ) (t : Facet) → IsOf n (segment_of points z (n, t))
own_facet points z n t = by_edges (find (is_downward z) (half_edges t)) (find (is_upward z) (half_edges t))
  where
    by_edges : (d u : Option Edge) → IsOf n (both_of (λ (d u : Edge). record { facet = n; from = node_of points d; to = node_of points u }) d u)
    by_edges None u = tt
    by_edges (Some d) None = tt
    by_edges (Some d) (Some u) = refl

abbrev pub AreFrom : ℕ → ℕ → List Segment → Type 0
AreFrom a b [] = Unit {0}
AreFrom a b (s ∷ list) = (a ≤ s.facet) × (s.facet < b) × AreFrom (s.facet + 1) b list

AreFrom-lower : (a c b : ℕ) (list : List Segment) → a ≤ c → AreFrom c b list → AreFrom a b list
AreFrom-lower a c b [] h k = tt
AreFrom-lower a c b (s ∷ list) h k = let low : c ≤ s.facet = k.0 in (omega arith, k.1, k.2)

segments_from : (points : List Point) (z : ℤ) (a b : ℕ) (facets : List Facet) → a + length facets ≤ b
    → AreFrom a b (filter_map (segment_of points z) (enumerate_from a facets))
segments_from points z a b [] h = tt
segments_from points z a b (t ∷ ts) h =
    by_segment (segment_of points z (a, t)) (own_facet points z a t) (segments_from points z (a + 1) b ts (omega (arith, h)))
  where
    by_segment : (o : Option Segment) → IsOf a o → AreFrom (a + 1) b (filter_map (segment_of points z) (enumerate_from (a + 1) ts))
        → AreFrom a b (cons_option o (filter_map (segment_of points z) (enumerate_from (a + 1) ts)))
    by_segment None e rest = AreFrom-lower a (a + 1) b _ (omega arith) rest
    by_segment (Some s) e rest =
        (omega (arith, e), omega (arith, e, h), subst (λ n. AreFrom (n + 1) b (filter_map (segment_of points z) (enumerate_from (a + 1) ts))) (sym e) rest)

pub segments_ascend : (facets : List Facet) (z : ℤ) → AreFrom 0 (length facets) (segments facets z)
segments_ascend facets z = segments_from (vertices facets) z 0 (length facets) facets (omega arith)

from_below : (a b : ℕ) (list : List Segment) → AreFrom a b list → (k : ℕ) (d : Segment) → k < length list → (get_or list k d).facet < b
from_below a b [] h k d l = absurd (omega (arith, l))
from_below a b (s ∷ list) h zero d l = h.1
from_below a b (s ∷ list) h (suc k) d l = from_below (s.facet + 1) b list h.2 k d (omega (arith, l))

AreFrom-few : (a b : ℕ) (list : List Segment) → a ≤ b → AreFrom a b list → a + length list ≤ b
AreFrom-few a b [] l h = omega (arith, l)
AreFrom-few a b (s ∷ list) l h =
    let low : a ≤ s.facet = h.0 in let high : s.facet < b = h.1 in
    let rest : s.facet + 1 + length list ≤ b = AreFrom-few (s.facet + 1) b list (omega (arith, high)) h.2 in
    omega (arith, low, rest)

pub segments_below : (facets : List Facet) (list : List Segment) → (z : ℤ) × (list ≡ segments facets z) → All (λ t. t.facet < length facets) list
segments_below facets list e =
    from_below 0 (length facets) list (subst (AreFrom 0 (length facets)) (sym e.1) (segments_ascend facets e.0))

pub segments_few : (facets : List Facet) (list : List Segment) → (z : ℤ) × (list ≡ segments facets z) → length list ≤ length facets
segments_few facets list e =
    let few : 0 + length list ≤ length facets = AreFrom-few 0 (length facets) list (omega arith) (subst (AreFrom 0 (length facets)) (sym e.1) (segments_ascend facets e.0)) in
    omega (arith, few)
