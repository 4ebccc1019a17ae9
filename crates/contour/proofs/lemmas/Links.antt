-- The edges of the segments of a height: their numbers are below the count, and what the solid's arrays hold of them.
use Rattle.std.proofs.Common.{◌≡◌, ℕ, ◌+◌, ◌*◌, ◌^◌, ◌<◌, ◌++◌, Bool, true, false, cond, eqb, List, [], ◌∷◌, sym, ◌∙◌, ap, subst, length, get_or, take, arith, map}
use Rattle.std.specs.Prelude.{All}
use Rattle.std.proofs.lemmas.List.{get_or-map, get_or_default, length-map, map_more}
use mir.Syntax.{w64}
use mir.Val.{Fits}
use Rattle.geometry.specs.Facet.{Facet, corners}
use Rattle.mesh_weld.specs.Solid.{number_of, triples, vertices}
use Rattle.mesh_weld.specs.EdgeNumbers.{AreEdgeNumbers}
use Rattle.plane_segments.specs.Node.{Node}
use Rattle.plane_segments.specs.declared.segment.Segment.{Segment}
use Rattle.plane_segments.specs.Segment.{no_segment}
use Rattle.contour.specs.Linker.{AreSegmentEdges, edge_at_node, edge_of_facet, end_sum, start_edge, finish_edge}

-- numbers of edges are below their count
module _ (facets : List Facet) (numbers : List (List ℕ)) (count : ℕ) (numbered : AreEdgeNumbers facets numbers count) where
  pub edge_below : (facet : ℕ) (node : Node) → facet < length facets → edge_of_facet facets numbers facet node < count
  edge_below facet node h =
      by_tests (eqb (end_sum node) (get_or own 0 0 + get_or own 1 0)) (eqb (end_sum node) (get_or own 1 0 + get_or own 2 0))
    where
      own : List ℕ
      own = get_or (triples facets) facet []

      by_tests : (b c : Bool) → cond b (get_or (get_or numbers facet []) 0 0) (cond c (get_or (get_or numbers facet []) 1 0) (get_or (get_or numbers facet []) 2 0)) < count
      by_tests true c = numbered.below facet 0 h (omega arith)
      by_tests false true = numbered.below facet 1 h (omega arith)
      by_tests false false = numbered.below facet 2 h (omega arith)

-- the edges of segments have numbers below the count
pub segment_edges-below : (facets : List Facet) (list : List Segment) (starts finishes : List ℕ) (n : ℕ) → AreSegmentEdges facets list starts finishes
    → ((numbers : List (List ℕ)) (count : ℕ) → AreEdgeNumbers facets numbers count → n ≡ count) → All (λ t. t.facet < length facets) list
    → All (λ e. e < n) starts × All (λ e. e < n) finishes
segment_edges-below facets list starts finishes n p counted inside = (
  below start_edge' (λ t h. edge_below facets p.numbers p.count p.numbered t.facet t.from h) starts p.starts_are,
  below finish_edge' (λ t h. edge_below facets p.numbers p.count p.numbered t.facet t.to h) finishes p.finishes_are,
)
  where
    start_edge' : Segment → ℕ
    start_edge' = start_edge facets p.numbers

    finish_edge' : Segment → ℕ
    finish_edge' = finish_edge facets p.numbers

    below : (edge : Segment → ℕ) → ((t : Segment) → t.facet < length facets → edge t < p.count) → (edges : List ℕ) → edges ≡ map edge list → All (λ e. e < n) edges
    below edge small edges are i d l =
        let m : i < length list = (let size = ap length are ∙ length-map list edge in omega (arith, l, size)) in
        let read : get_or edges i d ≡ edge (get_or list i no_segment) = ap (λ xs. get_or xs i d) are ∙ get_or-map edge list i no_segment d m in
        let less = small (get_or list i no_segment) (inside i no_segment m) in let same = counted p.numbers p.count p.numbered in
        omega (arith, read, less, same)

pub segment_edges-length : (facets : List Facet) (list : List Segment) (starts finishes : List ℕ) → AreSegmentEdges facets list starts finishes
    → (length starts ≡ length list) × (length finishes ≡ length list)
segment_edges-length facets list starts finishes p =
    (ap length p.starts_are ∙ length-map list (start_edge facets p.numbers), ap length p.finishes_are ∙ length-map list (finish_edge facets p.numbers))

-- ---- what the solid's arrays hold of the mesh
pub offset-fits : (i n : ℕ) → i < n → n * 12 < 2 ^ 63 → Fits w64 (i * 12)
offset-fits i n h k = record { fits = omega arith }

pub in-triples : (facets : List Facet) (points : List (List ℕ)) (f : ℕ) → points ≡ triples facets → f < length facets → f < length points
in-triples facets points f e h = subst (λ n. f < n) (sym (ap length e ∙ length-map facets (λ t. map (number_of (vertices facets)) (corners t)))) h

pub in-numbers : (facets : List Facet) (numbers : List (List ℕ)) (f : ℕ) → length numbers ≡ length facets → f < length facets → f < length numbers
in-numbers facets numbers f e h = subst (λ n. f < n) (sym e) h

pub in-facets : (facets : List Facet) (list : List Segment) (i : ℕ) (t : Segment) → All (λ s. s.facet < length facets) list → i < length list
    → t ≡ get_or list i t → t.facet < length facets
in-facets facets list i t within h is = subst (λ (s : Segment). s.facet < length facets) (sym is) (within i t h)

pub edge-read : (facets : List Facet) (points numbers : List (List ℕ)) (f : ℕ) (n : Node) (d d' : List ℕ) (e : ℕ) → points ≡ triples facets → f < length points → f < length numbers
    → e ≡ edge_at_node (get_or points f d) (get_or numbers f d') n → e ≡ edge_of_facet facets numbers f n
edge-read facets points numbers f n d d' e same l m h =
    h
    ∙ ap (λ x. edge_at_node x (get_or numbers f d') n) (get_or_default points f d [] l ∙ ap (λ cs. get_or cs f []) same)
    ∙ ap (λ x. edge_at_node (get_or (triples facets) f []) x n) (get_or_default numbers f d' [] m)

pub edges-more : (edge : Segment → ℕ) (old new : List ℕ) (list : List Segment) (i e : ℕ) (d : Segment) → i < length list → old ≡ map edge (take i list) → new ≡ old ++ e ∷ []
    → e ≡ edge (get_or list i d) → new ≡ map edge (take (i + 1) list)
edges-more edge old new list i e d l before pushed is =
    pushed ∙ ap (λ ks. ks ++ e ∷ []) before ∙ ap (λ x. map edge (take i list) ++ x ∷ []) is ∙ sym (map_more edge list i d l)
