-- In a closed mesh as many segments of a height start at an edge as end there.
use Rattle.std.proofs.Common.{◌≡◌, ℕ, zero, suc, ◌+◌, ◌<◌, ◌≤◌, min, max, Bool, true, false, cond, not, eqb, ◌&&◌, ◌||◌, List, [], ◌∷◌, ◌++◌, ◌⊎◌, inl, inr, refl, sym, ◌∙◌, ap, subst, length, get_or, arith, map, Some, None}
use Rattle.std.specs.Prelude.{Option, ℤ, filter_map, find, count_by, int_le, int_lt, ◌==◌}
use Rattle.std.specs.List.{enumerate_from, cons_option}
use Rattle.std.proofs.lemmas.Int.{ints}
use Rattle.std.proofs.lemmas.Bool.{cases_lt, eqb-true, eq-eqb, ne_eqb, or_cases, or_left, or_right, true≢false}
use Rattle.geometry.specs.Point.{Point, origin}
use Rattle.geometry.specs.Facet.{Facet, facet_with, Edge, edge, edges, half_edges}
use Rattle.mesh_weld.specs.Balance.{IsBalanced, half_edge_count}
use Rattle.mesh_weld.specs.Solid.{vertices, number_of, facet_at}
use Rattle.mesh_weld.specs.EdgeNumbers.{AreEdgeNumbers, HaveSameEnds, edge_of, edge_number}
use Rattle.mesh_weld.proofs.lemmas.InOrder.{both_ways, is_in}
use Rattle.mesh_weld.proofs.lemmas.Edges.{count_by-cons, runs, runs-is}
use Rattle.mesh_weld.proofs.lemmas.HalfEdges.{either_order}
use Rattle.mesh_weld.proofs.lemmas.Sums.{runs-own}
use Rattle.plane_segments.specs.Node.{Node, between, is_node}
use Rattle.plane_segments.specs.declared.segment.Segment.{Segment}
use Rattle.plane_segments.specs.Segment.{both_of, height, is_downward, is_upward, node_of, segment_of, segments}
use Rattle.geometry.specs.TieRule.{rises_through}
use Rattle.plane_segments.proofs.lemmas.Cutting.{triples_at}
use Rattle.plane_segments.proofs.lemmas.NodeOrder.{ends_in, same_number}
use Rattle.plane_segments.proofs.lemmas.Nodes.{node-is, own_node}
use Rattle.plane_segments.proofs.lemmas.FacetOrder.{AreFrom, segments_ascend}
use Rattle.contour.specs.Linker.{edge_at_node, edge_of_facet, end_sum, start_edge, finish_edge, AreSegmentEdges}
use Rattle.contour.proofs.lemmas.Counts.{AreEven, count-append}
use Rattle.contour.proofs.lemmas.Links.{edge_below}
use Rattle.contour.proofs.lemmas.Counts.{times}

turned : (m n : ℕ) → between m n ≡ between n m
turned m n = let a : min m n ≡ min n m = grind arith in let b : max m n ≡ max n m = grind arith in λ i. record { low = a i; high = b i }

end_sum-is : (m n : ℕ) → end_sum (between m n) ≡ m + n
end_sum-is m n = grind arith

-- two nodes with an end in common are equal if the sums of their ends are
same_node : (a b c d : ℕ) → end_sum (between c d) ≡ a + b → (b ≡ c) ⊎ (a ≡ d) → between a b ≡ between c d
same_node a b c d h w = let sum = end_sum-is c d in let e : (b ≡ c) × (a ≡ d) = omega (arith, sum, h, w) in rw (e.0, e.1) (turned d c)

module _ (facets : List Facet) where
  abbrev pub at : ℕ → ℕ → Edge
  at n k = edge_of facets n k

  abbrev pub node_at : ℕ → ℕ → Node
  node_at n k = node_of (vertices facets) (at n k)

  pub same_ends : (n k m j : ℕ) → n < length facets → k < 3 → m < length facets → j < 3 → is_node (node_at n k) (node_at m j) ≡ true
      → HaveSameEnds (at n k) (at m j)
  same_ends n k m j l l' r r' h =
      let same = node-is (node_at n k) (node_at m j) h in
      by_ends (at n k) (at m j) (ends_in facets n k l l') (ends_in facets m j r r') (ap (λ n. n.low) same, ap (λ n. n.high) same)
    where
      by_ends : (d e : Edge) → (is_in d.from (vertices facets) ≡ true) × (is_in d.to (vertices facets) ≡ true)
          → (is_in e.from (vertices facets) ≡ true) × (is_in e.to (vertices facets) ≡ true)
          → ((node_of (vertices facets) d).low ≡ (node_of (vertices facets) e).low) × ((node_of (vertices facets) d).high ≡ (node_of (vertices facets) e).high)
          → HaveSameEnds d e
      by_ends d e a b h =
          by_numbers (either_order (number_of (vertices facets) d.from) (number_of (vertices facets) d.to) (number_of (vertices facets) e.from) (number_of (vertices facets) e.to) h)
        where
          by_numbers : ((number_of (vertices facets) d.from ≡ number_of (vertices facets) e.from) × (number_of (vertices facets) d.to ≡ number_of (vertices facets) e.to))
              ⊎ ((number_of (vertices facets) d.from ≡ number_of (vertices facets) e.to) × (number_of (vertices facets) d.to ≡ number_of (vertices facets) e.from))
              → HaveSameEnds d e
          by_numbers (inl n) = inl (same_number facets d.from e.from a.0 b.0 n.0, same_number facets d.to e.to a.1 b.1 n.1)
          by_numbers (inr n) = inr (same_number facets d.from e.to a.0 b.1 n.0, same_number facets d.to e.from a.1 b.0 n.1)

  pub same_nodes : (d e : Edge) → HaveSameEnds d e → node_of (vertices facets) d ≡ node_of (vertices facets) e
  same_nodes d e (inl h) = λ i. node_of (vertices facets) (edge (h.0 i) (h.1 i))
  same_nodes d e (inr h) =
      (λ i. node_of (vertices facets) (edge (h.0 i) (h.1 i))) ∙ turned (number_of (vertices facets) e.to) (number_of (vertices facets) e.from)

  module _ (numbers : List (List ℕ)) (count : ℕ) (numbered : AreEdgeNumbers facets numbers count) where
    pub own_edge : (n k : ℕ) → n < length facets → k < 3 → edge_of_facet facets numbers n (node_at n k) ≡ edge_number numbers n k
    own_edge n k l m =
        ap (λ ns. edge_at_node ns (get_or numbers n []) (node_at n k)) (triples_at facets n l)
        ∙ by_tests k m (eqb (end_sum (node_at n k)) (number 0 + number 1)) (eqb (end_sum (node_at n k)) (number 1 + number 2)) refl refl
      where
        number : ℕ → ℕ
        number k = number_of (vertices facets) (at n k).from

        same : (j k : ℕ) → j < 3 → k < 3 → node_at n j ≡ node_at n k → edge_number numbers n j ≡ edge_number numbers n k
        same j k h m e = (numbered.shared n j n k l h l m).1 (same_ends n j n k l h l m (own_node (node_at n j) (node_at n k) e))

        by_tests : (k : ℕ) → k < 3 → (b c : Bool) → eqb (end_sum (node_at n k)) (number 0 + number 1) ≡ b → eqb (end_sum (node_at n k)) (number 1 + number 2) ≡ c
            → cond b (get_or (get_or numbers n []) 0 0) (cond c (get_or (get_or numbers n []) 1 0) (get_or (get_or numbers n []) 2 0)) ≡ get_or (get_or numbers n []) k 0
        by_tests zero m true c p q = refl
        by_tests zero m false c p q = absurd (true≢false (sym (eq-eqb _ _ (end_sum-is (number 0) (number 1))) ∙ p))
        by_tests (suc zero) m true c p q = same 0 1 (omega arith) m (same_node (number 0) (number 1) (number 1) (number 2) (eqb-true _ _ p) (inl refl))
        by_tests (suc zero) m false true p q = refl
        by_tests (suc zero) m false false p q = absurd (true≢false (sym (eq-eqb _ _ (end_sum-is (number 1) (number 2))) ∙ q))
        by_tests (suc (suc zero)) m true c p q = same 0 2 (omega arith) m (same_node (number 0) (number 1) (number 2) (number 0) (eqb-true _ _ p) (inr refl))
        by_tests (suc (suc zero)) m false true p q = same 1 2 (omega arith) m (same_node (number 1) (number 2) (number 2) (number 0) (eqb-true _ _ q) (inl refl))
        by_tests (suc (suc zero)) m false false p q = refl
        by_tests (suc (suc (suc k))) m b c p q = absurd (omega (arith, m))

-- ---- a facet has one edge down and one up, or neither
abbrev pub low_at : ℤ → Point → Bool
low_at z p = int_le (height p) z

above_is : (h z : ℤ) → int_lt z h ≡ not (int_le h z)
above_is h z = grind (arith, ints)

pub rises-is : (z : ℤ) (u v : Point) → rises_through (height u) (height v) z ≡ (low_at z u && not (low_at z v))
rises-is z u v = ap (λ b. low_at z u && b) (above_is (height v) z)

abbrev picks : Option Edge → Option Edge → (Edge → Bool) → ℕ
picks None u P = 0
picks (Some d) None P = 0
picks (Some d) (Some u) P = cond (P d) 1 0

abbrev pub first_of : (a b c : Bool) (t : Facet) → Option Edge
first_of a b c t = cond a (Some (edge t.a t.b)) (cond b (Some (edge t.b t.c)) (cond c (Some (edge t.c t.a)) None))

abbrev sum_of : (a b c : Bool) (t : Facet) (P : Edge → Bool) → ℕ
sum_of a b c t P = cond (a && P (edge t.a t.b)) 1 0 + (cond (b && P (edge t.b t.c)) 1 0 + (cond (c && P (edge t.c t.a)) 1 0 + 0))

picked : (a b c : Bool) (t : Facet) (P : Edge → Bool)
    → picks (first_of (b && not a) (c && not b) (a && not c) t) (first_of (a && not b) (b && not c) (c && not a) t) P
    ≡ sum_of (b && not a) (c && not b) (a && not c) t P
picked true true true t P = refl
picked true true false t P = omega arith
picked true false true t P = omega arith
picked true false false t P = omega arith
picked false true true t P = omega arith
picked false true false t P = omega arith
picked false false true t P = omega arith
picked false false false t P = refl

counted_sides : (q P : Edge → Bool) (t : Facet) → count_by (λ e. q e && P e) (half_edges t) ≡ sum_of (q (edge t.a t.b)) (q (edge t.b t.c)) (q (edge t.c t.a)) t P
counted_sides q P t =
    count_by-cons (λ e. q e && P e) (edge t.a t.b) (edge t.b t.c ∷ edge t.c t.a ∷ [])
    ∙ ap (λ n. cond (q (edge t.a t.b) && P (edge t.a t.b)) 1 0 + n)
    (count_by-cons (λ e. q e && P e) (edge t.b t.c) (edge t.c t.a ∷ [])
    ∙ ap (λ n. cond (q (edge t.b t.c) && P (edge t.b t.c)) 1 0 + n) (count_by-cons (λ e. q e && P e) (edge t.c t.a) []))

downs : (z : ℤ) (t : Facet) (P : Edge → Bool)
    → picks (find (is_downward z) (half_edges t)) (find (is_upward z) (half_edges t)) P ≡ count_by (λ e. is_downward z e && P e) (half_edges t)
downs z t P =
    (λ i. picks (first_of (rises-is z t.b t.a i) (rises-is z t.c t.b i) (rises-is z t.a t.c i) t)
    (first_of (rises-is z t.a t.b i) (rises-is z t.b t.c i) (rises-is z t.c t.a i) t) P)
    ∙ picked (low_at z t.a) (low_at z t.b) (low_at z t.c) t P
    ∙ (λ i. sum_of (sym (rises-is z t.b t.a) i) (sym (rises-is z t.c t.b) i) (sym (rises-is z t.a t.c) i) t P)
    ∙ sym (counted_sides (is_downward z) P t)

picked' : (a b c : Bool) (t : Facet) (P : Edge → Bool)
    → picks (first_of (a && not b) (b && not c) (c && not a) t) (first_of (b && not a) (c && not b) (a && not c) t) P
    ≡ sum_of (a && not b) (b && not c) (c && not a) t P
picked' true true true t P = refl
picked' true true false t P = omega arith
picked' true false true t P = omega arith
picked' true false false t P = omega arith
picked' false true true t P = omega arith
picked' false true false t P = omega arith
picked' false false true t P = omega arith
picked' false false false t P = refl

ups : (z : ℤ) (t : Facet) (P : Edge → Bool)
    → picks (find (is_upward z) (half_edges t)) (find (is_downward z) (half_edges t)) P ≡ count_by (λ e. is_upward z e && P e) (half_edges t)
ups z t P =
    (λ i. picks (first_of (rises-is z t.a t.b i) (rises-is z t.b t.c i) (rises-is z t.c t.a i) t)
    (first_of (rises-is z t.b t.a i) (rises-is z t.c t.b i) (rises-is z t.a t.c i) t) P)
    ∙ picked' (low_at z t.a) (low_at z t.b) (low_at z t.c) t P
    ∙ (λ i. sum_of (sym (rises-is z t.a t.b) i) (sym (rises-is z t.b t.c) i) (sym (rises-is z t.c t.a) i) t P)
    ∙ sym (counted_sides (is_upward z) P t)

-- ---- of an edge from p to q or back
either_way : (dc there back r s : Bool) → (r ≡ true → dc ≡ there) → (s ≡ true → dc ≡ back) → (there ≡ true → back ≡ true → ⊥)
    → cond (dc && (r || s)) 1 0 ≡ cond there (cond r 1 0) 0 + cond back (cond s 1 0) 0
either_way dc there back r s h k l = grind arith

runs-ends : (c : Edge) (d : Edge) → HaveSameEnds c d → (runs d.from d.to c || runs d.to d.from c) ≡ true
runs-ends c d (inl h) = or_left _ _ (runs-own c d.from d.to h.0 h.1)
runs-ends c d (inr h) = or_right (runs d.from d.to c) (runs d.to d.from c) (runs-own c d.to d.from h.0 h.1)

ends-run : (c : Edge) (d : Edge) → (runs d.from d.to c || runs d.to d.from c) ≡ true → HaveSameEnds c d
ends-run c d h = by_way (or_cases (runs d.from d.to c) (runs d.to d.from c) h)
  where
    by_way : (runs d.from d.to c ≡ true) ⊎ (runs d.to d.from c ≡ true) → HaveSameEnds c d
    by_way (inl h) = let e = runs-is d.from d.to c h in inl (ap (λ (x : Edge). x.from) e, ap (λ (x : Edge). x.to) e)
    by_way (inr h) = let e = runs-is d.to d.from c h in inr (ap (λ (x : Edge). x.from) e, ap (λ (x : Edge). x.to) e)

-- The edges of a direction that have the ends of d. If d has the direction, their number is that of the edges along d. If the
-- edge back has it, their number is that of the edges back.
module _ (q : Edge → Bool) (d : Edge) (one_way : q d ≡ true → q (edge d.to d.from) ≡ true → ⊥) where
  abbrev ahead : List Edge → ℕ
  ahead es = cond (q d) (count_by (runs d.from d.to) es) 0 + cond (q (edge d.to d.from)) (count_by (runs d.to d.from) es) 0

  one : (c : Edge) (P : Bool) → P ≡ (runs d.from d.to c || runs d.to d.from c)
      → cond (q c && P) 1 0 ≡ cond (q d) (cond (runs d.from d.to c) 1 0) 0 + cond (q (edge d.to d.from)) (cond (runs d.to d.from c) 1 0) 0
  one c P h =
      ap (λ b. cond (q c && b) 1 0) h
      ∙ either_way (q c) (q d) (q (edge d.to d.from)) (runs d.from d.to c) (runs d.to d.from c) (λ r. ap q (runs-is d.from d.to c r))
      (λ r. ap q (runs-is d.to d.from c r)) one_way

  sums : (there back : Bool) (x m y n : ℕ) → (cond there x 0 + cond back y 0) + (cond there m 0 + cond back n 0) ≡ cond there (x + m) 0 + cond back (y + n) 0
  sums true true x m y n = omega arith
  sums true false x m y n = omega arith
  sums false true x m y n = omega arith
  sums false false x m y n = refl

  pub ahead-none : 0 ≡ ahead []
  ahead-none = nothing (q d) (q (edge d.to d.from))
    where
      nothing : (there back : Bool) → 0 ≡ cond there 0 0 + cond back 0 0
      nothing true true = refl
      nothing true false = refl
      nothing false true = refl
      nothing false false = refl

  ahead-cons : (c : Edge) (es : List Edge)
      → (cond (q d) (cond (runs d.from d.to c) 1 0) 0 + cond (q (edge d.to d.from)) (cond (runs d.to d.from c) 1 0) 0) + ahead es ≡ ahead (c ∷ es)
  ahead-cons c es =
      sums (q d) (q (edge d.to d.from)) _ _ _ _
      ∙ (λ i. cond (q d) (sym (count_by-cons (runs d.from d.to) c es) i) 0 + cond (q (edge d.to d.from)) (sym (count_by-cons (runs d.to d.from) c es) i) 0)

  -- over a list
  pub those_ahead : (P : Edge → Bool) (es : List Edge) → ((k : ℕ) → k < length es → P (get_or es k (edge origin origin)) ≡ (runs d.from d.to (get_or es k (edge origin origin)) || runs d.to d.from (get_or es k (edge origin origin))))
      → count_by (λ c. q c && P c) es ≡ ahead es
  those_ahead P [] h = ahead-none
  those_ahead P (c ∷ es) h =
      count_by-cons (λ c. q c && P c) c es
      ∙ (λ i. one c (P c) (h 0 (omega arith)) i + those_ahead P es (λ k l. h (suc k) (omega (arith, l))) i)
      ∙ ahead-cons c es

  pub ahead-append : (es more : List Edge) → ahead es + ahead more ≡ ahead (es ++ more)
  ahead-append es more =
      sums (q d) (q (edge d.to d.from)) _ _ _ _
      ∙ (λ i. cond (q d) (sym (count-append (runs d.from d.to) es more) i) 0 + cond (q (edge d.to d.from)) (sym (count-append (runs d.to d.from) es more) i) 0)

-- ---- over the facets
abbrev seg_pick : (Segment → Bool) → Option Segment → ℕ
seg_pick test None = 0
seg_pick test (Some s) = cond (test s) 1 0

-- facets from the n-th on
module _ (facets : List Facet) where
  abbrev pub Agree : ℕ → List Facet → Type 0
  Agree n ts = (k : ℕ) → k < length ts → (n + k < length facets) × (facet_at facets (n + k) ≡ get_or ts k (facet_with origin origin origin))

  pub Agree-head : (n : ℕ) (t : Facet) (ts : List Facet) → Agree n (t ∷ ts) → (n < length facets) × (facet_at facets n ≡ t)
  Agree-head n t ts h = let same : n + 0 ≡ n = omega arith in subst (λ m. (m < length facets) × (facet_at facets m ≡ t)) same (h 0 (omega arith))

  pub Agree-more : (n : ℕ) (t : Facet) (ts : List Facet) → Agree n (t ∷ ts) → Agree (n + 1) ts
  Agree-more n t ts h k l =
      let up : n + suc k ≡ (n + 1) + k = omega arith in
      subst (λ m. (m < length facets) × (facet_at facets m ≡ get_or ts k (facet_with origin origin origin))) up (h (suc k) (omega (arith, l)))

  pub Agree-whole : Agree 0 facets
  Agree-whole k l = let same : 0 + k ≡ k = omega arith in (omega (arith, l), ap (facet_at facets) same)

pub never_both : (z : ℤ) (u v : Point) → rises_through (height u) (height v) z ≡ true → rises_through (height v) (height u) z ≡ true → ⊥
never_both z u v h k = grind (arith, ints)

module _ (facets : List Facet) (numbers : List (List ℕ)) (count : ℕ) (numbered : AreEdgeNumbers facets numbers count) (z : ℤ) where
  module _ (e : ℕ) (f s : ℕ) (l : f < length facets) (m : s < 3) (is : edge_number numbers f s ≡ e) where
    abbrev d : Edge
    d = edge_of facets f s

    same_edge : (n k : ℕ) → n < length facets → k < 3
        → eqb (edge_of_facet facets numbers n (node_at facets n k)) e ≡ (runs d.from d.to (edge_of facets n k) || runs d.to d.from (edge_of facets n k))
    same_edge n k h j =
        both_ways _ _
        (λ t. runs-ends (edge_of facets n k) d ((numbered.shared n k f s h j l m).0 (sym (own_edge facets numbers count numbered n k h j) ∙ eqb-true _ e t ∙ sym is)))
        (λ r. eq-eqb _ e (own_edge facets numbers count numbered n k h j ∙ (numbered.shared n k f s h j l m).1 (ends-run (edge_of facets n k) d r) ∙ is))

    same_side : (n : ℕ) (t : Facet) → n < length facets → facet_at facets n ≡ t → (k : ℕ) → k < 3
        → eqb (edge_of_facet facets numbers n (node_of (vertices facets) (get_or (half_edges t) k (edge origin origin)))) e
        ≡ (runs d.from d.to (get_or (half_edges t) k (edge origin origin)) || runs d.to d.from (get_or (half_edges t) k (edge origin origin)))
    same_side n t h a k j =
        subst (λ (u : Facet). eqb (edge_of_facet facets numbers n (node_of (vertices facets) (get_or (half_edges u) k (edge origin origin)))) e
        ≡ (runs d.from d.to (get_or (half_edges u) k (edge origin origin)) || runs d.to d.from (get_or (half_edges u) k (edge origin origin)))) a (same_edge n k h j)

    over_facets : (q : Edge → Bool) (w : q d ≡ true → q (edge d.to d.from) ≡ true → ⊥) (test : Segment → Bool)
        → ((n : ℕ) (t : Facet) → n < length facets → facet_at facets n ≡ t → seg_pick test (segment_of (vertices facets) z (n, t)) ≡ ahead q d w (half_edges t))
        → (n : ℕ) (ts : List Facet) → Agree facets n ts
        → count_by test (filter_map (segment_of (vertices facets) z) (enumerate_from n ts)) ≡ ahead q d w (edges ts)
    over_facets q w test each n [] h = ahead-none q d w
    over_facets q w test each n (t ∷ ts) h =
        pick_one (segment_of (vertices facets) z (n, t)) (filter_map (segment_of (vertices facets) z) (enumerate_from (n + 1) ts))
        ∙ (λ i. each n t here.0 here.1 i + over_facets q w test each (n + 1) ts (Agree-more facets n t ts h) i)
        ∙ ahead-append q d w (half_edges t) (edges ts)
      where
        pick_one : (o : Option Segment) (rest : List Segment) → count_by test (cons_option o rest) ≡ seg_pick test o + count_by test rest
        pick_one None rest = omega arith
        pick_one (Some x) rest = count_by-cons test x rest

        here : (n < length facets) × (facet_at facets n ≡ t)
        here = Agree-head facets n t ts h

    starts_count : count_by (λ x. start_edge facets numbers x == e) (segments facets z) ≡ ahead (is_downward z) d (never_both z d.to d.from) (edges facets)
    starts_count =
        over_facets (is_downward z) (never_both z d.to d.from) (λ x. start_edge facets numbers x == e) each 0 facets (Agree-whole facets)
      where
        by_edges : (n : ℕ) (a b : Option Edge)
            → seg_pick (λ x. start_edge facets numbers x == e) (both_of (λ (d u : Edge). record { facet = n; from = node_of (vertices facets) d; to = node_of (vertices facets) u }) a b)
            ≡ picks a b (λ c. eqb (edge_of_facet facets numbers n (node_of (vertices facets) c)) e)
        by_edges n None b = refl
        by_edges n (Some a) None = refl
        by_edges n (Some a) (Some b) = refl

        each : (n : ℕ) (t : Facet) → n < length facets → facet_at facets n ≡ t
            → seg_pick (λ x. start_edge facets numbers x == e) (segment_of (vertices facets) z (n, t)) ≡ ahead (is_downward z) d (never_both z d.to d.from) (half_edges t)
        each n t h a =
            by_edges n (find (is_downward z) (half_edges t)) (find (is_upward z) (half_edges t))
            ∙ downs z t (λ c. eqb (edge_of_facet facets numbers n (node_of (vertices facets) c)) e)
            ∙ those_ahead (is_downward z) d (never_both z d.to d.from) (λ c. eqb (edge_of_facet facets numbers n (node_of (vertices facets) c)) e) (half_edges t)
            (λ k j. same_side n t h a k j)

    finishes_count : count_by (λ x. finish_edge facets numbers x == e) (segments facets z) ≡ ahead (is_upward z) d (never_both z d.from d.to) (edges facets)
    finishes_count =
        over_facets (is_upward z) (never_both z d.from d.to) (λ x. finish_edge facets numbers x == e) each 0 facets (Agree-whole facets)
      where
        by_edges : (n : ℕ) (a b : Option Edge)
            → seg_pick (λ x. finish_edge facets numbers x == e) (both_of (λ (d u : Edge). record { facet = n; from = node_of (vertices facets) d; to = node_of (vertices facets) u }) a b)
            ≡ picks b a (λ c. eqb (edge_of_facet facets numbers n (node_of (vertices facets) c)) e)
        by_edges n None None = refl
        by_edges n None (Some b) = refl
        by_edges n (Some a) None = refl
        by_edges n (Some a) (Some b) = refl

        each : (n : ℕ) (t : Facet) → n < length facets → facet_at facets n ≡ t
            → seg_pick (λ x. finish_edge facets numbers x == e) (segment_of (vertices facets) z (n, t)) ≡ ahead (is_upward z) d (never_both z d.from d.to) (half_edges t)
        each n t h a =
            by_edges n (find (is_downward z) (half_edges t)) (find (is_upward z) (half_edges t))
            ∙ ups z t (λ c. eqb (edge_of_facet facets numbers n (node_of (vertices facets) c)) e)
            ∙ those_ahead (is_upward z) d (never_both z d.from d.to) (λ c. eqb (edge_of_facet facets numbers n (node_of (vertices facets) c)) e) (half_edges t)
            (λ k j. same_side n t h a k j)

    pub even_at : IsBalanced facets → count_by (λ x. start_edge facets numbers x == e) (segments facets z) ≡ count_by (λ x. finish_edge facets numbers x == e) (segments facets z)
    even_at balanced =
        starts_count
        ∙ (λ i. cond (is_downward z d) (balanced d.from d.to i) 0 + cond (is_upward z d) (balanced d.to d.from i) 0)
        ∙ swapped (cond (is_downward z d) (half_edge_count facets d.to d.from) 0) (cond (is_upward z d) (half_edge_count facets d.from d.to) 0)
        ∙ sym finishes_count
      where
        swapped : (a b : ℕ) → a + b ≡ b + a
        swapped a b = omega arith

  count-map : (g : Segment → ℕ) (e : ℕ) (list : List Segment) → times e (map g list) ≡ count_by (λ x. g x == e) list
  count-map g e [] = refl
  count-map g e (x ∷ list) =
      count_by-cons (λ n. n == e) (g x) (map g list) ∙ ap (λ n. cond (g x == e) 1 0 + n) (count-map g e list) ∙ sym (count_by-cons (λ x. g x == e) x list)

  none_past : (g : Segment → ℕ) → ((x : Segment) → x.facet < length facets → g x < count) → (e : ℕ) → count ≤ e
      → (a : ℕ) (list : List Segment) → AreFrom a (length facets) list → count_by (λ x. g x == e) list ≡ 0
  none_past g low e past a [] h = refl
  none_past g low e past a (x ∷ list) h =
      count_by-cons (λ x. g x == e) x list
      ∙ (let small : g x < count = low x h.1 in
      let other : eqb (g x) e ≡ false = ne_eqb (g x) e (λ q. omega (arith, q, small, past)) in
      λ i. cond (other i) 1 0 + none_past g low e past (x.facet + 1) list h.2 i)

  pub even : IsBalanced facets → AreEven (map (start_edge facets numbers) (segments facets z)) (map (finish_edge facets numbers) (segments facets z))
  even balanced e =
      count-map (start_edge facets numbers) e (segments facets z) ∙ by_use (cases_lt e count) ∙ sym (count-map (finish_edge facets numbers) e (segments facets z))
    where
      by_use : (e < count) ⊎ (count ≤ e)
          → count_by (λ x. start_edge facets numbers x == e) (segments facets z) ≡ count_by (λ x. finish_edge facets numbers x == e) (segments facets z)
      by_use (inl h) = let u = numbered.used e h in even_at e u.0 u.1 u.2 u.3 u.4 balanced
      by_use (inr h) =
          none_past (start_edge facets numbers) (λ x l. edge_below facets numbers count numbered x.facet x.from l) e h 0 (segments facets z) (segments_ascend facets z)
          ∙ sym (none_past (finish_edge facets numbers) (λ x l. edge_below facets numbers count numbered x.facet x.to l) e h 0 (segments facets z) (segments_ascend facets z))

pub segment_edges-even : (facets : List Facet) (list : List Segment) (starts finishes : List ℕ) → (z : ℤ) × (list ≡ segments facets z)
    → AreSegmentEdges facets list starts finishes → IsBalanced facets → AreEven starts finishes
segment_edges-even facets list starts finishes e p balanced n =
    ap (times n) (p.starts_are ∙ ap (map (start_edge facets p.numbers)) e.1)
    ∙ even facets p.numbers p.count p.numbered e.0 balanced n
    ∙ sym (ap (times n) (p.finishes_are ∙ ap (map (finish_edge facets p.numbers)) e.1))
