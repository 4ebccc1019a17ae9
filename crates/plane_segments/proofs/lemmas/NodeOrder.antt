-- The nodes of a segment are ordered: the corners of a kept facet have three distinct numbers.
use Rattle.std.proofs.Common.{◌≡◌, ◌≢◌, ℕ, ◌+◌, ◌*◌, ◌<◌, min, max, true, List, [], ◌∷◌, ◌++◌, ◌∙◌, ap, sym, subst, length, get_or, arith, map, Some}
use Rattle.std.proofs.lemmas.List.Elements.{All-append, All-cons, All-nil}
use Rattle.std.specs.Prelude.{All, slice_get}
use Rattle.geometry.specs.Point.{Point, origin}
use Rattle.geometry.specs.Facet.{Facet, Edge, corners, edge}
use Rattle.mesh_weld.specs.Solid.{number_of, triples, vertices}
use Rattle.mesh_weld.specs.EdgeNumbers.{edge_of}
use Rattle.mesh_weld.proofs.lemmas.EdgeNumbering.{edge-at}
use Rattle.mesh_weld.proofs.lemmas.InOrder.{is_in}
use Rattle.mesh_weld.proofs.lemmas.Transfer.{number_found, ends_are_vertices}
use Rattle.plane_segments.specs.declared.segment.Segment.{Segment}
use Rattle.plane_segments.specs.Segment.{AreThreeNumbers, HasOrderedNodes, node_of}
use Rattle.plane_segments.proofs.lemmas.Cutting.{facet_at-is, triples_at}

between-ordered : (m n : ℕ) → (m ≡ n → ⊥) → min m n < max m n
between-ordered m n h = grind arith

module _ (facets : List Facet) where
  -- two points that are vertices
  abbrev pub Within : Point → Point → Type 0
  Within p q = (is_in p (vertices facets) ≡ true) × (is_in q (vertices facets) ≡ true)

  pub ends_in : (n k : ℕ) → n < length facets → k < 3 → Within (edge_of facets n k).from (edge_of facets n k).to
  ends_in n k l m =
      let p = edge-at facets n k l m in
      subst (λ (e : Edge). Within e.from e.to) p.1 (ends_are_vertices facets (3 * n + k) (edge origin origin) p.0)

  pub same_number : (p q : Point) → is_in p (vertices facets) ≡ true → is_in q (vertices facets) ≡ true
      → number_of (vertices facets) p ≡ number_of (vertices facets) q → p ≡ q
  same_number p q k l e = sym (number_found p (vertices facets) k).1 ∙ ap (λ n. get_or (vertices facets) n origin) e ∙ (number_found q (vertices facets) l).1

  pub node_of-ordered : (e : Edge) → e.from ≢ e.to → Within e.from e.to
      → (node_of (vertices facets) e).low < (node_of (vertices facets) e).high
  node_of-ordered e apart there =
      between-ordered (number_of (vertices facets) e.from) (number_of (vertices facets) e.to)
      (λ h. apart (same_number e.from e.to there.0 there.1 h))

  -- a facet with distinct corners has three distinct numbers
  pub three_numbers : (n : ℕ) (t : Facet) (numbers : List ℕ) → n < length facets → slice_get facets n ≡ Some t
      → numbers ≡ get_or (triples facets) n [] → (t.a ≢ t.b) × (t.b ≢ t.c) × (t.c ≢ t.a) → AreThreeNumbers numbers
  three_numbers n t numbers l is numbered distinct =
      let same = facet_at-is facets n t is in
      let own : numbers ≡ map (number_of (vertices facets)) (corners t) =
      numbered ∙ triples_at facets n l ∙ ap (λ u. map (number_of (vertices facets)) (corners u)) same in
      let ab : Within t.a t.b = subst (λ (u : Facet). Within u.a u.b) same (ends_in n 0 l (omega arith)) in
      let bc : Within t.b t.c = subst (λ (u : Facet). Within u.b u.c) same (ends_in n 1 l (omega arith)) in
      let ca : Within t.c t.a = subst (λ (u : Facet). Within u.c u.a) same (ends_in n 2 l (omega arith)) in
      subst AreThreeNumbers (sym own) (
        λ h. distinct.0 (same_number t.a t.b ab.0 ab.1 h),
        λ h. distinct.1 (same_number t.b t.c bc.0 bc.1 h),
        λ h. distinct.2 (same_number t.c t.a ca.0 ca.1 h),
      )

-- one more segment
pub ordered-more : (segments : List Segment) (s : Segment) → All HasOrderedNodes segments → HasOrderedNodes s → All HasOrderedNodes (segments ++ s ∷ [])
ordered-more segments s h own = All-append HasOrderedNodes segments (s ∷ []) h (All-cons HasOrderedNodes s [] own (All-nil HasOrderedNodes))
