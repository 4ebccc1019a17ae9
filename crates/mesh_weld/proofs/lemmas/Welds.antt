-- What welding ensures, from what its steps ensure.
use Rattle.std.specs.Prelude.{Err}
use Rattle.std.proofs.Common.{◌≡◌, ℕ, ◌≤◌, ◌+◌, ◌*◌, Bool, true, false, cond, not, List, [], ◌∷◌, length, map, count_by, refl, sym, ap, ◌∙◌, subst, arith}
use Rattle.std.specs.List.{flat_map}
use Rattle.std.proofs.lemmas.List.{length-map}
use Rattle.std.proofs.lemmas.List.Sums.{length-filter}
use Rattle.geometry.specs.Point.{Point}
use Rattle.geometry.specs.Facet.{Facet, corners}
use Rattle.mesh_weld.specs.Balance.{half_edge_count, IsBalanced, IsLeastOpen}
use Rattle.mesh_weld.specs.Solid.{is_kept, kept_facets, vertices, number_of, triples}
use Rattle.mesh_weld.specs.Welder.{Welder, degenerate_facets, welder_of}
use Rattle.mesh_weld.specs.HalfEdge.{half_edges_from}
use Rattle.mesh_weld.specs.Welding.{IsKeptFault, IsWeldFault, IsWeldOf}
use Rattle.mesh_weld.specs.declared.weld_fault.WeldFault.{WeldFault}
use Rattle.mesh_weld.specs.declared.weld_fault.WeldFault.TheVariants as fault
use Rattle.mesh_weld.proofs.lemmas.Degenerate.{half_edge_count-cons, dropped, own_count, same_with, same_without}
use Rattle.mesh_weld.proofs.lemmas.InOrder.{length-in_order}
use Rattle.mesh_weld.proofs.lemmas.Points.{length-corners}
use Rattle.mesh_weld.proofs.lemmas.HalfEdges.{half_edges_from-length}

pub few_vertices : (fs : List Facet) → length (vertices fs) ≤ 3 * length fs
few_vertices fs = omega (arith, length-in_order (flat_map corners fs), length-corners fs)

pub few_half_edges : (fs : List Facet) → length (half_edges_from 0 (triples fs)) ≡ 3 * length fs
few_half_edges fs = half_edges_from-length 0 (triples fs) ∙ ap (λ n. 3 * n) (length-map fs (λ t. map (number_of (vertices fs)) (corners t)))

-- the half-edges of kept facets and those of dropped ones are all half-edges
split_count : (fs : List Facet) (u v : Point) → half_edge_count fs u v ≡ half_edge_count (kept_facets fs) u v + half_edge_count (degenerate_facets fs) u v
split_count [] u v = refl
split_count (t ∷ ts) u v = by_test (is_kept t) refl (split_count ts u v)
  where
    to_left : (k l m n : ℕ) → k ≡ m + n → l + k ≡ l + m + n
    to_left k l m n e = omega arith

    to_right : (k l m n : ℕ) → k ≡ m + n → l + k ≡ m + (l + n)
    to_right k l m n e = omega arith

    by_test : (b : Bool) → is_kept t ≡ b → half_edge_count ts u v ≡ half_edge_count (kept_facets ts) u v + half_edge_count (degenerate_facets ts) u v
        → half_edge_count (t ∷ ts) u v ≡ half_edge_count (cond (is_kept t) (t ∷ kept_facets ts) (kept_facets ts)) u v + half_edge_count (cond (not (is_kept t)) (t ∷ degenerate_facets ts) (degenerate_facets ts)) u v
    by_test true h rest =
        half_edge_count-cons t ts u v
        ∙ to_left (half_edge_count ts u v) (own_count t u v) (half_edge_count (kept_facets ts) u v) (half_edge_count (degenerate_facets ts) u v) rest
        ∙ ap (λ n. n + half_edge_count (degenerate_facets ts) u v) (sym (half_edge_count-cons t (kept_facets ts) u v))
        ∙ ap (λ b. half_edge_count (cond b (t ∷ kept_facets ts) (kept_facets ts)) u v + half_edge_count (cond (not b) (t ∷ degenerate_facets ts) (degenerate_facets ts)) u v) (sym h)
    by_test false h rest =
        half_edge_count-cons t ts u v
        ∙ to_right (half_edge_count ts u v) (own_count t u v) (half_edge_count (kept_facets ts) u v) (half_edge_count (degenerate_facets ts) u v) rest
        ∙ ap (λ n. half_edge_count (kept_facets ts) u v + n) (sym (half_edge_count-cons t (degenerate_facets ts) u v))
        ∙ ap (λ b. half_edge_count (cond b (t ∷ kept_facets ts) (kept_facets ts)) u v + half_edge_count (cond (not b) (t ∷ degenerate_facets ts) (degenerate_facets ts)) u v) (sym h)

pub degenerate_count : (fs : List Facet) → length (degenerate_facets fs) ≡ count_by (λ t. not (is_kept t)) fs
degenerate_count fs = length-filter (λ t. not (is_kept t)) fs

-- the least open edge of kept facets is that of all, with the edges of dropped facets counted
open_of_all : (fs : List Facet) (from to : Point) (there back : ℕ)
    → IsLeastOpen (kept_facets fs) from to (half_edge_count (kept_facets fs) from to) (half_edge_count (kept_facets fs) to from)
    → there ≡ half_edge_count (kept_facets fs) from to + half_edge_count (degenerate_facets fs) from to
    → back ≡ half_edge_count (kept_facets fs) to from + half_edge_count (degenerate_facets fs) to from
    → IsLeastOpen fs from to there back
open_of_all fs from to there back h t b =
    record {
      in_order = h.in_order;
      there_is = at_there;
      back_is = at_back;
      differ = λ e. h.differ (same_without _ _ _ _ _ (dropped fs from to).there (dropped fs from to).back (sym at_there ∙ e ∙ at_back));
      least = λ e up apart. h.least e up (λ same. apart (same_with _ _ _ _ _ (dropped fs e.from e.to).there (dropped fs e.from e.to).back same));
    }
  where
    at_there : there ≡ half_edge_count fs from to
    at_there = t ∙ sym (split_count fs from to)

    at_back : back ≡ half_edge_count fs to from
    at_back = b ∙ sym (split_count fs to from)

pub kept_fault : (kept degenerate : List Facet) (a b : Point) (result : WeldFault) (p q : Point) → a ≡ p → b ≡ q
    → IsLeastOpen kept p q (half_edge_count kept p q) (half_edge_count kept q p)
    → result ≡ fault.Open a b (half_edge_count kept a b + half_edge_count degenerate a b) (half_edge_count kept b a + half_edge_count degenerate b a)
    → IsKeptFault kept degenerate result
kept_fault kept degenerate a b result p q at_a at_b h is =
    let first : IsLeastOpen kept a q (half_edge_count kept a q) (half_edge_count kept q a) = subst (λ r. IsLeastOpen kept r q (half_edge_count kept r q) (half_edge_count kept q r)) (sym at_a) h in
    let both : IsLeastOpen kept a b (half_edge_count kept a b) (half_edge_count kept b a) = subst (λ r. IsLeastOpen kept a r (half_edge_count kept a r) (half_edge_count kept r a)) (sym at_b) first in
    subst (IsKeptFault kept degenerate) (sym is) (both, refl, refl)

weld_fault : (fs kept degenerate : List Facet) (f : WeldFault) → kept ≡ kept_facets fs → degenerate ≡ degenerate_facets fs → IsKeptFault kept degenerate f → IsWeldFault fs f
weld_fault fs kept degenerate (fault.Open from to there back) k l h =
    let at_kept : IsKeptFault (kept_facets fs) degenerate (fault.Open from to there back) = subst (λ l. IsKeptFault l degenerate (fault.Open from to there back)) k h in
    let at_both : IsKeptFault (kept_facets fs) (degenerate_facets fs) (fault.Open from to there back) = subst (λ l. IsKeptFault (kept_facets fs) l (fault.Open from to there back)) l at_kept in
    open_of_all fs from to there back at_both.0 at_both.1 at_both.2
weld_fault fs kept degenerate fault.Memory k l h = tt

-- if the edges balance, the only fault is a failed allocation
only_memory : (fs : List Facet) (f : WeldFault) → IsWeldFault fs f → IsBalanced fs → f ≡ fault.Memory
only_memory fs (fault.Open from to there back) h balanced = absurd (h.differ (h.there_is ∙ balanced from to ∙ sym h.back_is))
only_memory fs fault.Memory h balanced = refl

-- the fault of kept facets, as that of all of which they are the kept ones
pub kept_weld_fault : (kept degenerate : List Facet) (f : WeldFault) → IsKeptFault kept degenerate f → IsWeldOf (record { kept = kept; degenerate = degenerate }) (Err f)
kept_weld_fault kept degenerate f h = record {
  kept = λ facets e. tt;
  closed = λ facets e. tt;
  ray = λ facets e. tt;
  «open» = λ facets e. own facets e;
  only = λ facets e balanced. only_memory facets f (own facets e) balanced;
}
  where
    own : (facets : List Facet) → (record { kept = kept; degenerate = degenerate }) ≡ welder_of facets → IsWeldFault facets f
    own facets e = weld_fault facets kept degenerate f (ap (λ (p : Welder). p.kept) e) (ap (λ (p : Welder). p.degenerate) e) h
