-- Each segment of a height runs from an edge of its facet that leads down to one that leads up.
use Rattle.std.proofs.Common.{◌≡◌, ℕ, ◌+◌, ◌<◌, Bool, true, false, cond, List, [], ◌∷◌, refl, sym, ◌∙◌, ap, length, get_or, arith, Some, None}
use Rattle.std.specs.Prelude.{All, Option, ℤ, filter_map, find}
use Rattle.std.specs.List.{AllByRecursion, cons_option, enumerate_from}
use Rattle.std.proofs.lemmas.List.Elements.{All-from_recursion}
use Rattle.geometry.specs.Point.{origin}
use Rattle.geometry.specs.Facet.{Facet, Edge, edge, half_edges}
use Rattle.mesh_weld.specs.EdgeNumbers.{edge_of}
use Rattle.mesh_weld.specs.Solid.{facet_at, vertices}
use Rattle.plane_segments.specs.declared.segment.Segment.{Segment}
use Rattle.plane_segments.specs.Segment.{both_of, is_downward, is_upward, node_of, segment_of, segments}
use Rattle.contour.proofs.lemmas.Balanced.{Agree, Agree-head, Agree-more, Agree-whole, node_at}

-- ---- what find finds
abbrev FoundAt : (Edge → Bool) → Facet → Option Edge → Type 0
FoundAt q t None = Unit {0}
FoundAt q t (Some d) = (k : ℕ) × (k < 3) × (d ≡ get_or (half_edges t) k (edge origin origin)) × (q d ≡ true)

found_at : (q : Edge → Bool) (t : Facet) → FoundAt q t (find q (half_edges t))
found_at q t = by_tests (q (edge t.a t.b)) (q (edge t.b t.c)) (q (edge t.c t.a)) refl refl refl
  where
    by_tests : (a b c : Bool) → q (edge t.a t.b) ≡ a → q (edge t.b t.c) ≡ b → q (edge t.c t.a) ≡ c
        → FoundAt q t (cond a (Some (edge t.a t.b)) (cond b (Some (edge t.b t.c)) (cond c (Some (edge t.c t.a)) None)))
    by_tests true b c h k l = (0, omega arith, refl, h)
    by_tests false true c h k l = (1, omega arith, refl, k)
    by_tests false false true h k l = (2, omega arith, refl, l)
    by_tests false false false h k l = tt

-- ---- a segment runs from its facet's edge down to its facet's edge up
pub record Runs (facets : List Facet) (z : ℤ) (x : Segment) : Type 0 where
  pub inside : x.facet < length facets
  pub down : ℕ
  pub down_in : down < 3
  pub down_is : find (is_downward z) (half_edges (facet_at facets x.facet)) ≡ Some (edge_of facets x.facet down)
  pub falls : is_downward z (edge_of facets x.facet down) ≡ true
  pub from_is : x.from ≡ node_at facets x.facet down
  pub up : ℕ
  pub up_in : up < 3
  pub up_is : find (is_upward z) (half_edges (facet_at facets x.facet)) ≡ Some (edge_of facets x.facet up)
  pub rises : is_upward z (edge_of facets x.facet up) ≡ true
  pub to_is : x.to ≡ node_at facets x.facet up

runs_from : (facets : List Facet) (z : ℤ) (n : ℕ) (ts : List Facet) → Agree facets n ts
    → AllByRecursion (Runs facets z) (filter_map (segment_of (vertices facets) z) (enumerate_from n ts))
runs_from facets z n [] h = tt
runs_from facets z n (t ∷ ts) h =
    by_edges (find (is_downward z) (half_edges t)) (find (is_upward z) (half_edges t)) refl refl (found_at (is_downward z) t) (found_at (is_upward z) t)
    (runs_from facets z (n + 1) ts (Agree-more facets n t ts h))
  where
    here : (n < length facets) × (facet_at facets n ≡ t)
    here = Agree-head facets n t ts h

    side_is : (d : Edge) (k : ℕ) → d ≡ get_or (half_edges t) k (edge origin origin) → d ≡ edge_of facets n k
    side_is d k e = e ∙ ap (λ u. get_or (half_edges u) k (edge origin origin)) (sym here.1)

    by_edges : (a b : Option Edge) → find (is_downward z) (half_edges t) ≡ a → find (is_upward z) (half_edges t) ≡ b
        → FoundAt (is_downward z) t a → FoundAt (is_upward z) t b
        → AllByRecursion (Runs facets z) (filter_map (segment_of (vertices facets) z) (enumerate_from (n + 1) ts))
        → AllByRecursion (Runs facets z) (cons_option (both_of (λ (d u : Edge). record { facet = n; from = node_of (vertices facets) d; to = node_of (vertices facets) u }) a b)
        (filter_map (segment_of (vertices facets) z) (enumerate_from (n + 1) ts)))
    by_edges None b e f p q more = more
    by_edges (Some d) None e f p q more = more
    by_edges (Some d) (Some u) e f p q more = (
      record {
        inside = here.0;
        down = p.0;
        down_in = p.1;
        down_is = ap (λ v. find (is_downward z) (half_edges v)) here.1 ∙ e ∙ ap Some (side_is d p.0 p.2);
        falls = ap (is_downward z) (sym (side_is d p.0 p.2)) ∙ p.3;
        from_is = ap (node_of (vertices facets)) (side_is d p.0 p.2);
        up = q.0;
        up_in = q.1;
        up_is = ap (λ v. find (is_upward z) (half_edges v)) here.1 ∙ f ∙ ap Some (side_is u q.0 q.2);
        rises = ap (is_upward z) (sym (side_is u q.0 q.2)) ∙ q.3;
        to_is = ap (node_of (vertices facets)) (side_is u q.0 q.2);
      },
      more,
    )

pub segments_run : (facets : List Facet) (z : ℤ) → All (Runs facets z) (segments facets z)
segments_run facets z = All-from_recursion (Runs facets z) (segments facets z) (runs_from facets z 0 facets (Agree-whole facets))
