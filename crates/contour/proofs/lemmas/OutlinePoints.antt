-- Loops as points: a flat list of them, and where they start and end.
use Rattle.std.proofs.Common.{◌≡◌, ℕ, ◌+◌, ◌-◌, ◌<◌, true, List, [], ◌∷◌, inl, inr, refl, sym, ◌∙◌, ap, subst, length, take, drop, get_or, map, Some}
use Rattle.std.specs.Prelude.{◌≤◌, All, ℤ, pos, filter, find, flat_map, slice_get}
use Rattle.std.specs.List.{AllByRecursion}
use Rattle.std.proofs.lemmas.List.{take-map, drop-map}
use Rattle.std.proofs.lemmas.List.Elements.{All-append, All-filter, All-from_recursion, All-nil, recursion_from_All}
use Rattle.geometry.specs.Point.{Point, half_micrometres_of}
use Rattle.geometry.specs.TieRule.{rises_through}
use Rattle.geometry.specs.Facet.{Facet, Edge, half_edges, twice}
use Rattle.plane_segments.specs.Node.{is_node}
use Rattle.plane_segments.specs.declared.segment.Segment.{Segment}
use Rattle.plane_segments.specs.Segment.{height, is_downward, is_upward, segments}
use Rattle.plane_segments.proofs.lemmas.Cutting.{facet_at-is, found_down, not_found_down, to_rises, twice_finish, twice_start}
use Rattle.plane_segments.proofs.lemmas.FacetOrder.{segments_below}
use Rattle.contour.specs.Loops.{AreEnds, follower, is_leader, loops, parts_from}
use Rattle.exact_cut.specs.Cut.{IsBetween, Rises}
use Rattle.exact_cut.specs.CutPoint.{cut_d, cut_x, cut_y}
use Rattle.exact_cut.proofs.lemmas.Ahead.{span_positive}
use Rattle.exact_cut.proofs.lemmas.Rounding.{nearest-near}
use Rattle.mesh_weld.specs.EdgeNumbers.{HaveSameEnds, edge_of}
use Rattle.exact_cut.specs.PlanePoint.{IsStart, passing_point}
use Rattle.exact_cut.specs.declared.plane_point.PlanePoint.{PlanePoint}
use Rattle.contour.specs.Outlines.{IsStartOf, end_point, falling_point, point_or_origin, rising_point, start_point}
use Rattle.contour.proofs.lemmas.LoopRays.{follower_in, loops_in}
use Rattle.contour.proofs.lemmas.LoopWinds.{at_node}
use Rattle.contour.proofs.lemmas.Balanced.{never_both, same_ends}
use Rattle.contour.proofs.lemmas.Runs.{Runs, segments_run}
use Rattle.contour.proofs.lemmas.Parts.{parts-whole}

-- parts of a list that is mapped
pub parts-map : {X Y : Type 0} (f : X → Y) (at : ℕ) (ends : List ℕ) (xs : List X)
    → parts_from at ends (map f xs) ≡ map (map f) (parts_from at ends xs)
parts-map f at [] xs = refl
parts-map f at (e ∷ ends) xs =
    (λ i. take-map f (e - at) xs i ∷ parts_from e ends (drop-map f (e - at) xs i))
    ∙ ap (λ ps. map f (take (e - at) xs) ∷ ps) (parts-map f e ends (drop (e - at) xs))

flat_all : (P : Segment → Type 0) (n : ℕ) (parts : List (List Segment)) → AllByRecursion (λ part. AllByRecursion P part × (length part ≤ n)) parts
    → All P (flat_map (λ part. part) parts)
flat_all P n [] h = All-nil P
flat_all P n (part ∷ parts) h =
    All-append P part (flat_map (λ part. part) parts) (All-from_recursion P part h.0.0) (flat_all P n parts h.1)

-- a flat list of the loops of a plane is of the mesh's segments
pub flat_within : (facets : List Facet) (z : ℤ) (flat : List Segment) (ends : List ℕ) → AreEnds 0 ends (length flat)
    → parts_from 0 ends flat ≡ loops (segments facets z) → All (λ t. t.facet < length facets) flat
flat_within facets z flat ends h e =
    subst (All P) (sym (ap (flat_map (λ part. part)) e) ∙ parts-whole ends flat h)
    (flat_all P (length list + 1) (loops list) (loops_in list P 0 all (filter (is_leader list) list) kept))
  where
    list : List Segment
    list = segments facets z

    P : Segment → Type 0
    P t = t.facet < length facets

    all : All P list
    all = segments_below facets list (z, refl)

    kept : AllByRecursion P (filter (is_leader list) list)
    kept = recursion_from_All P (filter (is_leader list) list) (All-filter (is_leader list) P list all)

-- ---- where a segment starts, by its facet
pub start-some : (facets : List Facet) (z : ℤ) (s : Segment) (t : Facet) (p : PlanePoint) → slice_get facets s.facet ≡ Some t
    → IsStart (twice t) z p → p ≡ start_point facets z s
start-some facets z s t p e is =
    is.point ∙ (λ i. passing_point (twice_finish t is.cut.down i) (twice_start t is.cut.down i) z)
    ∙ sym (ap (point_or_origin (falling_point z)) (ap (λ u. find (is_downward z) (half_edges u)) (facet_at-is facets s.facet t e)
    ∙ found_down t z is.cut is.is_cut))

pub start-none : (facets : List Facet) (z : ℤ) (s : Segment) (t : Facet) → slice_get facets s.facet ≡ Some t
    → (IsBetween (twice t) z → ⊥) → record { x2 = pos 0; y2 = pos 0 } ≡ start_point facets z s
start-none facets z s t e not_between =
    sym (ap (point_or_origin (falling_point z)) (ap (λ u. find (is_downward z) (half_edges u)) (facet_at-is facets s.facet t e)
    ∙ not_found_down t z not_between))

-- ---- the laws: where a segment of the mesh starts, and that it ends where its follower starts
start-is : (facets : List Facet) (z : ℤ) (s : Segment) → Runs facets z s → IsStartOf facets z s (start_point facets z s)
start-is facets z s r =
    subst (IsStartOf facets z s) (sym (ap (point_or_origin (falling_point z)) r.down_is)) (record {
      edge = e;
      node = r.from_is;
      falls = falls;
      x = nearest-near (cut_x low high z) (cut_d low high) (span_positive low high z falls);
      y = nearest-near (cut_y low high z) (cut_d low high) (span_positive low high z falls);
    })
  where
    e : Edge
    e = edge_of facets s.facet r.down

    low : Point
    low = half_micrometres_of e.to

    high : Point
    high = half_micrometres_of e.from

    falls : Rises low high z
    falls = to_rises e.to e.from z r.falls

join : (facets : List Facet) (z : ℤ) (s t : Segment) → Runs facets z s → Runs facets z t → is_node t.from s.to ≡ true
    → end_point facets z s ≡ start_point facets z t
join facets z s t r q h =
    ap (point_or_origin (rising_point z)) r.up_is
    ∙ by_ends (edge_of facets t.facet q.down) (edge_of facets s.facet r.up) q.falls r.rises
    (same_ends facets t.facet q.down s.facet r.up q.inside q.down_in r.inside r.up_in
    ((λ i. is_node (sym q.from_is i) (sym r.to_is i)) ∙ h))
    ∙ sym (ap (point_or_origin (falling_point z)) q.down_is)
  where
    by_ends : (d u : Edge) → is_downward z d ≡ true → is_upward z u ≡ true → HaveSameEnds d u → rising_point z u ≡ falling_point z d
    by_ends d u f r (inl e) =
        absurd (never_both z u.from u.to r ((λ i. rises_through (height (sym e.1 i)) (height (sym e.0 i)) z) ∙ f))
    by_ends d u f r (inr e) =
        λ i. passing_point (half_micrometres_of (sym e.1 i)) (half_micrometres_of (sym e.0 i)) z

pub starts-cut : (facets : List Facet) (z : ℤ) → All (λ t. IsStartOf facets z t (start_point facets z t)) (segments facets z)
starts-cut facets z = λ k d l. start-is facets z (get_or (segments facets z) k d) (segments_run facets z k d l)

pub outlines-join : (facets : List Facet) (z : ℤ)
    → All (λ s. (t : Segment) → follower (segments facets z) s ≡ Some t → end_point facets z s ≡ start_point facets z t) (segments facets z)
outlines-join facets z = λ k d l t e.
    let list = segments facets z in
    let s = get_or list k d in
    join facets z s t (segments_run facets z k d l) (follower_in list (Runs facets z) (segments_run facets z) s t e) (at_node list s t e)
