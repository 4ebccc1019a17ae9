-- The edges that pass a height are those that a search of the three edges finds.
use Rattle.std.proofs.Common.{◌≡◌, ℕ, zero, suc, ◌<◌, Bool, true, false, List, [], refl, sym, ◌∙◌, ap, subst, arith, inl, inr, map, get_or, length}
use Rattle.std.specs.Prelude.{Option, Some, None, IsSome, is_some, ◌↔◌, ℤ, ◌≤ℤ◌, ◌<ℤ◌, find, slice_get}
use Rattle.std.proofs.lemmas.Bool.{false_from_ne_true, false≢true}
use Rattle.std.proofs.lemmas.Int.{ints}
use Rattle.std.proofs.lemmas.List.{get_or-map}
use Rattle.std.proofs.lemmas.Option.{get_or_from_slice_get}
use Rattle.geometry.specs.Point.{Point, origin, half_micrometres_of}
use Rattle.geometry.specs.Facet.{Facet, facet_with, Edge, edge, half_edges, twice, corners}
use Rattle.exact_cut.specs.Cut.{start, finish, Rises, IsCut, IsBetween}
use Rattle.exact_cut.specs.declared.cut.Cut.{Cut}
use Rattle.mesh_weld.specs.Solid.{number_of, facet_at, triples, vertices}
use Rattle.plane_segments.specs.Segment.{height, is_upward, is_downward, node_of, edge_node, segment_of}
use Rattle.geometry.specs.TieRule.{rises_through}

rises-true : (a b z : ℤ) → a ≤ℤ z → z <ℤ b → rises_through a b z ≡ true
rises-true a b z h k = grind (arith, ints)

rises-low : (a b z : ℤ) → rises_through a b z ≡ true → a ≤ℤ z
rises-low a b z h = grind (arith, ints)

rises-high : (a b z : ℤ) → rises_through a b z ≡ true → z <ℤ b
rises-high a b z h = grind (arith, ints)

-- edge 0, 1 or 2
abbrev edge_at : Facet → ℕ → Edge
edge_at t e = edge (start t e) (finish t e)

differ : (m n : ℕ) → m < n → m ≡ n → ⊥
differ m n h e = omega arith

-- a search of three things that finds the one with this number
only_found : (p : Edge → Bool) (t : Facet) (e : ℕ) → e < 3 → p (edge_at t e) ≡ true
    → ((d : ℕ) → d < 3 → p (edge_at t d) ≡ true → d ≡ e) → find p (half_edges t) ≡ Some (edge_at t e)
only_found p t zero h holds only = let e : p (edge t.a t.b) ≡ true = holds in rw e
only_found p t (suc zero) h holds only =
    let none : p (edge t.a t.b) ≡ false = false_from_ne_true _ (λ q. differ 0 1 (omega arith) (only 0 (omega arith) q)) in
    let e : p (edge t.b t.c) ≡ true = holds in
    rw (none, e)
only_found p t (suc (suc zero)) h holds only =
    let none : p (edge t.a t.b) ≡ false = false_from_ne_true _ (λ q. differ 0 2 (omega arith) (only 0 (omega arith) q)) in
    let none' : p (edge t.b t.c) ≡ false = false_from_ne_true _ (λ q. differ 1 2 (omega arith) (only 1 (omega arith) q)) in
    let e : p (edge t.c t.a) ≡ true = holds in
    rw (none, none', e)
only_found p t (suc (suc (suc n))) h holds only = absurd (omega arith)

none_found : (p : Edge → Bool) (t : Facet) → ((d : ℕ) → d < 3 → p (edge_at t d) ≡ true → ⊥) → find p (half_edges t) ≡ None
none_found p t none =
    let none0 : p (edge t.a t.b) ≡ false = false_from_ne_true _ (none 0 (omega arith)) in
    let none1 : p (edge t.b t.c) ≡ false = false_from_ne_true _ (none 1 (omega arith)) in
    let none2 : p (edge t.c t.a) ≡ false = false_from_ne_true _ (none 2 (omega arith)) in
    rw (none0, none1, none2)

-- heights of corners, in half-micrometres
rises_to : (u v : Point) (z : ℤ) → Rises (half_micrometres_of u) (half_micrometres_of v) z → rises_through (height u) (height v) z ≡ true
rises_to u v z r = rises-true (height u) (height v) z r.low r.high

pub to_rises : (u v : Point) (z : ℤ) → rises_through (height u) (height v) z ≡ true → Rises (half_micrometres_of u) (half_micrometres_of v) z
to_rises u v z h = record { low = rises-low _ _ z h; high = rises-high _ _ z h }

pub twice_start : (t : Facet) (e : ℕ) → start (twice t) e ≡ half_micrometres_of (start t e)
twice_start t zero = refl
twice_start t (suc zero) = refl
twice_start t (suc (suc e)) = refl

pub twice_finish : (t : Facet) (e : ℕ) → finish (twice t) e ≡ half_micrometres_of (finish t e)
twice_finish t zero = refl
twice_finish t (suc zero) = refl
twice_finish t (suc (suc e)) = refl

pub found_down : (t : Facet) (z : ℤ) (c : Cut) → IsCut (twice t) z c → find (is_downward z) (half_edges t) ≡ Some (edge_at t c.down)
found_down t z c cut =
    only_found (is_downward z) t c.down cut.down_in
    (rises_to (finish t c.down) (start t c.down) z (rw (← twice_start t c.down, ← twice_finish t c.down) cut.falls))
    (λ d h p. cut.one_down d h (rw (twice_start t d, twice_finish t d) (to_rises (finish t d) (start t d) z p)))

found_up : (t : Facet) (z : ℤ) (c : Cut) → IsCut (twice t) z c → find (is_upward z) (half_edges t) ≡ Some (edge_at t c.up)
found_up t z c cut =
    only_found (is_upward z) t c.up cut.up_in
    (rises_to (start t c.up) (finish t c.up) z (rw (← twice_start t c.up, ← twice_finish t c.up) cut.rises))
    (λ d h p. cut.one_up d h (rw (twice_start t d, twice_finish t d) (to_rises (start t d) (finish t d) z p)))

-- an edge that passes the height has an end at most at the height and one above
between-by_edge : (t : Facet) (z : ℤ) (d : ℕ) → Rises (finish (twice t) d) (start (twice t) d) z → IsBetween (twice t) z
between-by_edge t z zero r = record { some_below = inr (inl r.low); some_above = inl r.high }
between-by_edge t z (suc zero) r = record { some_below = inr (inr r.low); some_above = inr (inl r.high) }
between-by_edge t z (suc (suc d)) r = record { some_below = inl r.low; some_above = inr (inr r.high) }

pub not_found_down : (t : Facet) (z : ℤ) → (IsBetween (twice t) z → ⊥) → find (is_downward z) (half_edges t) ≡ None
not_found_down t z not_between =
    none_found (is_downward z) t
    (λ d h p. not_between (between-by_edge t z d (rw (twice_start t d, twice_finish t d) (to_rises (finish t d) (start t d) z p))))

pub facet_at-is : (facets : List Facet) (n : ℕ) (t : Facet) → slice_get facets n ≡ Some t → facet_at facets n ≡ t
facet_at-is facets n t e = get_or_from_slice_get facets n t (facet_with origin origin origin) e

-- the same of the facet with a number
pub between-by_cut : (facets : List Facet) (z : ℤ) (n : ℕ) (t : Facet) (c : Cut) → slice_get facets n ≡ Some t → IsCut (twice t) z c
    → IsBetween (twice (facet_at facets n)) z
between-by_cut facets z n t c e cut = subst (λ u. IsBetween (twice u) z) (sym (facet_at-is facets n t e)) (between-by_edge t z c.down cut.falls)

pub none-only : {X : Type 0} (o : Option X) (facets : List Facet) (z : ℤ) (n : ℕ) (t : Facet) → o ≡ None → slice_get facets n ≡ Some t
    → (IsBetween (twice t) z → ⊥) → IsSome o ↔ IsBetween (twice (facet_at facets n)) z
none-only o facets z n t e f not_between = (
  λ h. absurd (false≢true (sym (ap is_some e) ∙ h)),
  λ b. absurd (not_between (subst (λ u. IsBetween (twice u) z) (facet_at-is facets n t f) b)),
)

-- the node of edge 0, 1 or 2, by the numbers of the corners
edge_node-is : (points : List Point) (t : Facet) (e : ℕ) → e < 3
    → edge_node (map (number_of points) (corners t)) e ≡ node_of points (edge_at t e)
edge_node-is points t zero h = refl
edge_node-is points t (suc zero) h = refl
edge_node-is points t (suc (suc zero)) h = refl
edge_node-is points t (suc (suc (suc e))) h = absurd (omega arith)

-- the segment of a facet that is cut, and of one that is not
segment-some : (points : List Point) (z : ℤ) (n : ℕ) (t : Facet) (c : Cut) → IsCut (twice t) z c
    → segment_of points z (n, t) ≡ Some (record { facet = n; from = node_of points (edge_at t c.down); to = node_of points (edge_at t c.up) })
segment-some points z n t c cut = rw (found_down t z c cut, found_up t z c cut)

pub segment-none : (points : List Point) (z : ℤ) (n : ℕ) (t : Facet) → (IsBetween (twice t) z → ⊥)
    → segment_of points z (n, t) ≡ None
segment-none points z n t not_between = rw (not_found_down t z not_between)

pub triples_at : (facets : List Facet) (n : ℕ) → n < length facets
    → get_or (triples facets) n [] ≡ map (number_of (vertices facets)) (corners (facet_at facets n))
triples_at facets n h =
    get_or-map (λ t. map (number_of (vertices facets)) (corners t)) facets n (facet_with origin origin origin) [] h

pub segment_at-some : (facets : List Facet) (z : ℤ) (n : ℕ) (t : Facet) (numbers : List ℕ) (c : Cut) → n < length facets
    → slice_get facets n ≡ Some t → numbers ≡ get_or (triples facets) n [] → IsCut (twice t) z c
    → Some (record { facet = n; from = edge_node numbers c.down; to = edge_node numbers c.up })
    ≡ segment_of (vertices facets) z (n, facet_at facets n)
segment_at-some facets z n t numbers c h e f cut =
    let same : facet_at facets n ≡ t = facet_at-is facets n t e in
    let numbered : numbers ≡ map (number_of (vertices facets)) (corners t) =
    f ∙ triples_at facets n h ∙ ap (λ u. map (number_of (vertices facets)) (corners u)) same in
    (λ i. Some (record { facet = n; from = edge_node (numbered i) c.down; to = edge_node (numbered i) c.up }))
    ∙ (λ i. Some (record {
      facet = n;
      from = edge_node-is (vertices facets) t c.down cut.down_in i;
      to = edge_node-is (vertices facets) t c.up cut.up_in i;
    }))
    ∙ sym (segment-some (vertices facets) z n t c cut)
    ∙ ap (λ u. segment_of (vertices facets) z (n, u)) (sym same)

pub segment_at-none : (facets : List Facet) (z : ℤ) (n : ℕ) (t : Facet)
    → slice_get facets n ≡ Some t → (IsBetween (twice t) z → ⊥)
    → None ≡ segment_of (vertices facets) z (n, facet_at facets n)
segment_at-none facets z n t e not_between =
    sym (segment-none (vertices facets) z n t not_between)
    ∙ ap (λ u. segment_of (vertices facets) z (n, u)) (sym (facet_at-is facets n t e))
