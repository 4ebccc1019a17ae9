-- A mesh is closed, or it has one least open edge.
use Rattle.std.proofs.Common.{◌≡◌, ◌⊎◌, ℕ, Bool, true, false, not, ◌&&◌, ◌||◌, List, [], ◌∷◌, refl, sym, ◌∙◌, ap, subst, inl, inr, Ordering}
use Rattle.std.specs.Cmp.{IsTotalOrder}
use Rattle.std.specs.List.{list_all}
use Rattle.std.specs.Ordering.{ordering_then, is_lt, is_eq}
use Rattle.std.specs.declared.cmp.Ordering.TheVariants.{Less, Equal, Greater}
use Rattle.std.proofs.lemmas.Bool.{and_from, and_parts, eqb-true, eq-eqb, true≢false}
use Rattle.std.proofs.lemmas.Cmp.{then_total, on_total}
use Rattle.geometry.specs.Point.{Point, same, is_before}
use Rattle.geometry.specs.Facet.{Facet, Edge, edge, edges}
use Rattle.mesh_weld.specs.Balance.{HasOpenEdge, IsBalanced, IsLeastOpen, half_edge_count, is_edge_before}
use Rattle.mesh_weld.proofs.lemmas.Edges.{IsBalanced-by_edges, back, is_even, is_past, is_past_both, least-by_edges}
use Rattle.mesh_weld.proofs.lemmas.Order.{before-irreflexive, is_before-is, lt_is, place_cmp, place_total, ranked, same-by_cmp, same-self}

-- Edges by their starts, then by their ends, as one comparison.

abbrev edge_cmp : Edge → Edge → Ordering
edge_cmp d e = ordering_then (place_cmp d.from e.from) (place_cmp d.to e.to)

edge_total : IsTotalOrder edge_cmp
edge_total = then_total (on_total (λ (e : Edge). e.from) place_total) (on_total (λ (e : Edge). e.to) place_total)

lt_of_two : (o p : Ordering) → (is_lt o || (is_eq o && is_lt p)) ≡ is_lt (ordering_then o p)
lt_of_two Less p = refl
lt_of_two Equal p = refl
lt_of_two Greater p = refl

edge_before-is : (d e : Edge) → is_edge_before d e ≡ is_lt (edge_cmp d e)
edge_before-is d e =
    ap (λ b. b || (same d.from e.from && is_before d.to e.to)) (is_before-is d.from e.from)
    ∙ ap (λ b. is_lt (place_cmp d.from e.from) || (b && is_before d.to e.to)) (same-by_cmp d.from e.from)
    ∙ ap (λ b. is_lt (place_cmp d.from e.from) || (is_eq (place_cmp d.from e.from) && b)) (is_before-is d.to e.to)
    ∙ lt_of_two (place_cmp d.from e.from) (place_cmp d.to e.to)

edge_before-trans : (d e f : Edge) → is_edge_before d e ≡ true → is_edge_before e f ≡ true → is_edge_before d f ≡ true
edge_before-trans d e f h k =
    edge_before-is d f
    ∙ ap is_lt (edge_total.trans d e f (lt_is _ (sym (edge_before-is d e) ∙ h)) (lt_is _ (sym (edge_before-is e f) ∙ k)))

not_before_self : (e : Edge) → is_edge_before e e ≡ false
not_before_self e = by_test (is_before e.from e.from) refl (is_before e.to e.to) refl
  where
    by_test : (b : Bool) → is_before e.from e.from ≡ b → (c : Bool) → is_before e.to e.to ≡ c → is_edge_before e e ≡ false
    by_test true h c k = absurd (before-irreflexive e.from h)
    by_test false h true k = absurd (before-irreflexive e.to k)
    by_test false h false k = rw (h, same-self e.from, k) refl

-- An open edge: from before to, and another number back.

abbrev IsOpen : List Facet → Edge → Type 0
IsOpen facets e = (is_before e.from e.to ≡ true) × (is_even facets e ≡ false)

not_past : (a b c : Bool) → (a || (not b || not c)) ≡ false → (a ≡ false) × (b ≡ true) × (c ≡ true)
not_past true b c h = cc
not_past false true true h = (refl, refl, refl)
not_past false true false h = cc
not_past false false c h = cc

past_by : (a b c : Bool) → c ≡ false → (a || (not b || not c)) ≡ true
past_by true b c h = refl
past_by false true true h = cc
past_by false true false h = refl
past_by false false c h = refl

past_again : (a b c d : Bool) → (a || (not b || not c)) ≡ true → (d ≡ true → c ≡ true) → (a || (not b || not d)) ≡ true
past_again true b c d h k = refl
past_again false false c d h k = refl
past_again false true true true h k = cc
past_again false true false true h k = let e : false ≡ true = k refl in cc
past_again false true c false h k = refl

record Closer (facets : List Facet) (target e : Edge) : Type 0 where
  nearest : Edge
  is_open : IsOpen facets nearest
  past : is_past facets nearest e ≡ true
  as_before : (d : Edge) → is_past facets target d ≡ true → is_past facets nearest d ≡ true

-- the lesser of an open edge and one more edge
closer : (facets : List Facet) (target e : Edge) → IsOpen facets target → Closer facets target e
closer facets target e apart = by_test (is_past facets target e) refl
  where
    by_test : (b : Bool) → is_past facets target e ≡ b → Closer facets target e
    by_test true h = record { nearest = target; is_open = apart; past = h; as_before = λ d k. k }
    by_test false h =
        let parts = not_past (is_even facets e) (is_before e.from e.to) (is_edge_before e target) h in
        record {
          nearest = e;
          is_open = (parts.1, parts.0);
          past = past_by (is_even facets e) (is_before e.from e.to) (is_edge_before e e) (not_before_self e);
          as_before = λ d k. past_again (is_even facets d) (is_before d.from d.to) (is_edge_before d target) (is_edge_before d e) k
              (λ less. edge_before-trans d e target less parts.2);
        }

-- The search for the least: over a list of edges either all are even, or one open edge has none before it.

even_back : (facets : List Facet) (e : Edge) → is_even facets e ≡ true → is_even facets (back e) ≡ true
even_back facets e h = eq-eqb _ _ (sym (eqb-true _ _ h))

past_even : (a b c : Bool) → a ≡ true → (a || (not b || not c)) ≡ true
past_even true b c h = refl
past_even false b c h = cc

both_even : (facets : List Facet) (target e : Edge) → is_even facets e ≡ true → is_past_both facets target e ≡ true
both_even facets target e h =
    and_from _ _ (past_even (is_even facets e) (is_before e.from e.to) (is_edge_before e target) h)
    (past_even (is_even facets (back e)) (is_before e.to e.from) (is_edge_before (back e) target) (even_back facets e h))

all_even : (facets : List Facet) (target : Edge) (es : List Edge) → list_all (is_even facets) es ≡ true
    → list_all (is_past_both facets target) es ≡ true
all_even facets target [] h = refl
all_even facets target (e ∷ es) h =
    let parts = and_parts (is_even facets e) (list_all (is_even facets) es) h in
    and_from _ _ (both_even facets target e parts.0) (all_even facets target es parts.1)

all_as_before : (facets : List Facet) (target nearest : Edge) → ((d : Edge) → is_past facets target d ≡ true → is_past facets nearest d ≡ true)
    → (es : List Edge) → list_all (is_past_both facets target) es ≡ true → list_all (is_past_both facets nearest) es ≡ true
all_as_before facets target nearest kept [] h = refl
all_as_before facets target nearest kept (e ∷ es) h =
    let parts = and_parts (is_past_both facets target e) (list_all (is_past_both facets target) es) h in
    let two = and_parts (is_past facets target e) (is_past facets target (back e)) parts.0 in
    and_from _ _ (and_from _ _ (kept e two.0) (kept (back e) two.1)) (all_as_before facets target nearest kept es parts.1)

record Nearest (facets : List Facet) (es : List Edge) : Type 0 where
  target : Edge
  is_open : IsOpen facets target
  past : list_all (is_past_both facets target) es ≡ true

-- the least of a list with one more edge
nearer : (facets : List Facet) (e : Edge) (es : List Edge) → Nearest facets es → Nearest facets (e ∷ es)
nearer facets e es n =
    let one : Closer facets n.target e = closer facets n.target e n.is_open in
    let two : Closer facets one.nearest (back e) = closer facets one.nearest (back e) one.is_open in
    record {
      target = two.nearest;
      is_open = two.is_open;
      past = and_from _ _ (and_from _ _ (two.as_before e one.past) two.past)
          (all_as_before facets n.target two.nearest (λ d k. two.as_before d (one.as_before d k)) es n.past);
    }

-- an uneven edge is open, or the edge back is
open_from : (facets : List Facet) (e : Edge) → is_even facets e ≡ false → IsOpen facets e ⊎ IsOpen facets (back e)
open_from facets e h = by_cases (ranked e.from e.to)
  where
    differs : half_edge_count facets e.from e.to ≡ half_edge_count facets e.to e.from → ⊥
    differs is = let even : is_even facets e ≡ true = eq-eqb _ _ is in cc

    uneven_back : (b : Bool) → is_even facets (back e) ≡ b → is_even facets (back e) ≡ false
    uneven_back true k = absurd (differs (sym (eqb-true _ _ k)))
    uneven_back false k = k

    by_cases : (is_before e.from e.to ≡ true) ⊎ ((e.from ≡ e.to) ⊎ (is_before e.to e.from ≡ true)) → IsOpen facets e ⊎ IsOpen facets (back e)
    by_cases (inl up) = inl (up, h)
    by_cases (inr (inl one)) = absurd (differs (λ i. half_edge_count facets (one i) (sym one i)))
    by_cases (inr (inr down)) = inr (down, uneven_back (is_even facets (back e)) refl)

first_open : (facets : List Facet) (es : List Edge)
    → (list_all (is_even facets) es ≡ true) ⊎ Nearest facets es
first_open facets [] = inl refl
first_open facets (e ∷ es) = by_rest (first_open facets es)
  where
    begun : list_all (is_even facets) es ≡ true → IsOpen facets e ⊎ IsOpen facets (back e) → Nearest facets (e ∷ es)
    begun rest (inl up) = nearer facets e es (record { target = e; is_open = up; past = all_even facets e es rest })
    begun rest (inr down) = nearer facets e es (record { target = back e; is_open = down; past = all_even facets (back e) es rest })

    by_test : list_all (is_even facets) es ≡ true → (b : Bool) → is_even facets e ≡ b
        → (list_all (is_even facets) (e ∷ es) ≡ true) ⊎ Nearest facets (e ∷ es)
    by_test rest true h = inl (and_from _ _ h rest)
    by_test rest false h = inr (begun rest (open_from facets e h))

    by_rest : (list_all (is_even facets) es ≡ true) ⊎ Nearest facets es → (list_all (is_even facets) (e ∷ es) ≡ true) ⊎ Nearest facets (e ∷ es)
    by_rest (inl rest) = by_test rest (is_even facets e) refl
    by_rest (inr n) = inr (nearer facets e es n)

-- a mesh is closed, or it has a least open edge
pub closed_or_open : (facets : List Facet) → IsBalanced facets ⊎ HasOpenEdge facets
closed_or_open facets = by_cases (first_open facets (edges facets))
  where
    by_cases : (list_all (is_even facets) (edges facets) ≡ true) ⊎ Nearest facets (edges facets) → IsBalanced facets ⊎ HasOpenEdge facets
    by_cases (inl even) = inl (IsBalanced-by_edges facets even)
    by_cases (inr n) = inr (
      n.target.from,
      n.target.to,
      half_edge_count facets n.target.from n.target.to,
      half_edge_count facets n.target.to n.target.from,
      record {
        in_order = n.is_open.0;
        there_is = refl;
        back_is = refl;
        differ = λ is. let even : is_even facets n.target ≡ true = eq-eqb _ _ is in let uneven = n.is_open.1 in cc;
        least = least-by_edges facets n.target n.past;
      },
    )

-- not both
pub closed_not_open : (facets : List Facet) (from to : Point) (there back : ℕ) → IsBalanced facets → IsLeastOpen facets from to there back → ⊥
closed_not_open facets from to there back balanced h = h.differ (h.there_is ∙ balanced from to ∙ sym h.back_is)

-- the ends of the least open edge are the same two points
one_from : (facets : List Facet) (a b c d : Point) (k l m n : ℕ) → IsLeastOpen facets a b k l → IsLeastOpen facets c d m n → a ≡ c
one_from facets a b c d k l m n h j = by_cases (ranked a c)
  where
    first : is_edge_before (edge a b) (edge c d) ≡ false
    first = j.least (edge a b) h.in_order (λ is. h.differ (h.there_is ∙ is ∙ sym h.back_is))

    second : is_edge_before (edge c d) (edge a b) ≡ false
    second = h.least (edge c d) j.in_order (λ is. j.differ (j.there_is ∙ is ∙ sym j.back_is))

    by_cases : (is_before a c ≡ true) ⊎ ((a ≡ c) ⊎ (is_before c a ≡ true)) → a ≡ c
    by_cases (inl up) = let e : is_edge_before (edge a b) (edge c d) ≡ true = rw up refl in absurd (true≢false (sym e ∙ first))
    by_cases (inr (inl one)) = one
    by_cases (inr (inr down)) = let e : is_edge_before (edge c d) (edge a b) ≡ true = rw down refl in absurd (true≢false (sym e ∙ second))

one_to : (facets : List Facet) (a b d : Point) (k l m n : ℕ) → IsLeastOpen facets a b k l → IsLeastOpen facets a d m n → b ≡ d
one_to facets a b d k l m n h j = by_cases (ranked b d)
  where
    by_to : (x y : Point) → is_before x y ≡ true → is_edge_before (edge a x) (edge a y) ≡ true
    by_to x y up = by_start (is_before a a) refl
      where
        by_start : (c : Bool) → is_before a a ≡ c → is_edge_before (edge a x) (edge a y) ≡ true
        by_start true e = rw e refl
        by_start false e = rw (e, same-self a, up) refl

    first : is_edge_before (edge a b) (edge a d) ≡ false
    first = j.least (edge a b) h.in_order (λ is. h.differ (h.there_is ∙ is ∙ sym h.back_is))

    second : is_edge_before (edge a d) (edge a b) ≡ false
    second = h.least (edge a d) j.in_order (λ is. j.differ (j.there_is ∙ is ∙ sym j.back_is))

    by_cases : (is_before b d ≡ true) ⊎ ((b ≡ d) ⊎ (is_before d b ≡ true)) → b ≡ d
    by_cases (inl up) = absurd (true≢false (sym (by_to b d up) ∙ first))
    by_cases (inr (inl one)) = one
    by_cases (inr (inr down)) = absurd (true≢false (sym (by_to d b down) ∙ second))

-- a mesh has one least open edge, with one count there and one back
pub one_open : (facets : List Facet) (a b c d : Point) (k l m n : ℕ) → IsLeastOpen facets a b k l → IsLeastOpen facets c d m n
    → (a ≡ c) × (b ≡ d) × (k ≡ m) × (l ≡ n)
one_open facets a b c d k l m n h j =
    let start : a ≡ c = one_from facets a b c d k l m n h j in
    let moved : IsLeastOpen facets a d m n = subst (λ (p : Point). IsLeastOpen facets p d m n) (sym start) j in
    let end : b ≡ d = one_to facets a b d k l m n h moved in
    let last : IsLeastOpen facets a b m n = subst (λ (p : Point). IsLeastOpen facets a p m n) (sym end) moved in
    (start, end, h.there_is ∙ sym last.there_is, h.back_is ∙ sym last.back_is)
