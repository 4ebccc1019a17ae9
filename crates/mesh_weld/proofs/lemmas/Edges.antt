-- Two tests over the edges of a mesh that show what its definitions say of all pairs of points.
use Rattle.std.proofs.Common.{◌≡◌, ◌≢◌, ◌+◌, Bool, true, false, cond, not, ◌&&◌, ◌||◌, List, [], ◌∷◌, refl, sym, ◌∙◌, ap, subst, inl, inr, ◌⊎◌}
use Rattle.std.specs.Prelude.{count_by, ◌==◌}
use Rattle.std.specs.List.{list_all}
use Rattle.std.specs.Ordering.{int_eq}
use Rattle.std.proofs.lemmas.List.Sums.{sum_by-cons}
use Rattle.std.proofs.lemmas.Bool.Decides.{Decides-int_eq}
use Rattle.std.proofs.lemmas.Bool.{and_parts, eqb-true}
use Rattle.geometry.specs.Point.{Point, same, is_before}
use Rattle.geometry.specs.Facet.{Facet, Edge, edge}
use Rattle.geometry.specs.Facet.{edges}
use Rattle.mesh_weld.specs.Balance.{half_edge_count, IsBalanced, is_edge_before}

pub count_by-cons : {X : Type 0} (p : X → Bool) (x : X) (xs : List X) → count_by p (x ∷ xs) ≡ cond (p x) 1 0 + count_by p xs
count_by-cons p x xs = sum_by-cons (λ y. cond (p y) 1 0) x xs

pub same-is : (p q : Point) → same p q ≡ true → p ≡ q
same-is p q h =
    let outer : (int_eq p.x q.x ≡ true) × ((int_eq p.y q.y && int_eq p.z q.z) ≡ true) = and_parts _ _ h in
    let inner : (int_eq p.y q.y ≡ true) × (int_eq p.z q.z ≡ true) = and_parts _ _ outer.1 in
    λ i. record {
      x = (Decides-int_eq p.x q.x).0 outer.0 i;
      y = (Decides-int_eq p.y q.y).0 inner.0 i;
      z = (Decides-int_eq p.z q.z).0 inner.1 i;
    }

-- if all elements of a list pass q, none passes p, or some element passes both
none-or_some : {X : Type 0} (p q : X → Bool) (xs : List X) → list_all q xs ≡ true
    → (count_by p xs ≡ 0) ⊎ ((x : X) × (p x ≡ true) × (q x ≡ true))
none-or_some p q [] h = inl refl
none-or_some {X} p q (x ∷ xs) h = at_head (none-or_some p q xs parts.1) (p x) refl
  where
    Either : List X → Type 0
    Either ys = (count_by p ys ≡ 0) ⊎ ((y : X) × (p y ≡ true) × (q y ≡ true))

    parts : (q x ≡ true) × (list_all q xs ≡ true)
    parts = and_parts _ _ h

    at_tail : p x ≡ false → Either xs → Either (x ∷ xs)
    at_tail fails (inl none) = inl (count_by-cons p x xs ∙ ap (λ b. cond b 1 0 + count_by p xs) fails ∙ ap (λ n. 0 + n) none)
    at_tail fails (inr some) = inr some

    at_head : Either xs → (b : Bool) → p x ≡ b → Either (x ∷ xs)
    at_head tail true passes = inr (x, passes, parts.0)
    at_head tail false fails = at_tail fails tail

-- the edge the other way
abbrev pub back : Edge → Edge
back e = edge e.to e.from

abbrev pub runs : Point → Point → Edge → Bool
runs u v e = same e.from u && same e.to v

pub runs-is : (u v : Point) (e : Edge) → runs u v e ≡ true → e ≡ edge u v
runs-is u v e h =
    let parts : (same e.from u ≡ true) × (same e.to v ≡ true) = and_parts _ _ h in
    λ i. record { from = same-is e.from u parts.0 i; to = same-is e.to v parts.1 i }

-- what a test shows of each edge and of its reverse holds of each pair of points, if it holds of pairs with no edges
module _ (facets : List Facet) (P : Edge → Type 0) (test : Edge → Bool)
    (there : (e : Edge) → test e ≡ true → P e × P (back e))
    (nowhere : (u v : Point) → half_edge_count facets u v ≡ 0 → half_edge_count facets v u ≡ 0 → P (edge u v))
    (tested : list_all test (edges facets) ≡ true) where
  pub each_pair : (u v : Point) → P (edge u v)
  each_pair u v = first (none-or_some (runs u v) test (edges facets) tested)
    where
      second : half_edge_count facets u v ≡ 0
          → (half_edge_count facets v u ≡ 0) ⊎ ((e : Edge) × (runs v u e ≡ true) × (test e ≡ true)) → P (edge u v)
      second none (inl none') = nowhere u v none none'
      second none (inr some) =
          let at : some.0 ≡ edge v u = runs-is v u some.0 some.1 in
          subst (λ e. P (back e)) at (there some.0 some.2).1

      first : (half_edge_count facets u v ≡ 0) ⊎ ((e : Edge) × (runs u v e ≡ true) × (test e ≡ true)) → P (edge u v)
      first (inl none) = second none (none-or_some (runs v u) test (edges facets) tested)
      first (inr some) = subst P (runs-is u v some.0 some.1) (there some.0 some.2).0

abbrev pub is_even : List Facet → Edge → Bool
is_even facets e = half_edge_count facets e.from e.to == half_edge_count facets e.to e.from

pub IsBalanced-by_edges : (facets : List Facet) → list_all (is_even facets) (edges facets) ≡ true → IsBalanced facets
IsBalanced-by_edges facets tested =
    each_pair facets (λ e. half_edge_count facets e.from e.to ≡ half_edge_count facets e.to e.from) (is_even facets)
    (λ e h. let even : half_edge_count facets e.from e.to ≡ half_edge_count facets e.to e.from = eqb-true _ _ h in (even, sym even))
    (λ u v none none'. none ∙ sym none') tested

-- an edge is even, or does not run to a later point, or is not before the target
abbrev pub is_past : List Facet → Edge → Edge → Bool
is_past facets target e = is_even facets e || (not (is_before e.from e.to) || not (is_edge_before e target))

abbrev pub is_past_both : List Facet → Edge → Edge → Bool
is_past_both facets target e = is_past facets target e && is_past facets target (back e)

abbrev IsPast : List Facet → Edge → Edge → Type 0
IsPast facets target e = is_before e.from e.to ≡ true → half_edge_count facets e.from e.to ≢ half_edge_count facets e.to e.from
    → is_edge_before e target ≡ false

past : (a b c : Bool) → (a || (not b || not c)) ≡ true → (a ≡ true) ⊎ (b ≡ true → c ≡ false)
past true b c h = inl refl
past false true true h = cc
past false true false h = inr (λ _. refl)
past false false c h = inr (λ e. cc)

is_past-is : (facets : List Facet) (target e : Edge) → is_past facets target e ≡ true → IsPast facets target e
is_past-is facets target e h up differ = by_cases (past (is_even facets e) (is_before e.from e.to) (is_edge_before e target) h)
  where
    by_cases : (is_even facets e ≡ true) ⊎ (is_before e.from e.to ≡ true → is_edge_before e target ≡ false) → is_edge_before e target ≡ false
    by_cases (inl even) = absurd (differ (eqb-true _ _ even))
    by_cases (inr far) = far up

pub least-by_edges : (facets : List Facet) (target : Edge) → list_all (is_past_both facets target) (edges facets) ≡ true
    → (e : Edge) → IsPast facets target e
least-by_edges facets target tested e =
    each_pair facets (IsPast facets target) (is_past_both facets target)
    (λ d h.
    let parts : (is_past facets target d ≡ true) × (is_past facets target (back d) ≡ true) = and_parts _ _ h in
    (is_past-is facets target d parts.0, is_past-is facets target (back d) parts.1))
    (λ u v none none' up differ. absurd (differ (none ∙ sym none'))) tested e.from e.to
