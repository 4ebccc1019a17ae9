-- All numberings of the edges of a mesh have the same count.
use Rattle.std.proofs.Common.{◌≡◌, ◌≢◌, ℕ, zero, suc, ◌≤◌, ◌<◌, eqb, List, [], ◌∷◌, length, refl, sym, ap, ◌∙◌, subst, arith}
use Rattle.std.specs.List.{AllPairs, All}
use Rattle.std.proofs.lemmas.Bool.Decides.{Decides-eqb}
use Rattle.std.proofs.lemmas.List.Kept.{AllPairs-cons}
use Rattle.std.proofs.lemmas.Map.Made.{IsDistinct-from_AllPairs}
use Rattle.std.proofs.lemmas.Map.Steps.{length-le_from_distinct_below}
use Rattle.geometry.specs.Facet.{Facet}
use Rattle.mesh_weld.specs.EdgeNumbers.{AreEdgeNumbers, HaveSameEnds, edge_number, edge_of}
use Rattle.std.proofs.Common.{eqb-true}
use Rattle.std.proofs.lemmas.List.Elements.{All-cons, All-weaker}
use Rattle.std.proofs.lemmas.List.Folds.{Any-from_list_any}

module _ (fs : List Facet) (ns ms : List (List ℕ)) (a b : ℕ) (h : AreEdgeNumbers fs ns a) (k : AreEdgeNumbers fs ms b) where
  -- the other number of an edge that has this one
  abbrev Pick : ℕ → ℕ → Type 0
  Pick n y = (f : ℕ) × (s : ℕ) × (f < length fs) × (s < 3) × (edge_number ns f s ≡ n) × (y ≡ edge_number ms f s)

  apart : (n m y z : ℕ) → n ≢ m → Pick n y → Pick m z → y ≢ z
  apart n m y z differ p q e =
      let ends : HaveSameEnds (edge_of fs p.0 p.1) (edge_of fs q.0 q.1) = (k.shared p.0 p.1 q.0 q.1 p.2 p.3 q.2 q.3).0 (sym p.5 ∙ e ∙ q.5) in
      differ (sym p.4 ∙ (h.shared p.0 p.1 q.0 q.1 p.2 p.3 q.2 q.3).1 ends ∙ q.4)

  -- the other numbers of edges with the numbers below n
  record Picked (n : ℕ) : Type 0 where
    list : List ℕ
    long : length list ≡ n
    each : All (λ y. (m : ℕ) × (m < n) × Pick m y) list
    differ : AllPairs (λ y z. y ≢ z) list

  picked : (n : ℕ) → n ≤ a → Picked n
  picked zero l =
      record {
        list = [];
        long = refl;
        each = λ i d m. absurd (omega (arith, m));
        differ = λ i j d m o. absurd (omega (arith, o));
      }
  picked (suc n) l = more (picked n (omega (arith, l))) (h.used n (omega (arith, l)))
    where
      more : Picked n → (f : ℕ) × (s : ℕ) × (f < length fs) × (s < 3) × (edge_number ns f s ≡ n) → Picked (suc n)
      more rest u =
          let here : Pick n (edge_number ms u.0 u.1) = (u.0, u.1, u.2, u.3, u.4, refl) in
          record {
            list = edge_number ms u.0 u.1 ∷ rest.list;
            long = ap suc rest.long;
            each = All-cons (λ y. (m : ℕ) × (m < suc n) × Pick m y) (edge_number ms u.0 u.1) rest.list (n, omega arith, here)
                (All-weaker (λ y. (m : ℕ) × (m < n) × Pick m y) (λ y. (m : ℕ) × (m < suc n) × Pick m y) (λ y p. (p.0, (let q : p.0 < n = p.1 in omega (arith, q)), p.2)) rest.list rest.each);
            differ = AllPairs-cons (λ y z. y ≢ z) (edge_number ms u.0 u.1) rest.list
                (All-weaker (λ y. (m : ℕ) × (m < n) × Pick m y) (λ y. edge_number ms u.0 u.1 ≢ y) (λ y p. apart n p.0 (edge_number ms u.0 u.1) y (λ e. let q : p.0 < n = p.1 in omega (arith, q, e)) here p.2) rest.list rest.each) rest.differ;
          }

  below : (y : ℕ) → (m : ℕ) × (m < a) × Pick m y → y < b
  below y p = let q : edge_number ms p.2.0 p.2.1 < b = k.below p.2.0 p.2.1 p.2.2 p.2.3 in let e : y ≡ edge_number ms p.2.0 p.2.1 = p.2.5 in omega (arith, q, e)

  at_most : a ≤ b
  at_most =
      let all : Picked a = picked a (omega arith) in
      let few : length all.list ≤ b = length-le_from_distinct_below all.list b (IsDistinct-from_AllPairs Decides-eqb all.list all.differ)
      (λ q t. let some = Any-from_list_any (eqb q) all.list t in
      let is : q ≡ some.1 = eqb-true q some.1 some.4 in
      let inside : some.0 < length all.list = some.2 in
      below q (subst (λ y. (m : ℕ) × (m < a) × Pick m y) (some.3 ∙ sym is) (all.each some.0 some.1 inside))) in
      omega (arith, few, all.long)

-- all numberings of the edges of some facets have the same count
pub one_count : (fs : List Facet) (ns ms : List (List ℕ)) (a b : ℕ) → AreEdgeNumbers fs ns a → AreEdgeNumbers fs ms b → a ≡ b
one_count fs ns ms a b h k = omega (arith, at_most fs ns ms a b h k, at_most fs ms ns b a k h)
