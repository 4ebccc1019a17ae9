-- Arrays have at most one outcome.
use Rattle.std.proofs.Common.{◌≡◌, ◌∙◌, ◌<◌, ◌≤◌, ◌⊎◌, [], List, ap, get_or, inl, inr, length, subst, sym, take, ℕ, ℤ, arith}
use Rattle.std.specs.Prelude.{All}
use Rattle.std.proofs.lemmas.Bool.{cases_order}
use Rattle.std.proofs.lemmas.List.{get_or-take, length-take-le}
use Rattle.geometry.specs.Facet.{Facet}
use Rattle.geometry.specs.Point.{IsMeshPoint}
use Rattle.geometry.specs.Indexed.{indexed_point}
use Rattle.mesh_arrays.specs.Arrays.{IsCorner, IsFaultOfArrays, IsOneMore, Reaches, ReadsArrays, Stands, triangle_at}
use Rattle.mesh_arrays.specs.declared.array_fault.ArrayFault.{ArrayFault}
use Rattle.mesh_arrays.specs.declared.array_fault.ArrayFault.TheVariants as fault

-- what holds of the first elements holds of each of them
of_first : {X : Type 0} (P : X → Type 0) (xs : List X) (n k : ℕ) (d : X) → n ≤ length xs → k < n → All P (take n xs) → P (get_or xs k d)
of_first {X} P xs n k d few below all =
    let inside : k < length (take n xs) = rw (length-take-le n xs few) below in
    subst P (get_or-take n xs k d below) (all k d inside)

abbrev IsNone : List (List ℤ) → ℕ → Type 0
IsNone points index = IsCorner points index → ⊥

missing_none : (points : List (List ℤ)) (index : ℕ) → length points ≤ index → IsNone points index
missing_none points index past is = let there = is.there in absurd (omega (arith, there, past))

-- a triangle has one index that is no corner after corners
one_index : (points : List (List ℤ)) (corners : List ℕ) (p q : ℕ) → Stands points corners p → IsNone points p → Stands points corners q → IsNone points q → p ≡ q
one_index points corners p q s refuted t none =
    by (cases_order s.corner t.corner)
  where
    by : (s.corner ≡ t.corner) ⊎ ((s.corner < t.corner) ⊎ (t.corner < s.corner)) → p ≡ q
    by (inl e) = s.index_is ∙ ap (λ n. get_or corners n 0) e ∙ sym t.index_is
    by (inr (inl lt)) =
        let few : t.corner ≤ length corners = omega (arith, t.inside) in
        absurd (refuted (subst (IsCorner points) (sym s.index_is) (of_first (IsCorner points) corners t.corner s.corner 0 few lt t.before)))
    by (inr (inr lt)) =
        let few : s.corner ≤ length corners = omega (arith, s.inside) in
        absurd (none (subst (IsCorner points) (sym t.index_is) (of_first (IsCorner points) corners s.corner t.corner 0 few lt s.before)))

-- a triangle with an index that is no corner is not among those whose indices are corners
is_no_facet : (points : List (List ℤ)) (corners : List ℕ) (p : ℕ) → Stands points corners p → IsNone points p → All (IsCorner points) corners → ⊥
is_no_facet points corners p s refuted all = refuted (subst (IsCorner points) (sym s.index_is) (all s.corner 0 s.inside))

-- a reader comes to one index that is no corner
one_place : (points : List (List ℤ)) (triangles : List (List ℕ)) (t u p q : ℕ) → Reaches points triangles t p → IsNone points p
    → Reaches points triangles u q → IsNone points q → (t ≡ u) × (p ≡ q)
one_place points triangles t u p q r refuted s none =
    by (cases_order t u)
  where
    by : (t ≡ u) ⊎ ((t < u) ⊎ (u < t)) → (t ≡ u) × (p ≡ q)
    by (inl e) =
        let stands : Stands points (triangle_at triangles u) p = subst (λ n. Stands points (triangle_at triangles n) p) e r.stands in
        (e, one_index points (triangle_at triangles u) p q stands refuted s.stands none)
    by (inr (inl lt)) =
        let few : u ≤ length triangles = omega (arith, s.inside) in
        absurd (is_no_facet points (triangle_at triangles t) p r.stands refuted (of_first (All (IsCorner points)) triangles u t [] few lt s.before))
    by (inr (inr lt)) =
        let few : t ≤ length triangles = omega (arith, r.inside) in
        absurd (is_no_facet points (triangle_at triangles u) q s.stands none (of_first (All (IsCorner points)) triangles t u [] few lt r.before))

-- where one triangle more than are read comes after facets, no index before it is none
not_one_more : (points : List (List ℤ)) (triangles : List (List ℕ)) (t u p : ℕ) → IsOneMore points triangles t → Reaches points triangles u p → IsNone points p → ⊥
not_one_more points triangles t u p more r refuted =
    let few : t ≤ length triangles = omega (arith, more.inside) in
    let lt : u < t = omega (arith, more.number, r.few) in
    is_no_facet points (triangle_at triangles u) p r.stands refuted (of_first (All (IsCorner points)) triangles t u [] few lt more.before)

not_in_range : (points : List (List ℤ)) (index : ℕ) → (IsMeshPoint (indexed_point points index) → ⊥) → IsNone points index
not_in_range points index out is = out is.in_range

not_missing : (points : List (List ℤ)) (p q : ℕ) → p ≡ q → length points ≤ p → q < length points → ⊥
not_missing points p q e past inside = omega (arith, e, past, inside)

pub one_fault : (points : List (List ℤ)) (triangles : List (List ℕ)) (f g : ArrayFault) → IsFaultOfArrays points triangles f → IsFaultOfArrays points triangles g → f ≡ g
one_fault points triangles (fault.Missing t p) (fault.Missing u q) (r, past) (s, beyond) =
    let same : (t ≡ u) × (p ≡ q) = one_place points triangles t u p q r (missing_none points p past) s (missing_none points q beyond) in
    λ i. fault.Missing (same.0 i) (same.1 i)
one_fault points triangles (fault.Missing t p) (fault.OutOfRange u q) (r, past) (s, inside, out) =
    let same : (t ≡ u) × (p ≡ q) = one_place points triangles t u p q r (missing_none points p past) s (not_in_range points q out) in
    absurd (not_missing points p q same.1 past inside)
one_fault points triangles (fault.Missing t p) (fault.TooMany u) (r, past) more = absurd (not_one_more points triangles u t p more r (missing_none points p past))
one_fault points triangles (fault.Missing t p) fault.Memory is js = absurd js
one_fault points triangles (fault.OutOfRange t p) (fault.Missing u q) (r, inside, out) (s, past) =
    let same : (t ≡ u) × (p ≡ q) = one_place points triangles t u p q r (not_in_range points p out) s (missing_none points q past) in
    absurd (not_missing points q p (sym same.1) past inside)
one_fault points triangles (fault.OutOfRange t p) (fault.OutOfRange u q) (r, inside, out) (s, there, none) =
    let same : (t ≡ u) × (p ≡ q) = one_place points triangles t u p q r (not_in_range points p out) s (not_in_range points q none) in
    λ i. fault.OutOfRange (same.0 i) (same.1 i)
one_fault points triangles (fault.OutOfRange t p) (fault.TooMany u) (r, inside, out) more = absurd (not_one_more points triangles u t p more r (not_in_range points p out))
one_fault points triangles (fault.OutOfRange t p) fault.Memory is js = absurd js
one_fault points triangles (fault.TooMany t) (fault.Missing u q) more (s, past) = absurd (not_one_more points triangles t u q more s (missing_none points q past))
one_fault points triangles (fault.TooMany t) (fault.OutOfRange u q) more (s, inside, out) = absurd (not_one_more points triangles t u q more s (not_in_range points q out))
one_fault points triangles (fault.TooMany t) (fault.TooMany u) more one = ap fault.TooMany (more.number ∙ sym one.number)
one_fault points triangles (fault.TooMany t) fault.Memory is js = absurd js
one_fault points triangles fault.Memory g is js = absurd is

pub one_reading : (points : List (List ℤ)) (triangles : List (List ℕ)) (facets others : List Facet) → ReadsArrays points triangles facets → ReadsArrays points triangles others
    → facets ≡ others
one_reading points triangles facets others is js = is.each ∙ sym js.each

no_place : (points : List (List ℤ)) (triangles : List (List ℕ)) (facets : List Facet) (t p : ℕ) → ReadsArrays points triangles facets → Reaches points triangles t p → IsNone points p → ⊥
no_place points triangles facets t p is r refuted = is_no_facet points (triangle_at triangles t) p r.stands refuted (is.corners t [] r.inside)

pub not_both : (points : List (List ℤ)) (triangles : List (List ℕ)) (facets : List Facet) (f : ArrayFault) → ReadsArrays points triangles facets → IsFaultOfArrays points triangles f → ⊥
not_both points triangles facets (fault.Missing t p) is (r, past) = no_place points triangles facets t p is r (missing_none points p past)
not_both points triangles facets (fault.OutOfRange t p) is (r, inside, out) = no_place points triangles facets t p is r (not_in_range points p out)
not_both points triangles facets (fault.TooMany t) is more =
    let few = is.few in
    omega (arith, few, more.number, more.inside)
not_both points triangles facets fault.Memory is js = js
