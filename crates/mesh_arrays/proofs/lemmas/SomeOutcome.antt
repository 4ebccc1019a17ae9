-- Arrays have an outcome.
use Rattle.std.proofs.Common.{◌+◌, ◌<◌, ◌≤◌, ◌⊎◌, [], List, add-one, get_or, inl, inr, length, map, refl, subst, suc, take, zero, ℕ, ℤ, arith}
use Rattle.std.specs.Prelude.{All, unsigned_abs}
use Rattle.std.proofs.lemmas.List.{take_all}
use Rattle.std.proofs.lemmas.List.Elements.{All-more, All-nil}
use Rattle.exact_int.specs.Bounds.{IsAtMost}
use Rattle.geometry.specs.Facet.{Facet}
use Rattle.geometry.specs.Point.{IsMeshPoint, Point}
use Rattle.geometry.specs.declared.limits.TheConstants.{COORDINATE_LIMIT, FACET_LIMIT}
use Rattle.geometry.specs.Indexed.{indexed_facet, indexed_point}
use Rattle.mesh_arrays.specs.Arrays.{IsCorner, IsFaultOfArrays, Reaches, ReadsArrays, Stands, triangle_at}
use Rattle.mesh_arrays.specs.declared.array_fault.ArrayFault.{ArrayFault}
use Rattle.mesh_arrays.specs.declared.array_fault.ArrayFault.TheVariants as fault

below_or_not : (m n : ℕ) → (m ≤ n) ⊎ (n < m)
below_or_not m n = grind arith

-- a coordinate is in range or not
coordinate : (z : ℤ) → IsAtMost COORDINATE_LIMIT z ⊎ (IsAtMost COORDINATE_LIMIT z → ⊥)
coordinate z = by (below_or_not (unsigned_abs z) COORDINATE_LIMIT)
  where
    by : (unsigned_abs z ≤ COORDINATE_LIMIT) ⊎ (COORDINATE_LIMIT < unsigned_abs z) → IsAtMost COORDINATE_LIMIT z ⊎ (IsAtMost COORDINATE_LIMIT z → ⊥)
    by (inl h) = inl (record { at_most = h })
    by (inr h) = inr (λ is. let within = is.at_most in absurd (omega (arith, within, h)))

mesh_point : (p : Point) → IsMeshPoint p ⊎ (IsMeshPoint p → ⊥)
mesh_point p = by (coordinate p.x) (coordinate p.y) (coordinate p.z)
  where
    In : ℤ → Type 0
    In z = IsAtMost COORDINATE_LIMIT z

    by : In p.x ⊎ (In p.x → ⊥) → In p.y ⊎ (In p.y → ⊥) → In p.z ⊎ (In p.z → ⊥) → IsMeshPoint p ⊎ (IsMeshPoint p → ⊥)
    by (inl x) (inl y) (inl z) = inl (x, y, z)
    by (inr out) y z = inr (λ is. out is.0)
    by (inl x) (inr out) z = inr (λ is. out is.1)
    by (inl x) (inl y) (inr out) = inr (λ is. out is.2)

-- why an index is no corner
abbrev Refused : List (List ℤ) → ℕ → Type 0
Refused points index = (length points ≤ index) ⊎ ((index < length points) × (IsMeshPoint (indexed_point points index) → ⊥))

corner : (points : List (List ℤ)) (index : ℕ) → IsCorner points index ⊎ Refused points index
corner points index = by (below_or_not (length points) index) (mesh_point (indexed_point points index))
  where
    by : (length points ≤ index) ⊎ (index < length points) → IsMeshPoint (indexed_point points index) ⊎ (IsMeshPoint (indexed_point points index) → ⊥)
        → IsCorner points index ⊎ Refused points index
    by (inl past) p = inr (inl past)
    by (inr inside) (inl is) = inl (record { there = inside; in_range = is })
    by (inr inside) (inr out) = inr (inr (inside, out))

abbrev AnIndex : List (List ℤ) → List ℕ → Type 0
AnIndex points corners = (index : ℕ) × Stands points corners index × Refused points index

first_corners : (points : List (List ℤ)) (corners : List ℕ) (n : ℕ) → n ≤ length corners → All (IsCorner points) (take n corners) ⊎ AnIndex points corners
first_corners points corners zero few = inl (All-nil (IsCorner points))
first_corners points corners (suc n) few =
    let inside : n < length corners = omega (arith, few) in
    let up_to : n ≤ length corners = omega (arith, few) in
    by inside (first_corners points corners n up_to) (corner points (get_or corners n 0))
  where
    by : n < length corners → All (IsCorner points) (take n corners) ⊎ AnIndex points corners → IsCorner points (get_or corners n 0) ⊎ Refused points (get_or corners n 0)
        → All (IsCorner points) (take (suc n) corners) ⊎ AnIndex points corners
    by inside (inr found) own = inr found
    by inside (inl before) (inr refused) =
        inr (get_or corners n 0, record { corner = n; inside = inside; before = before; index_is = refl }, refused)
    by inside (inl before) (inl is) =
        let more : All (IsCorner points) (take (n + 1) corners) = All-more (IsCorner points) corners n 0 inside before is in
        inl (subst (λ k. All (IsCorner points) (take k corners)) (add-one n) more)

all_corners : (points : List (List ℤ)) (corners : List ℕ) → All (IsCorner points) corners ⊎ AnIndex points corners
all_corners points corners = by (first_corners points corners (length corners) (omega arith))
  where
    by : All (IsCorner points) (take (length corners) corners) ⊎ AnIndex points corners → All (IsCorner points) corners ⊎ AnIndex points corners
    by (inl all) = inl (subst (All (IsCorner points)) (take_all (length corners) corners (omega arith)) all)
    by (inr found) = inr found

abbrev AFault : List (List ℤ) → List (List ℕ) → Type 0
AFault points triangles = (f : ArrayFault) × IsFaultOfArrays points triangles f

fault_at : (points : List (List ℤ)) (triangles : List (List ℕ)) (t index : ℕ) → Reaches points triangles t index → Refused points index → AFault points triangles
fault_at points triangles t index r (inl past) = (fault.Missing t index, (r, past))
fault_at points triangles t index r (inr (inside, out)) = (fault.OutOfRange t index, (r, inside, out))

first_triangles : (points : List (List ℤ)) (triangles : List (List ℕ)) (n : ℕ) → n ≤ length triangles → n ≤ FACET_LIMIT
    → All (All (IsCorner points)) (take n triangles) ⊎ AFault points triangles
first_triangles points triangles zero few read = inl (All-nil (All (IsCorner points)))
first_triangles points triangles (suc n) few read =
    let inside : n < length triangles = omega (arith, few) in
    let one_read : n < FACET_LIMIT = omega (arith, read) in
    let up_to : n ≤ length triangles = omega (arith, few) in
    let all_read : n ≤ FACET_LIMIT = omega (arith, read) in
    by inside one_read (first_triangles points triangles n up_to all_read) (all_corners points (triangle_at triangles n))
  where
    by : n < length triangles → n < FACET_LIMIT → All (All (IsCorner points)) (take n triangles) ⊎ AFault points triangles
        → All (IsCorner points) (triangle_at triangles n) ⊎ AnIndex points (triangle_at triangles n)
        → All (All (IsCorner points)) (take (suc n) triangles) ⊎ AFault points triangles
    by inside one_read (inr found) own = inr found
    by inside one_read (inl before) (inr (index, stands, refused)) =
        inr (fault_at points triangles n index (record { inside = inside; few = one_read; before = before; stands = stands }) refused)
    by inside one_read (inl before) (inl is) =
        let more : All (All (IsCorner points)) (take (n + 1) triangles) = All-more (All (IsCorner points)) triangles n [] inside before is in
        inl (subst (λ k. All (All (IsCorner points)) (take k triangles)) (add-one n) more)

abbrev Outcome : List (List ℤ) → List (List ℕ) → Type 0
Outcome points triangles = ((facets : List Facet) × ReadsArrays points triangles facets) ⊎ AFault points triangles

pub either : (points : List (List ℤ)) (triangles : List (List ℕ)) → Outcome points triangles
either points triangles = by (below_or_not (length triangles) FACET_LIMIT)
  where
    few : length triangles ≤ FACET_LIMIT → All (All (IsCorner points)) (take (length triangles) triangles) ⊎ AFault points triangles → Outcome points triangles
    few read (inr found) = inr found
    few read (inl all) = inl (
      map (indexed_facet points) triangles,
      record {
        few = read;
        corners = subst (All (All (IsCorner points))) (take_all (length triangles) triangles (omega arith)) all;
        each = refl;
      },
    )

    many : FACET_LIMIT < length triangles → All (All (IsCorner points)) (take FACET_LIMIT triangles) ⊎ AFault points triangles → Outcome points triangles
    many more (inr found) = inr found
    many more (inl all) = inr (fault.TooMany FACET_LIMIT, record { number = refl; inside = more; before = all })

    by : (length triangles ≤ FACET_LIMIT) ⊎ (FACET_LIMIT < length triangles) → Outcome points triangles
    by (inl read) = few read (first_triangles points triangles (length triangles) (omega arith) read)
    by (inr more) = many more (first_triangles points triangles FACET_LIMIT (omega (arith, more)) (omega arith))
