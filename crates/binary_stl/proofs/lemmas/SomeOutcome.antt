-- Bytes have an outcome.
use Rattle.std.proofs.Common.{◌≡◌, ◌∙◌, ◌⊎◌, inl, inr, ℕ, zero, suc, ◌+◌, ◌*◌, ◌/◌, ◌%◌, ◌<◌, ◌≤◌, List, ap, arith, length, map, refl, subst, sym}
use Rattle.std.specs.Prelude.{Err, IsOk, Ok, Result, pos, ℤ}
use Rattle.std.specs.List.{range_with_len}
use Rattle.std.proofs.lemmas.Bool.{cases_eq, cases_lt}
use Rattle.std.proofs.lemmas.List.FromFn.{get_or-map-range_with_len, length-map-range_with_len}
use Rattle.geometry.specs.Facet.{Facet, facet_with}
use Rattle.geometry.specs.Point.{Point}
use Rattle.micro_num.specs.declared.unit.Unit.{Unit as LengthUnit}
use Rattle.binary_stl.specs.Binary.{IsBinary, IsCornerAt, IsFacetAt, IsFaultOfBinary, ReadsBinary, axis_number, coordinate_at, coordinates_before, facet_count, length_of}
use Rattle.binary_stl.specs.declared.binary_fault.Axis.{Axis}
use Rattle.binary_stl.specs.declared.binary_fault.Axis.TheVariants.{X, Y, Z}
use Rattle.binary_stl.specs.declared.binary_fault.BinaryFault.{BinaryFault}
use Rattle.binary_stl.specs.declared.binary_fault.BinaryFault.TheVariants as fault
use Rattle.binary_stl.specs.declared.binary_fault.CoordinateFault.{CoordinateFault}
use Rattle.binary_stl.specs.declared.limits.TheConstants.{FACETS_START}
use Rattle.binary_stl.proofs.lemmas.Places.{of_three}

abbrev Found : Type 0
Found = Result ℤ CoordinateFault

-- the first of these that is no coordinate
abbrev IsFirst : (ℕ → Found) → ℕ → Type 0
IsFirst found j = ((i : ℕ) → i < j → IsOk (found i)) × (cause : CoordinateFault) × (found j ≡ Err cause)

abbrev AFirst : (ℕ → Found) → ℕ → Type 0
AFirst found n = (j : ℕ) × (j < n) × IsFirst found j

cases_of : (r : Found) → IsOk r ⊎ ((cause : CoordinateFault) × (r ≡ Err cause))
cases_of (Ok z) = inl refl
cases_of (Err cause) = inr (cause, refl)

search_first : (found : ℕ → Found) (n : ℕ) → ((i : ℕ) → i < n → IsOk (found i)) ⊎ AFirst found n
search_first found zero = inl (λ i none. absurd (omega (arith, none)))
search_first found (suc n) = by (search_first found n) (cases_of (found n))
  where
    by : ((i : ℕ) → i < n → IsOk (found i)) ⊎ AFirst found n → IsOk (found n) ⊎ ((cause : CoordinateFault) × (found n ≡ Err cause))
        → ((i : ℕ) → i < suc n → IsOk (found i)) ⊎ AFirst found (suc n)
    by (inr (j, less, first)) own = inr (j, omega (arith, less), first)
    by (inl all) (inr failed) = inr (n, omega arith, (all, failed.0, failed.1))
    by (inl all) (inl is) = inl more
      where
        more : (i : ℕ) → i < suc n → IsOk (found i)
        more i less = one (cases_lt i n)
          where
            one : (i < n) ⊎ (n ≤ i) → IsOk (found i)
            one (inl h) = all i h
            one (inr h) = let same : n ≡ i = omega (arith, less, h) in subst (λ k. IsOk (found k)) same is

axis_of : ℕ → Axis
axis_of zero = X
axis_of (suc zero) = Y
axis_of (suc (suc n)) = Z

axis_number-axis_of : (a : ℕ) → a < 3 → axis_number (axis_of a) ≡ a
unfolding axis_of
axis_number-axis_of = of_three (λ a. axis_number (axis_of a) ≡ a) refl refl refl

value : Found → ℤ
value (Ok z) = z
value (Err cause) = pos 0

is-value : (r : Found) → IsOk r → r ≡ Ok (value r)
unfolding value
is-value (Ok z) is = refl
is-value (Err cause) is = cc

module _ (limit : ℕ) (unit : LengthUnit) (bytes : List ℕ) where
  -- coordinate k, in the order of the bytes
  nth : ℕ → Found
  nth k = coordinate_at unit bytes (k / 9) (k / 3 % 3) (k % 3)

  nth-is : (f c a : ℕ) → c < 3 → a < 3 → nth (coordinates_before f c a) ≡ coordinate_at unit bytes f c a
  unfolding nth
  nth-is f c a few_c few_a =
      let k : ℕ = coordinates_before f c a in
      let facet : k / 9 ≡ f = omega (arith, few_c, few_a) in
      let thirds : k / 3 ≡ 3 * f + c = omega (arith, few_a) in
      let corner : k / 3 % 3 ≡ c = omega (arith, few_c, thirds) in
      let axis : k % 3 ≡ a = omega (arith, few_a) in
      λ i. coordinate_at unit bytes (facet i) (corner i) (axis i)

  abbrev AFault : Type 0
  AFault = (f : BinaryFault) × IsFaultOfBinary limit unit bytes f

  -- the first number that stands for no coordinate
  number_fault : IsBinary bytes → facet_count bytes ≤ limit → AFirst nth (9 * facet_count bytes) → AFault
  unfolding nth
  number_fault form few (k, inside, (before, cause, failed)) =
      let facet : ℕ = k / 9 in
      let corner : ℕ = k / 3 % 3 in
      let axis : Axis = axis_of (k % 3) in
      let same : axis_number axis ≡ k % 3 = axis_number-axis_of (k % 3) (omega arith) in
      let place : coordinates_before facet corner (axis_number axis) ≡ k = omega (arith, same) in (
        fault.Number cause facet corner axis,
        (
          record {
            form = form;
            few = few;
            of_facet = omega (arith, inside);
            of_corner = omega arith;
            before = λ f c a few_c few_a less. subst IsOk (nth-is f c a few_c few_a) (before (coordinates_before f c a) (omega (arith, less, place)));
          },
          ap (coordinate_at unit bytes facet corner) same ∙ failed,
        ),
      )

  corner_of : ℕ → ℕ → Point
  corner_of k c = record {
    x = value (coordinate_at unit bytes k c 0);
    y = value (coordinate_at unit bytes k c 1);
    z = value (coordinate_at unit bytes k c 2);
  }

  facet_of : ℕ → Facet
  facet_of k = facet_with (corner_of k 0) (corner_of k 1) (corner_of k 2)

  corner_is : (k c : ℕ) → ((a : ℕ) → a < 3 → IsOk (coordinate_at unit bytes k c a)) → IsCornerAt unit bytes k c (corner_of k c)
  unfolding corner_of
  corner_is k c all = record {
    x = is-value (coordinate_at unit bytes k c 0) (all 0 (omega arith));
    y = is-value (coordinate_at unit bytes k c 1) (all 1 (omega arith));
    z = is-value (coordinate_at unit bytes k c 2) (all 2 (omega arith));
  }

  facet_is : (k : ℕ) → ((c a : ℕ) → c < 3 → a < 3 → IsOk (coordinate_at unit bytes k c a)) → IsFacetAt unit bytes k (facet_of k)
  unfolding facet_of
  facet_is k all = record {
    first = corner_is k 0 (λ a few. all 0 a (omega arith) few);
    second = corner_is k 1 (λ a few. all 1 a (omega arith) few);
    third = corner_is k 2 (λ a few. all 2 a (omega arith) few);
  }

  facets : IsBinary bytes → facet_count bytes ≤ limit → ((i : ℕ) → i < 9 * facet_count bytes → IsOk (nth i))
      → (facets : List Facet) × ReadsBinary limit unit bytes facets
  facets form few all = (
    map facet_of (range_with_len 0 (facet_count bytes)),
    record {
      form = form;
      few = few;
      count = length-map-range_with_len facet_of 0 (facet_count bytes);
      each = λ k none inside.
          let less : k < facet_count bytes = omega (arith, inside, length-map-range_with_len facet_of 0 (facet_count bytes)) in
          subst (IsFacetAt unit bytes k) (sym (get_or-map-range_with_len facet_of 0 (facet_count bytes) k k none less (omega arith)))
          (facet_is k (λ c a few_c few_a.
          subst IsOk (nth-is k c a few_c few_a) (all (coordinates_before k c a) (omega (arith, less, few_c, few_a)))));
    },
  )

  abbrev Outcome : Type 0
  Outcome = ((facets : List Facet) × ReadsBinary limit unit bytes facets) ⊎ AFault

  pub either : Outcome
  either = by_length (cases_lt (length bytes) FACETS_START)
    where
      by_numbers : IsBinary bytes → facet_count bytes ≤ limit
          → ((i : ℕ) → i < 9 * facet_count bytes → IsOk (nth i)) ⊎ AFirst nth (9 * facet_count bytes) → Outcome
      by_numbers form few (inl all) = inl (facets form few all)
      by_numbers form few (inr first) = inr (number_fault form few first)

      by_count : IsBinary bytes → (limit < facet_count bytes) ⊎ (facet_count bytes ≤ limit) → Outcome
      by_count form (inl many) = inr (fault.TooMany (facet_count bytes), (form, refl, many))
      by_count form (inr few) = by_numbers form few (search_first nth (9 * facet_count bytes))

      by_form : FACETS_START ≤ length bytes → (length bytes ≡ length_of (facet_count bytes)) ⊎ (length bytes ≡ length_of (facet_count bytes) → ⊥) → Outcome
      by_form whole (inl form) = by_count form (cases_lt limit (facet_count bytes))
      by_form whole (inr other) =
          inr (
            fault.Length (facet_count bytes) (length_of (facet_count bytes)) (length bytes),
            (whole, refl, refl, refl, (λ e. other (sym e))),
          )

      by_length : (length bytes < FACETS_START) ⊎ (FACETS_START ≤ length bytes) → Outcome
      by_length (inl short) = inr (fault.Ended, short)
      by_length (inr whole) = by_form whole (cases_eq (length bytes) (length_of (facet_count bytes)))
