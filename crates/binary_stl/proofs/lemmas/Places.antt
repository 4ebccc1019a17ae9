-- Coordinates in the order of the bytes: those of a corner, of a facet, and of earlier facets.
use Rattle.std.proofs.Common.{◌≡◌, ◌⊎◌, inl, inr, ◌∙◌, ℕ, ◌++◌, ◌<◌, ◌≤◌, List, [], ◌∷◌, ap, arith, length, length-append, refl, subst, sym}
use Rattle.std.specs.Prelude.{Err, IsOk, Ok, Result, slice_index_or, ℤ}
use Rattle.std.specs.Result.{is_ok}
use Rattle.std.proofs.lemmas.Bool.{cases_lt}
use Rattle.std.proofs.lemmas.List.{get_or_append_left}
use Rattle.std.proofs.Math.Seq.{get_or-append_seam}
use Rattle.geometry.specs.Facet.{Facet, facet_with}
use Rattle.geometry.specs.Point.{Point, origin}
use Rattle.micro_num.specs.declared.unit.Unit.{Unit as LengthUnit}
use Rattle.binary_stl.specs.Binary.{AreFirstFacets, IsBinary, IsCornerAt, IsFacetAt, IsFaultOfBinary, axis_number, coordinate_at, coordinates_before, facet_count}
use Rattle.binary_stl.specs.Reading.{IsCornerFault, IsFacetFault}
use Rattle.binary_stl.specs.declared.binary_fault.Axis.{Axis}
use Rattle.binary_stl.specs.declared.binary_fault.Axis.TheVariants.{X, Y, Z}
use Rattle.binary_stl.specs.declared.binary_fault.BinaryFault.{BinaryFault}
use Rattle.binary_stl.specs.declared.binary_fault.BinaryFault.TheVariants as fault
use Rattle.binary_stl.specs.declared.binary_fault.CoordinateFault.{CoordinateFault}

pub some_facet : Facet
some_facet = facet_with origin origin origin

pub is_ok_at : (r : Result ℤ CoordinateFault) (z : ℤ) → r ≡ Ok z → IsOk r
is_ok_at r z e = ap is_ok e

pub no_fault : (r : Result ℤ CoordinateFault) (cause : CoordinateFault) → IsOk r → r ≡ Err cause → ⊥
no_fault r cause is e = let failed : is_ok r ≡ is_ok {T = ℤ} (Err cause) = ap is_ok e in cc

pub axis_few : (axis : Axis) → axis_number axis < 3
axis_few X = omega arith
axis_few Y = omega arith
axis_few Z = omega arith

-- what holds of 0, of 0 and 1, and of 0 to 2
pub of_one : (P : ℕ → Type 0) → P 0 → (a : ℕ) → a < 1 → P a
of_one P first a few = subst P (omega (arith, few)) first

pub of_two : (P : ℕ → Type 0) → P 0 → P 1 → (a : ℕ) → a < 2 → P a
of_two P first second a few = by (cases_lt a 1)
  where
    by : (a < 1) ⊎ (1 ≤ a) → P a
    by (inl h) = of_one P first a h
    by (inr h) = subst P (omega (arith, few, h)) second

pub of_three : (P : ℕ → Type 0) → P 0 → P 1 → P 2 → (a : ℕ) → a < 3 → P a
of_three P first second third a few = by (cases_lt a 2)
  where
    by : (a < 2) ⊎ (2 ≤ a) → P a
    by (inl h) = of_two P first second a h
    by (inr h) = subst P (omega (arith, few, h)) third

pub corner_is_ok : (unit : LengthUnit) (bytes : List ℕ) (facet corner : ℕ) (p : Point) → IsCornerAt unit bytes facet corner p
    → (a : ℕ) → a < 3 → IsOk (coordinate_at unit bytes facet corner a)
corner_is_ok unit bytes facet corner p is =
    of_three (λ a. IsOk (coordinate_at unit bytes facet corner a))
    (is_ok_at (coordinate_at unit bytes facet corner 0) p.x is.x)
    (is_ok_at (coordinate_at unit bytes facet corner 1) p.y is.y)
    (is_ok_at (coordinate_at unit bytes facet corner 2) p.z is.z)

pub facet_is_ok : (unit : LengthUnit) (bytes : List ℕ) (facet : ℕ) (f : Facet) → IsFacetAt unit bytes facet f
    → (c : ℕ) → c < 3 → (a : ℕ) → a < 3 → IsOk (coordinate_at unit bytes facet c a)
facet_is_ok unit bytes facet f is =
    of_three (λ c. (a : ℕ) → a < 3 → IsOk (coordinate_at unit bytes facet c a))
    (corner_is_ok unit bytes facet 0 f.a is.first)
    (corner_is_ok unit bytes facet 1 f.b is.second)
    (corner_is_ok unit bytes facet 2 f.c is.third)

-- one facet more, that of number n
pub first_facets_more : (unit : LengthUnit) (bytes : List ℕ) (facets more : List Facet) (f : Facet) (n : ℕ) → length facets ≡ n → more ≡ facets ++ f ∷ []
    → AreFirstFacets unit bytes facets → IsFacetAt unit bytes n f → AreFirstFacets unit bytes more
first_facets_more unit bytes facets more f n count is each last = subst (AreFirstFacets unit bytes) (sym is) all
  where
    all : AreFirstFacets unit bytes (facets ++ f ∷ [])
    all k none inside = by (cases_lt k (length facets))
      where
        by : (k < length facets) ⊎ (length facets ≤ k) → IsFacetAt unit bytes k (slice_index_or (facets ++ f ∷ []) k none)
        by (inl h) = subst (IsFacetAt unit bytes k) (sym (get_or_append_left facets (f ∷ []) none k h)) (each k none h)
        by (inr h) =
            let here : length facets ≡ k = omega (arith, h, inside, length-append facets (f ∷ [])) in
            let found : slice_index_or (facets ++ f ∷ []) k none ≡ f =
            ap (λ k. slice_index_or (facets ++ f ∷ []) k none) (sym here) ∙ get_or-append_seam facets f [] none in
            subst (IsFacetAt unit bytes k) (sym found) (subst (λ m. IsFacetAt unit bytes m f) (sym count ∙ here) last)

-- ---- the first fault of a corner, a facet and all facets

pub corner_fault : (unit : LengthUnit) (bytes : List ℕ) (facet corner : ℕ) (axis : Axis) (f : BinaryFault)
    → ((a : ℕ) → a < axis_number axis → IsOk (coordinate_at unit bytes facet corner a))
    → (cause : CoordinateFault) × (f ≡ fault.Number cause facet corner axis) × (coordinate_at unit bytes facet corner (axis_number axis) ≡ Err cause)
    → IsCornerFault unit bytes facet corner f
corner_fault unit bytes facet corner axis f before (cause, is, at) = subst (IsCornerFault unit bytes facet corner) (sym is) (refl, refl, before, at)

pub facet_fault : (unit : LengthUnit) (bytes : List ℕ) (facet corner : ℕ) (f : BinaryFault) → corner < 3
    → ((c : ℕ) → c < corner → (a : ℕ) → a < 3 → IsOk (coordinate_at unit bytes facet c a))
    → IsCornerFault unit bytes facet corner f → IsFacetFault unit bytes facet f
facet_fault unit bytes facet corner (fault.Number cause n k axis) few earlier (same, is, before, at) =
    (same, omega (arith, few, is), first, subst (λ c. coordinate_at unit bytes facet c (axis_number axis) ≡ Err cause) (sym is) at)
  where
    first : (c a : ℕ) → c < 3 → a < 3 → coordinates_before facet c a < coordinates_before facet k (axis_number axis) → IsOk (coordinate_at unit bytes facet c a)
    first c a few_c few_a less = by (cases_lt c corner)
      where
        by : (c < corner) ⊎ (corner ≤ c) → IsOk (coordinate_at unit bytes facet c a)
        by (inl h) = earlier c h a few_a
        by (inr h) =
            let here : corner ≡ c = omega (arith, h, less, is, axis_few axis) in
            subst (λ c. IsOk (coordinate_at unit bytes facet c a)) here (before a (omega (arith, h, less, is, axis_few axis)))
facet_fault unit bytes facet corner fault.Ended few earlier none = absurd none
facet_fault unit bytes facet corner (fault.Length facets wanted found) few earlier none = absurd none
facet_fault unit bytes facet corner (fault.TooMany facets) few earlier none = absurd none
facet_fault unit bytes facet corner fault.Memory few earlier none = absurd none

pub first_fault : (limit : ℕ) (unit : LengthUnit) (bytes : List ℕ) (facets : List Facet) (f : BinaryFault) (m : ℕ) → length facets ≡ m
    → IsBinary bytes → facet_count bytes ≤ limit → m < facet_count bytes
    → AreFirstFacets unit bytes facets → IsFacetFault unit bytes m f → IsFaultOfBinary limit unit bytes f
first_fault limit unit bytes facets (fault.Number cause n k axis) m count form few inside each (same, few_k, before, at) = (
  record {
    form = form;
    few = few;
    of_facet = omega (arith, same, inside);
    of_corner = few_k;
    before = first;
  },
  subst (λ n. coordinate_at unit bytes n k (axis_number axis) ≡ Err cause) (sym same) at,
)
  where
    first : (g c a : ℕ) → c < 3 → a < 3 → coordinates_before g c a < coordinates_before n k (axis_number axis) → IsOk (coordinate_at unit bytes g c a)
    first g c a few_c few_a less = by (cases_lt g m)
      where
        by : (g < m) ⊎ (m ≤ g) → IsOk (coordinate_at unit bytes g c a)
        by (inl h) = facet_is_ok unit bytes g (slice_index_or facets g some_facet) (each g some_facet (omega (arith, count, h))) c few_c a few_a
        by (inr h) =
            let here : m ≡ g = omega (arith, h, less, same, few_k, axis_few axis) in
            subst (λ g. IsOk (coordinate_at unit bytes g c a)) here
            (before c a few_c few_a (omega (arith, h, less, same, few_k, axis_few axis)))
first_fault limit unit bytes facets fault.Ended m count form few inside each none = absurd none
first_fault limit unit bytes facets (fault.Length n wanted found) m count form few inside each none = absurd none
first_fault limit unit bytes facets (fault.TooMany n) m count form few inside each none = absurd none
first_fault limit unit bytes facets fault.Memory m count form few inside each none = absurd none
