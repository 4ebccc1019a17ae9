-- Bytes have at most one outcome.
use Rattle.std.proofs.Common.{◌≡◌, ◌∙◌, ◌⊎◌, inl, inr, ℕ, ◌<◌, List, ap, arith, length, refl, sym}
use Rattle.std.specs.Prelude.{Err, Ok, Result, slice_index_or, ℤ}
use Rattle.std.proofs.lemmas.Bool.{cases_order}
use Rattle.std.proofs.lemmas.List.{same_lists}
use Rattle.geometry.specs.Facet.{Facet}
use Rattle.geometry.specs.Point.{Point}
use Rattle.micro_num.specs.declared.unit.Unit.{Unit as LengthUnit}
use Rattle.binary_stl.specs.Binary.{IsCornerAt, IsFacetAt, IsFaultOfBinary, Reaches, ReadsBinary, axis_number, coordinate_at, coordinates_before, length_of}
use Rattle.binary_stl.specs.declared.binary_fault.Axis.{Axis}
use Rattle.binary_stl.specs.declared.binary_fault.Axis.TheVariants.{X, Y, Z}
use Rattle.binary_stl.specs.declared.binary_fault.BinaryFault.{BinaryFault}
use Rattle.binary_stl.specs.declared.binary_fault.BinaryFault.TheVariants as fault
use Rattle.binary_stl.specs.declared.binary_fault.CoordinateFault.{CoordinateFault}
use Rattle.binary_stl.proofs.lemmas.Places.{axis_few, facet_is_ok, no_fault, some_facet}

same_coordinate : (r : Result ℤ CoordinateFault) (y z : ℤ) → r ≡ Ok y → r ≡ Ok z → y ≡ z
same_coordinate r y z is js = cc

same_corner : (unit : LengthUnit) (bytes : List ℕ) (facet corner : ℕ) (p q : Point) → IsCornerAt unit bytes facet corner p → IsCornerAt unit bytes facet corner q → p ≡ q
same_corner unit bytes facet corner p q is js = λ i. record {
  x = same_coordinate (coordinate_at unit bytes facet corner 0) p.x q.x is.x js.x i;
  y = same_coordinate (coordinate_at unit bytes facet corner 1) p.y q.y is.y js.y i;
  z = same_coordinate (coordinate_at unit bytes facet corner 2) p.z q.z is.z js.z i;
}

same_facet : (unit : LengthUnit) (bytes : List ℕ) (facet : ℕ) (f g : Facet) → IsFacetAt unit bytes facet f → IsFacetAt unit bytes facet g → f ≡ g
same_facet unit bytes facet f g is js = λ i. record {
  a = same_corner unit bytes facet 0 f.a g.a is.first js.first i;
  b = same_corner unit bytes facet 1 f.b g.b is.second js.second i;
  c = same_corner unit bytes facet 2 f.c g.c is.third js.third i;
}

pub one_reading : (limit : ℕ) (unit : LengthUnit) (bytes : List ℕ) (facets others : List Facet) → ReadsBinary limit unit bytes facets → ReadsBinary limit unit bytes others → facets ≡ others
one_reading limit unit bytes facets others is js =
    same_lists facets others (is.count ∙ sym js.count)
    (λ k none inside. same_facet unit bytes k (slice_index_or facets k none) (slice_index_or others k none)
    (is.each k none inside) (js.each k none (omega (arith, is.count, js.count, inside))))

-- ---- faults
pub not_both : (limit : ℕ) (unit : LengthUnit) (bytes : List ℕ) (facets : List Facet) (f : BinaryFault) → ReadsBinary limit unit bytes facets → IsFaultOfBinary limit unit bytes f → ⊥
not_both limit unit bytes facets fault.Ended is short = let form = is.form in omega (arith, form, short)
not_both limit unit bytes facets (fault.Length n wanted found) is (whole, same, takes, there, other) =
    other (takes ∙ ap length_of same ∙ sym is.form ∙ sym there)
not_both limit unit bytes facets (fault.TooMany n) is (form, same, many) = let few = is.few in omega (arith, few, same, many)
not_both limit unit bytes facets (fault.Number cause n corner axis) is (r, at) =
    let inside : n < length facets = omega (arith, is.count, r.of_facet) in
    no_fault (coordinate_at unit bytes n corner (axis_number axis)) cause
    (facet_is_ok unit bytes n (slice_index_or facets n some_facet) (is.each n some_facet inside) corner r.of_corner (axis_number axis) (axis_few axis)) at
not_both limit unit bytes facets fault.Memory is js = js

same_axis : (a b : Axis) → axis_number a ≡ axis_number b → a ≡ b
same_axis X X e = refl
same_axis X Y e = absurd (omega (arith, e))
same_axis X Z e = absurd (omega (arith, e))
same_axis Y X e = absurd (omega (arith, e))
same_axis Y Y e = refl
same_axis Y Z e = absurd (omega (arith, e))
same_axis Z X e = absurd (omega (arith, e))
same_axis Z Y e = absurd (omega (arith, e))
same_axis Z Z e = refl

-- a reader comes to one number that stands for no coordinate
module _ (limit : ℕ) (unit : LengthUnit) (bytes : List ℕ) (cause other : CoordinateFault) (n c m d : ℕ) (a b : Axis)
    (r : Reaches limit unit bytes n c (axis_number a)) (at : coordinate_at unit bytes n c (axis_number a) ≡ Err cause)
    (s : Reaches limit unit bytes m d (axis_number b)) (there : coordinate_at unit bytes m d (axis_number b) ≡ Err other) where
  same_number : coordinates_before n c (axis_number a) ≡ coordinates_before m d (axis_number b)
  same_number = by (cases_order (coordinates_before n c (axis_number a)) (coordinates_before m d (axis_number b)))
    where
      by : (coordinates_before n c (axis_number a) ≡ coordinates_before m d (axis_number b))
          ⊎ ((coordinates_before n c (axis_number a) < coordinates_before m d (axis_number b))
          ⊎ (coordinates_before m d (axis_number b) < coordinates_before n c (axis_number a)))
          → coordinates_before n c (axis_number a) ≡ coordinates_before m d (axis_number b)
      by (inl e) = e
      by (inr (inl less)) = absurd (no_fault (coordinate_at unit bytes n c (axis_number a)) cause (s.before n c (axis_number a) r.of_corner (axis_few a) less) at)
      by (inr (inr less)) = absurd (no_fault (coordinate_at unit bytes m d (axis_number b)) other (r.before m d (axis_number b) s.of_corner (axis_few b) less) there)

  one_number : fault.Number cause n c a ≡ fault.Number other m d b
  one_number =
      let e = same_number in
      let few = r.of_corner in
      let few' = s.of_corner in
      let facets : n ≡ m = omega (arith, e, few, few', axis_few a, axis_few b) in
      let corners : c ≡ d = omega (arith, e, few, few', axis_few a, axis_few b) in
      let axes : a ≡ b = same_axis a b (omega (arith, e, few, few', axis_few a, axis_few b)) in
      let same : coordinate_at unit bytes n c (axis_number a) ≡ coordinate_at unit bytes m d (axis_number b) =
      λ i. coordinate_at unit bytes (facets i) (corners i) (axis_number (axes i)) in
      let causes : cause ≡ other = same_cause (coordinate_at unit bytes n c (axis_number a)) (coordinate_at unit bytes m d (axis_number b)) same at there in
      λ i. fault.Number (causes i) (facets i) (corners i) (axes i)
    where
      same_cause : (p q : Result ℤ CoordinateFault) → p ≡ q → p ≡ Err cause → q ≡ Err other → cause ≡ other
      same_cause p q e is js = cc

pub one_fault : (limit : ℕ) (unit : LengthUnit) (bytes : List ℕ) (f g : BinaryFault) → IsFaultOfBinary limit unit bytes f → IsFaultOfBinary limit unit bytes g → f ≡ g
one_fault limit unit bytes fault.Ended fault.Ended is js = refl
one_fault limit unit bytes fault.Ended (fault.Length n wanted found) is (whole, same, js, at, other) = absurd (omega (arith, is, whole))
one_fault limit unit bytes fault.Ended (fault.TooMany n) is (form, js, many) = absurd (omega (arith, is, form))
one_fault limit unit bytes fault.Ended (fault.Number cause n c a) is (r, js) = let form = r.form in absurd (omega (arith, is, form))
one_fault limit unit bytes (fault.Length n wanted found) fault.Ended (whole, same, is, at, other) js = absurd (omega (arith, js, whole))
one_fault limit unit bytes (fault.Length n wanted found) (fault.Length m takes there) (whole, same, is, at, other) (whole', same', js, at', other') =
    let count : n ≡ m = same ∙ sym same' in
    λ i. fault.Length (count i) ((is ∙ ap length_of count ∙ sym js) i) ((at ∙ sym at') i)
one_fault limit unit bytes (fault.Length n wanted found) (fault.TooMany m) (whole, same, is, at, other) (form, js, many) =
    absurd (other (is ∙ ap length_of same ∙ sym form ∙ sym at))
one_fault limit unit bytes (fault.Length n wanted found) (fault.Number cause m c a) (whole, same, is, at, other) (r, js) =
    absurd (other (is ∙ ap length_of same ∙ sym r.form ∙ sym at))
one_fault limit unit bytes (fault.TooMany n) fault.Ended (form, is, many) js = absurd (omega (arith, js, form))
one_fault limit unit bytes (fault.TooMany n) (fault.Length m wanted found) (form, is, many) (whole, same, js, at, other) =
    absurd (other (js ∙ ap length_of same ∙ sym form ∙ sym at))
one_fault limit unit bytes (fault.TooMany n) (fault.TooMany m) (form, is, many) (form', js, many') = ap fault.TooMany (is ∙ sym js)
one_fault limit unit bytes (fault.TooMany n) (fault.Number cause m c a) (form, is, many) (r, js) =
    let few = r.few in absurd (omega (arith, is, many, few))
one_fault limit unit bytes (fault.Number cause n c a) fault.Ended (r, is) js = let form = r.form in absurd (omega (arith, js, form))
one_fault limit unit bytes (fault.Number cause n c a) (fault.Length m wanted found) (r, is) (whole, same, js, at, other) =
    absurd (other (js ∙ ap length_of same ∙ sym r.form ∙ sym at))
one_fault limit unit bytes (fault.Number cause n c a) (fault.TooMany m) (r, is) (form, js, many) =
    let few = r.few in absurd (omega (arith, js, many, few))
one_fault limit unit bytes (fault.Number cause n c a) (fault.Number other m d b) (r, at) (s, there) = one_number limit unit bytes cause other n c m d a b r at s there
one_fault limit unit bytes fault.Memory g is js = absurd is
one_fault limit unit bytes fault.Ended fault.Memory is js = absurd js
one_fault limit unit bytes (fault.Length n wanted found) fault.Memory is js = absurd js
one_fault limit unit bytes (fault.TooMany n) fault.Memory is js = absurd js
one_fault limit unit bytes (fault.Number cause n c a) fault.Memory is js = absurd js
