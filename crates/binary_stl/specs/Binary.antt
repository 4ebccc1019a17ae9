-- Binary STL, as in 3D Systems' "StereoLithography Interface Specification": which facets bytes are, and which fault they have
-- otherwise. After a header of 80 bytes of any kind come the count of facets and the facets. A facet is twelve numbers of single
-- precision, the normal and three corners, and two bytes of attributes. Normal and attributes are not looked at. The count and
-- the numbers have four bytes, low byte first.
-- - `number_from`, `facet_count`: a number by its place, the count of facets
-- - `IsBinary`, `is_binary`: the bytes are as many as the count takes
-- - `coordinate_at`: the coordinate of a corner, or its fault
-- - `ReadsBinary`: the bytes are these facets
-- - `Reaches`: a reader that goes through the coordinates in order comes to this one
-- - `IsFaultOfBinary`: the one fault of bytes
use Rattle.std.specs.Prelude.{◌≡◌, ◌≢◌, ◌+◌, ◌*◌, ◌<◌, ◌≤◌, ◌^◌, ◌==◌, ◌&&◌, ◌||◌, ℕ, ℤ, Bool, true, not, nat_le, List, Result, Ok, Err, IsOk, length, slice_index, slice_index_or}
use Rattle.geometry.specs.Facet.{Facet}
use Rattle.geometry.specs.Point.{Point}
use Rattle.micro_num.specs.declared.unit.Unit.{Unit as LengthUnit}
use Rattle.binary_stl.specs.Single.{coordinate_of}
use Rattle.binary_stl.specs.declared.binary_fault.Axis.{Axis}
use Rattle.binary_stl.specs.declared.binary_fault.Axis.TheVariants.{X, Y, Z}
use Rattle.binary_stl.specs.declared.binary_fault.BinaryFault.{BinaryFault}
use Rattle.binary_stl.specs.declared.binary_fault.BinaryFault.TheVariants as fault
use Rattle.binary_stl.specs.declared.binary_fault.CoordinateFault.{CoordinateFault}
use Rattle.binary_stl.specs.declared.limits.TheConstants.{CORNER_LEN, COUNT_START, FACETS_START, FACET_LEN, NUMBER_LEN}

-- the number of the four bytes from this place on
abbrev pub number_from : List ℕ → ℕ → ℕ
number_from bytes at =
    slice_index bytes at
    + 2 ^ 8 * slice_index bytes (at + 1)
    + 2 ^ 16 * slice_index bytes (at + 2)
    + 2 ^ 24 * slice_index bytes (at + 3)

abbrev pub facet_count : List ℕ → ℕ
facet_count bytes = number_from bytes COUNT_START

-- the length of a binary STL of so many facets
abbrev pub length_of : ℕ → ℕ
length_of count = FACETS_START + FACET_LEN * count

abbrev pub IsBinary : List ℕ → Type 0
IsBinary bytes = length bytes ≡ length_of (facet_count bytes)

abbrev pub is_binary : List ℕ → Bool
is_binary bytes = length bytes == length_of (facet_count bytes)

-- a byte of a text: white space, or no control character
abbrev pub is_text_byte : ℕ → Bool
is_text_byte byte = (nat_le 9 byte && nat_le byte 13) || (nat_le 32 byte && not (byte == 127))

-- the four bytes that a count would have, as far as there are so many, are those of a text
abbrev pub HasTextForCount : List ℕ → Type 0
HasTextForCount bytes =
    (place : ℕ) → COUNT_START ≤ place → place < FACETS_START → place < length bytes → is_text_byte (slice_index bytes place) ≡ true

abbrev pub axis_number : Axis → ℕ
axis_number X = 0
axis_number Y = 1
axis_number Z = 2

-- where a coordinate of a corner of a facet begins: the normal of a facet is as long as a corner, and comes first
abbrev pub number_place : ℕ → ℕ → ℕ → ℕ
number_place facet corner axis = length_of facet + CORNER_LEN + CORNER_LEN * corner + NUMBER_LEN * axis

-- the coordinate of a corner of a facet in a unit, in micrometres, or why there is none; all count from 0
abbrev pub coordinate_at : LengthUnit → List ℕ → ℕ → ℕ → ℕ → Result ℤ CoordinateFault
coordinate_at unit bytes facet corner axis = coordinate_of unit (number_from bytes (number_place facet corner axis))

-- a corner of a facet
pub record IsCornerAt (unit : LengthUnit) (bytes : List ℕ) (facet corner : ℕ) (p : Point) : Type 0 where
  pub x : coordinate_at unit bytes facet corner 0 ≡ Ok p.x
  pub y : coordinate_at unit bytes facet corner 1 ≡ Ok p.y
  pub z : coordinate_at unit bytes facet corner 2 ≡ Ok p.z

-- the facet with this number
pub record IsFacetAt (unit : LengthUnit) (bytes : List ℕ) (facet : ℕ) (f : Facet) : Type 0 where
  pub first : IsCornerAt unit bytes facet 0 f.a
  pub second : IsCornerAt unit bytes facet 1 f.b
  pub third : IsCornerAt unit bytes facet 2 f.c

-- the first facets, as many as these
abbrev pub AreFirstFacets : LengthUnit → List ℕ → List Facet → Type 0
AreFirstFacets unit bytes facets = (k : ℕ) (none : Facet) → k < length facets → IsFacetAt unit bytes k (slice_index_or facets k none)

-- The bytes are a binary STL of at most `limit` facets, and these are its facets, in order.
pub record ReadsBinary (limit : ℕ) (unit : LengthUnit) (bytes : List ℕ) (facets : List Facet) : Type 0 where
  pub form : IsBinary bytes
  pub few : facet_count bytes ≤ limit
  pub count : length facets ≡ facet_count bytes
  pub each : AreFirstFacets unit bytes facets

-- how many coordinates come before this one, in the order of the bytes
abbrev pub coordinates_before : ℕ → ℕ → ℕ → ℕ
coordinates_before facet corner axis = 9 * facet + 3 * corner + axis

-- The bytes are a binary STL of at most `limit` facets, which has this coordinate of this corner of this facet. Each number
-- before it stands for a coordinate.
pub record Reaches (limit : ℕ) (unit : LengthUnit) (bytes : List ℕ) (facet corner axis : ℕ) : Type 0 where
  pub form : IsBinary bytes
  pub few : facet_count bytes ≤ limit
  pub of_facet : facet < facet_count bytes
  pub of_corner : corner < 3
  pub before : (f c a : ℕ) → c < 3 → a < 3 → coordinates_before f c a < coordinates_before facet corner axis → IsOk (coordinate_at unit bytes f c a)

-- the one fault of bytes that are no facets
abbrev pub IsFaultOfBinary : ℕ → LengthUnit → List ℕ → BinaryFault → Type 0
IsFaultOfBinary limit unit bytes fault.Ended = length bytes < FACETS_START
IsFaultOfBinary limit unit bytes (fault.Length facets wanted found) =
    (FACETS_START ≤ length bytes) × (facets ≡ facet_count bytes) × (wanted ≡ length_of facets) × (found ≡ length bytes) × (wanted ≢ found)
IsFaultOfBinary limit unit bytes (fault.TooMany facets) = IsBinary bytes × (facets ≡ facet_count bytes) × (limit < facets)
IsFaultOfBinary limit unit bytes (fault.Number cause facet corner axis) =
    Reaches limit unit bytes facet corner (axis_number axis) × (coordinate_at unit bytes facet corner (axis_number axis) ≡ Err cause)
IsFaultOfBinary limit unit bytes fault.Memory = ⊥
