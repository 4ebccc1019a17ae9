-- What is returned for bytes, and what is found on the way.
use Rattle.std.specs.Prelude.{◌≡◌, ◌≢◌, ◌<◌, ℕ, Err, IfErr, IfOk, IsOk, List, MatchResult, Result, Vec}
use Rattle.geometry.specs.Facet.{Facet}
use Rattle.micro_num.specs.declared.unit.Unit.{Unit as LengthUnit}
use Rattle.binary_stl.specs.Binary.{IsFaultOfBinary, ReadsBinary, axis_number, coordinate_at, coordinates_before}
use Rattle.binary_stl.specs.declared.binary_fault.BinaryFault.{BinaryFault}
use Rattle.binary_stl.specs.declared.binary_fault.BinaryFault.TheVariants as fault

-- what is returned for bytes of at most `limit` facets: their facets, their one fault, or out of memory
pub record IsAnswerTo {A : Type 0} (limit : ℕ) (unit : LengthUnit) (bytes : List ℕ) (result : Result (Vec Facet A) BinaryFault) : Type 0 where
  -- only the facets of the bytes are returned
  pub found : IfOk result (λ facets. ReadsBinary limit unit bytes facets.items)
  -- if the bytes are facets, exactly these are returned, unless memory runs out
  pub only : (facets : List Facet) → ReadsBinary limit unit bytes facets → MatchResult result (λ found. found.items ≡ facets) (λ cause. cause ≡ fault.Memory)
  -- a fault is that of the bytes, unless memory runs out
  pub fault : IfErr result (λ cause. cause ≢ fault.Memory → IsFaultOfBinary limit unit bytes cause)

-- the fault of a corner: its first number that stands for no coordinate
abbrev pub IsCornerFault : LengthUnit → List ℕ → ℕ → ℕ → BinaryFault → Type 0
IsCornerFault unit bytes facet corner (fault.Number cause f c axis) =
    (f ≡ facet) × (c ≡ corner)
    × ((a : ℕ) → a < axis_number axis → IsOk (coordinate_at unit bytes facet corner a))
    × (coordinate_at unit bytes facet corner (axis_number axis) ≡ Err cause)
IsCornerFault unit bytes facet corner fault.Ended = ⊥
IsCornerFault unit bytes facet corner (fault.Length facets wanted found) = ⊥
IsCornerFault unit bytes facet corner (fault.TooMany facets) = ⊥
IsCornerFault unit bytes facet corner fault.Memory = ⊥

-- the fault of a facet: that of its first corner that has one
abbrev pub IsFacetFault : LengthUnit → List ℕ → ℕ → BinaryFault → Type 0
IsFacetFault unit bytes facet (fault.Number cause f corner axis) =
    (f ≡ facet) × (corner < 3)
    × ((c a : ℕ) → c < 3 → a < 3 → coordinates_before facet c a < coordinates_before facet corner (axis_number axis)
    → IsOk (coordinate_at unit bytes facet c a))
    × (coordinate_at unit bytes facet corner (axis_number axis) ≡ Err cause)
IsFacetFault unit bytes facet fault.Ended = ⊥
IsFacetFault unit bytes facet (fault.Length facets wanted found) = ⊥
IsFacetFault unit bytes facet (fault.TooMany facets) = ⊥
IsFacetFault unit bytes facet fault.Memory = ⊥
