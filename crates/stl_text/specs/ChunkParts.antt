-- A chunk of a text. It has parts, and runs of facets are found in it.
use Rattle.std.specs.Prelude.{ℕ, List}
use Rattle.micro_num.specs.declared.unit.Unit.{Unit as LengthUnit}

-- its bytes, with the unit of the text's numbers
pub record Chunk : Type 0 where
  pub unit : LengthUnit
  pub bytes : List ℕ
