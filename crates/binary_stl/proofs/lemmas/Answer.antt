-- The answer of a reader, from the facets or the fault that it found.
use Rattle.std.proofs.Common.{ℕ, List}
use Rattle.std.specs.Prelude.{Err, Ok, Vec}
use Rattle.geometry.specs.Facet.{Facet}
use Rattle.micro_num.specs.declared.unit.Unit.{Unit as LengthUnit}
use Rattle.binary_stl.specs.Binary.{IsFaultOfBinary, ReadsBinary}
use Rattle.binary_stl.specs.Reading.{IsAnswerTo}
use Rattle.binary_stl.specs.declared.binary_fault.BinaryFault.{BinaryFault}
use Rattle.binary_stl.proofs.lemmas.OneOutcome.{not_both, one_reading}

pub answer_found : {A : Type 0} (limit : ℕ) (unit : LengthUnit) (bytes : List ℕ) (facets : Vec Facet A) → ReadsBinary limit unit bytes facets.items → IsAnswerTo {A = A} limit unit bytes (Ok facets)
answer_found limit unit bytes facets is = record {
  found = is;
  only = λ others js. one_reading limit unit bytes facets.items others is js;
  fault = tt;
}

pub answer_fault : {A : Type 0} (limit : ℕ) (unit : LengthUnit) (bytes : List ℕ) (f : BinaryFault) → IsFaultOfBinary limit unit bytes f → IsAnswerTo {A = A} limit unit bytes (Err f)
answer_fault limit unit bytes f is = record {
  found = tt;
  only = λ facets js. absurd (not_both limit unit bytes facets f js is);
  fault = λ _. is;
}
