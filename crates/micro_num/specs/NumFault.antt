-- The words for the fault of a number.
use Rattle.std.specs.Prelude.{ℕ, List, codes}
use Rattle.micro_num.specs.declared.num_fault.NumFault.{NumFault}
use Rattle.micro_num.specs.declared.num_fault.NumFault.TheVariants.{NotNumber, OutOfRange, TooLong}

abbrev pub num_fault_text : NumFault → List ℕ
num_fault_text NotNumber = codes "not a number"
num_fault_text TooLong = codes "too long"
num_fault_text OutOfRange = codes "out of range"
