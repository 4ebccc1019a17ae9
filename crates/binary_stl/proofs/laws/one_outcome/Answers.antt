use Rattle.binary_stl.proofs.lemmas.OneOutcome.{not_both, one_fault, one_reading}
use Rattle.binary_stl.proofs.lemmas.SomeOutcome.{either}
use Rattle.binary_stl.proofs.laws.one_outcome.Goals as goal

pub returns : goal.returns
returns c = record { reading = one_reading; fault = one_fault; not_both = not_both; either = either }
