use Rattle.mesh_arrays.proofs.lemmas.OneOutcome.{not_both, one_fault, one_reading}
use Rattle.mesh_arrays.proofs.lemmas.SomeOutcome.{either}
use Rattle.mesh_arrays.proofs.laws.one_outcome.Goals as goal

pub returns : goal.returns
returns c = record { reading = one_reading; fault = one_fault; not_both = not_both; either = either }
