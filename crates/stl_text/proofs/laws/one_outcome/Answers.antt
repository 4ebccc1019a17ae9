use Rattle.stl_text.proofs.lemmas.OneReading.{one_reading}
use Rattle.stl_text.proofs.lemmas.OneFault.{one_fault, not_both}
use Rattle.stl_text.proofs.lemmas.Either.{outcome}
use Rattle.stl_text.proofs.laws.one_outcome.Goals as goal

pub returns-clause-reading : goal.returns-clause-reading
returns-clause-reading c = one_reading

pub returns-clause-fault : goal.returns-clause-fault
returns-clause-fault c = one_fault

pub returns-clause-not_both : goal.returns-clause-not_both
returns-clause-not_both c = not_both

pub returns-clause-either : goal.returns-clause-either
returns-clause-either c = outcome
