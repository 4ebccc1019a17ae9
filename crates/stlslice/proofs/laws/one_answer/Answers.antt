use Rattle.stlslice.proofs.lemmas.OneAnswer.{an_outcome, one_outcome}
use Rattle.stlslice.proofs.lemmas.Slicing.{other_workers}
use Rattle.stlslice.proofs.laws.one_answer.Goals as goal

pub returns-clause-exists : goal.returns-clause-exists
returns-clause-exists c = an_outcome

pub returns-clause-one : goal.returns-clause-one
returns-clause-one c = one_outcome

pub returns-clause-workers : goal.returns-clause-workers
returns-clause-workers c = λ unit pitch layer rule workers others grid out input answer. (
  other_workers unit pitch layer rule workers others grid out input answer,
  other_workers unit pitch layer rule others workers grid out input answer,
)
