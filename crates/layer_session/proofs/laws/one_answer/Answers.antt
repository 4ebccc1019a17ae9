use Rattle.layer_session.proofs.lemmas.OneAnswer.{an_answer, one_answer}
use Rattle.layer_session.proofs.laws.one_answer.Goals as goal

pub returns : goal.returns
returns c = record { exists = an_answer; one = one_answer }
