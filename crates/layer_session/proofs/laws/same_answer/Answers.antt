use Rattle.layer_session.proofs.lemmas.OneAnswer.{same_answer}
use Rattle.layer_session.proofs.laws.same_answer.Goals as goal

pub returns : goal.returns
returns c = same_answer
