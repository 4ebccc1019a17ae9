use Rattle.micro_num.proofs.lemmas.Grammar.{numeral_of-is, numeral_of-text}
use Rattle.micro_num.proofs.laws.one_spelling.Goals as goal

pub returns-clause-read : goal.returns-clause-read
returns-clause-read c = numeral_of-text

pub returns-clause-spelled : goal.returns-clause-spelled
returns-clause-spelled c = numeral_of-is
