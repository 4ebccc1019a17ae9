use Rattle.std.proofs.Common.{◌∙◌}
use Rattle.micro_num.proofs.lemmas.Coordinates.{spelled_coordinate, not_number, too_long, out_of_range}
use Rattle.micro_num.proofs.reading.read_micro.Goals as goal

pub returns-clause-spelled : goal.returns-clause-spelled
returns-clause-spelled c = λ n is spelled short. c.read_word.ensures ∙ spelled_coordinate c.args.unit c.args.word.now n is spelled short

pub returns-clause-not_number : goal.returns-clause-not_number
returns-clause-not_number c = rw c.read_word.ensures (not_number c.args.unit c.args.word.now)

pub returns-clause-too_long : goal.returns-clause-too_long
returns-clause-too_long c = rw c.read_word.ensures (too_long c.args.unit c.args.word.now)

pub returns-clause-out_of_range : goal.returns-clause-out_of_range
returns-clause-out_of_range c = rw c.read_word.ensures (out_of_range c.args.unit c.args.word.now)
