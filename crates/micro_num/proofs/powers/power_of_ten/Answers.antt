use Rattle.micro_num.proofs.lemmas.Powers.{table_is}
use Rattle.micro_num.proofs.powers.power_of_ten.Goals as goal

pub returns : goal.returns
returns c = table_is c.args.power c.requires
