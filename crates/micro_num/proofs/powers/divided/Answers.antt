use Rattle.micro_num.proofs.lemmas.Reciprocals.{divided_is}
use Rattle.micro_num.proofs.powers.divided.Goals as goal

pub returns : goal.returns
returns c = rw (c.from.ensures, c.from-2.ensures) (divided_is c.args.value c.args.power c.requires.some c.requires.few c.requires.small)
