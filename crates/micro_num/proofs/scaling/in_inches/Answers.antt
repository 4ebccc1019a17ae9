use Rattle.std.proofs.Common.{List, ℕ}
use Rattle.micro_num.proofs.lemmas.Inches.{carried_twice}
use Rattle.micro_num.proofs.scaling.in_inches.Goals as goal

pub returns-clause-times : goal.returns-clause-times
returns-clause-times c =
    let w : List ℕ = c.args.whole.now in
    let f : List ℕ = c.args.fraction.now in
    let one = rw c.split_at.ensures.back at c.carried.ensures.carry in
    let two = rw c.split_at-2.ensures.back at c.carried-2.ensures.carry in
    carried_twice w f c.args.leading.dropped c.min-in_fraction.result c.min-in_fraction.ensures c.requires.few
    c.args.leading.value c.carried.result c.carried-2.result c.requires.leads c.requires.digits one two
