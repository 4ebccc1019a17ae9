use Rattle.std.proofs.Common.{◌-◌}
use Rattle.exact_cut.proofs.lemmas.Walks.{columns-least}
use Rattle.exact_cut.proofs.lemmas.DdaSteps.{length-columns_along}
use Rattle.exact_cut.proofs.dda.walk.Walk.between.Goals as goal

pub returns-clause-length : goal.returns-clause-length
returns-clause-length c = length-columns_along (c.args.end - c.args.row) c.args.lattice.now.columns c.dda_between.result

pub returns-clause-columns : goal.returns-clause-columns
returns-clause-columns c =
    let s = c.dda_between in
    columns-least c.args.near.now c.args.far.now c.args.lattice.now c.args.row s.result s.ensures.dda s.ensures.unit s.ensures.position (c.args.end - c.args.row) s.ensures.increment
