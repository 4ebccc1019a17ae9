use Rattle.std.proofs.Common.{◌+◌, length, ap, ◌∙◌, sym}
use Rattle.exact_cut.proofs.lemmas.DdaSteps.{length-columns_along}
use Rattle.exact_cut.proofs.dda.walk.Walk.end.Goals as goal

pub returns : goal.returns
returns c =
    let w = c.self.inside in
    ap (λ n. w.row + n) (sym (length-columns_along w.left w.columns w.dda)) ∙ ap (λ v. v.row + length v.columns) c.self.view_is
