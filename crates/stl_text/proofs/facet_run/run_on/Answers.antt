use Rattle.std.proofs.Common.{◌≡◌, [], ◌∷◌, ◌++◌, sym, subst}
use Rattle.stl_text.specs.FacetRun.{IsFacetRun}
use Rattle.stl_text.proofs.lemmas.FacetRuns.{run_facet, run_solid}
use Rattle.stl_text.proofs.facet_run.run_on.Goals as goal

pub returns-in-Ok-clause-run : goal.returns-in-Ok-clause-run
returns-in-Ok-clause-run g c = λ text from run.
    let is : c.push.new.self.items ≡ c.args.facets.now.items ++ c.in-Some.found.0 ∷ [] = c.in-Ok.ensures.items in
    subst (λ facets. IsFacetRun c.args.unit text facets from c.in-Some.found.1.now) (sym is)
    (run_facet c.args.unit text c.args.facets.now.items c.in-Some.found.0 from c.args.to.now c.in-Some.found.1.now run c.in-Some.ensures.read c.in-Some.ensures.some)

pub returns-clause-run : goal.returns-clause-run
returns-clause-run g c = λ text from run.
    run_solid c.args.unit text c.args.facets.now.items from c.args.to.now c.in_ok-rest.rest.now run (c.in_ok-rest.ensures.read c.args.unit) c.in_ok-rest.ensures.some

pub returns-in-Ok-clause-left : goal.returns-in-Ok-clause-left
returns-in-Ok-clause-left g c = c.if-rest-left.false

pub returns-in-Err-clause-none : goal.returns-in-Err-clause-none
returns-in-Err-clause-none g c = λ _. c.in-Err.ensures.items

pub returns-in-Ok-clause-shorter : goal.returns-in-Ok-clause-shorter
returns-in-Ok-clause-shorter g c = c.in-Some.ensures.shorter
