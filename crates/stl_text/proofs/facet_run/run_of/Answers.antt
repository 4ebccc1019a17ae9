use Rattle.stl_text.proofs.lemmas.FacetRuns.{run_begun}
use Rattle.stl_text.proofs.facet_run.run_of.Goals as goal

pub run-init : goal.run-init
run-init g c = rw c.new-facets.ensures.items (run_begun c.args.unit c.args.text.now c.after_end_facet-from.result.now c.after_end_facet-from.ensures)

pub run-preserved : goal.run-preserved
run-preserved g c = c.in-Some.ensures.run c.args.text.now c.after_end_facet-from.result.now c.run.invariant

pub returns : goal.returns
returns g c = rw c.in_default.ensures.none c.run.invariant
