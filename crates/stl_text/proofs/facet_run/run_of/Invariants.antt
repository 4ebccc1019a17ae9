use Rattle.std.proofs.Common.{length}
use Rattle.stl_text.specs.FacetRun.{IsFacetRun}
use Rattle.stl_text.proofs.facet_run.run_of.Given as goal

abbrev pub invariant-run : goal.invariant-run
invariant-run g l = IsFacetRun l.fn.unit l.fn.text l.facets.items l.from l.to

abbrev pub decreases-run : goal.decreases-run
decreases-run g l = length l.to
