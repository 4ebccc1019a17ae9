use Rattle.std.proofs.Common.{◌∙◌, ap}
use Rattle.mesh_reading.proofs.lemmas.Faults.{passed_on}
use Rattle.stlslice.specs.RunFault.{of_read}
use Rattle.stlslice.proofs.loading.load.Goals as goal

pub returns-in_err-load-clause-fault : goal.returns-in_err-load-clause-fault
returns-in_err-load-clause-fault g c =
    passed_on c.from_residual.result _ _
    (λ f is. (c.in_err-load.field-0.0, is, c.in_err-load.ensures.err)) c.from_residual.ensures.1

pub returns-in_err-load-clause-only : goal.returns-in_err-load-clause-only
returns-in_err-load-clause-only g c = λ facets reads closed.
    passed_on c.from_residual.result _ _ (λ f is. is ∙ ap of_read (c.in_err-load.ensures.only facets reads closed)) c.from_residual.ensures.1

pub returns : goal.returns
returns g c = record {
  ok = c.in_ok-load.ensures.ok;
  fault = tt;
  only = λ facets reads closed. tt;
}
