use Rattle.std.proofs.Common.{◌∙◌, sym}
use Rattle.mesh_reading.proofs.lemmas.Faults.{passed_on}
use Rattle.stlslice.proofs.running.grid_for.Goals as goal

pub returns : goal.returns
returns g c = record {
  ok = rw c.placing_of.ensures at (sym c.grid.ensures ∙ c.in_ok-grid.was);
  err = tt;
}

pub returns-in_err-grid-clause-err : goal.returns-in_err-grid-clause-err
returns-in_err-grid-clause-err g c =
    passed_on c.from_residual.result _ _
    (λ f is. (c.in_err-grid.field-0.0, is, rw c.placing_of.ensures at (sym c.grid.ensures ∙ c.in_err-grid.was))) c.from_residual.ensures.1
