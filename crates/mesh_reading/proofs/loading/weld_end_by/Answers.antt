use Rattle.mesh_reading.proofs.lemmas.Reading.{not_closed, not_welded}
use Rattle.mesh_reading.proofs.loading.weld_end_by.Goals as goal

pub returns-in_err-all : goal.returns-in_err-all
returns-in_err-all g c = λ unit taken fed welded is.
    let stopped = c.in_err-all.ensures unit taken fed welded is in
    not_welded unit fed c.from_residual.result c.in_err-all.field-0.0 c.from_residual.ensures.1 stopped.err stopped.only

pub returns-in_err-finish_by : goal.returns-in_err-finish_by
returns-in_err-finish_by g c = λ unit taken fed welded is.
    let found = (c.in_ok-all.ensures unit taken fed welded is).ok in
    not_closed unit fed found.0 c.from_residual-in_err-finish_by.result c.in_err-finish_by.field-0.0 c.from_residual-in_err-finish_by.ensures.1 found.1
    (c.in_err-finish_by.ensures.open found.0 found.2) (c.in_err-finish_by.ensures.only found.0 found.2)

pub returns : goal.returns
returns g c = λ unit taken fed welded is.
    let found = (c.in_ok-all.ensures unit taken fed welded is).ok in
    record {
      ok = (found.0, found.1, c.in_ok-finish_by.ensures.closed found.0 found.2, c.in_ok-finish_by.ensures.kept found.0 found.2);
      err = tt;
      only = λ facets reads closed. tt;
    }
