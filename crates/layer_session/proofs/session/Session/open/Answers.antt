use Rattle.std.proofs.Common.{◌≡◌, rules}
use Rattle.layer_session.specs.Session.{of_file}
use Rattle.layer_session.specs.Setup.{HasSteps}
use Rattle.layer_session.specs.declared.session_fault.SessionFault.TheVariants as fault
use Rattle.layer_session.proofs.lemmas.Inputs.{file_fault}
use Rattle.layer_session.proofs.session.Session.open.Goals as goal

pub returns-in_err-facets-clause-fault : goal.returns-in_err-facets-clause-fault
returns-in_err-facets-clause-fault g c =
    let range : HasSteps c.args.setup.now = search rules in
    let told = file_fault c.args.setup.now c.args.bytes.now c.in_err-facets.field-0.0 range c.in_err-facets.ensures.fault in
    search rules

pub returns-in_err-facets-clause-only : goal.returns-in_err-facets-clause-only
returns-in_err-facets-clause-only g c = λ session is.
    let cause : c.in_err-facets.field-0.0 ≡ fault.Memory = c.in_err-facets.ensures.only is.facets is.reads in
    search rules

pub returns-clause-only : goal.returns-clause-only
returns-clause-only g c = λ session is. c.of_facets.ensures.only (of_file c.args.bytes.now) session c.in_ok-facets.ensures.found is
