use Rattle.std.proofs.Common.{◌≡◌, rules}
use Rattle.mesh_arrays.specs.declared.array_fault.ArrayFault.TheVariants as arrays
use Rattle.layer_session.specs.Session.{of_arrays}
use Rattle.layer_session.proofs.session.Session.open_mesh.Goals as goal

pub returns-in_err-facets-clause-only : goal.returns-in_err-facets-clause-only
returns-in_err-facets-clause-only g c = λ session is.
    let cause : c.in_err-facets.field-0.0 ≡ arrays.Memory = c.in_err-facets.ensures.only is.facets is.reads in
    search rules

pub returns-clause-only : goal.returns-clause-only
returns-clause-only g c = λ session is.
    c.of_facets.ensures.only (of_arrays c.args.points.now c.args.triangles.now) session c.in_ok-facets.ensures.found is
