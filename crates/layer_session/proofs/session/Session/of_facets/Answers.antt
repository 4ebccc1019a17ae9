use Rattle.std.proofs.Common.{◌≡◌, subst, rules}
use Rattle.geometry.specs.Facet.{Facet}
use Rattle.mesh_weld.specs.Balance.{IsBalanced}
use Rattle.mesh_weld.specs.Solid.{Solid, solid_of}
use Rattle.std.specs.Prelude.{List}
use Rattle.layer_session.specs.Place.{IsGridAt, IsInReach, IsNoGridAt, placed}
use Rattle.layer_session.specs.Session.{IsOpenFault}
use Rattle.layer_session.specs.declared.session_fault.SessionFault.TheVariants as fault
use Rattle.layer_session.proofs.lemmas.Inputs.{one_reading}
use Rattle.layer_session.proofs.lemmas.Placed.{grid-and-fault-at}
use Rattle.layer_session.proofs.lemmas.Told.{memory-or-no-solid-told, no-grid-told}
use Rattle.layer_session.proofs.session.Session.of_facets.Goals as goal

pub returns-in_err-solid-clause-fault : goal.returns-in_err-solid-clause-fault
returns-in_err-solid-clause-fault g c = λ input reads.
    let told : IsOpenFault c.args.setup.now input c.in_err-solid.field-0.0 =
    memory-or-no-solid-told c.args.setup.now input c.args.facets.items c.in_err-solid.field-0.0 c.requires.range reads c.in_err-solid.ensures.fault in
    search rules

pub returns-in_err-solid-clause-only : goal.returns-in_err-solid-clause-only
returns-in_err-solid-clause-only g c = λ input session reads is.
    let same : is.facets ≡ c.args.facets.items = one_reading c.args.setup.now input is.facets c.args.facets.items is.reads reads in
    let cause : c.in_err-solid.field-0.0 ≡ fault.Memory =
    c.in_err-solid.ensures.only (subst (λ (x : List Facet). IsInReach c.args.setup.now.place x) same is.reach)
    (subst (λ (x : List Facet). IsBalanced (placed c.args.setup.now.place x)) same is.closed) in
    search rules

pub returns-in_err-grid-clause-fault : goal.returns-in_err-grid-clause-fault
returns-in_err-grid-clause-fault g c = λ input reads.
    let told : IsOpenFault c.args.setup.now input c.in_err-grid.field-0.0 =
    no-grid-told c.args.setup.now input c.args.facets.items c.in_err-grid.field-0.0 c.requires.range reads c.in_ok-solid.ensures.reach c.in_ok-solid.ensures.closed
    (subst (λ (x : Solid). IsNoGridAt c.args.setup.now.place c.args.setup.now.layer x.facets c.in_err-grid.field-0.0) c.in_ok-solid.ensures.solid c.in_err-grid.ensures.fault) in
    search rules

pub returns-in_err-grid-clause-only : goal.returns-in_err-grid-clause-only
returns-in_err-grid-clause-only g c = λ input session reads is.
    let same : is.facets ≡ c.args.facets.items = one_reading c.args.setup.now input is.facets c.args.facets.items is.reads reads in
    let place = c.args.setup.now.place in
    let layer = c.args.setup.now.layer in
    let grid : IsGridAt place layer (solid_of (placed place c.args.facets.items)).facets session.job.grid =
    subst (λ (x : List Facet). IsGridAt place layer (solid_of (placed place x)).facets session.job.grid) same is.grid in
    absurd
    (grid-and-fault-at place layer (solid_of (placed place c.args.facets.items)).facets session.job.grid c.in_err-grid.field-0.0 grid
    (subst (λ (x : Solid). IsNoGridAt place layer x.facets c.in_err-grid.field-0.0) c.in_ok-solid.ensures.solid c.in_err-grid.ensures.fault))

pub returns-clause-found : goal.returns-clause-found
returns-clause-found g c = λ input reads.
    record {
      facets = c.args.facets.items;
      range = c.requires.range;
      reads = reads;
      reach = c.in_ok-solid.ensures.reach;
      closed = c.in_ok-solid.ensures.closed;
      solid = search rules;
      grid = search rules;
      rule = search rules;
      count = search rules;
      bounds = search rules;
      times = search rules;
    }
