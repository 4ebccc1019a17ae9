use Rattle.std.proofs.Common.{◌≡◌, ℕ, List, [], rules, subst, sym, arith}
use Rattle.std.specs.Prelude.{IfErr, IfOk}
use Rattle.geometry.specs.declared.limits.TheConstants.{FACET_LIMIT}
use Rattle.stl_text.specs.TextReader.{IsAfter, TextReader}
use Rattle.stl_text.specs.declared.stl_fault.StlFault.TheVariants as stl
use Rattle.layer_session.specs.SessionReader.{IsFed, SessionReader}
use Rattle.layer_session.specs.Session.{IsOpenFault, IsSessionOf, of_text}
use Rattle.layer_session.specs.declared.setup.Setup.{Setup}
use Rattle.layer_session.proofs.session_reader.SessionReader.finish.Goals as goal

-- what was fed, by the parts of the reader
inside : (s : Setup) (p : TextReader) (reading : SessionReader) (setup : Setup) (fed : List ℕ) → record { setup = s; reader = p } ≡ reading
    → IsFed setup reading fed → (s ≡ setup) × IsAfter FACET_LIMIT s.unit [] p fed
inside s p reading setup fed e is =
    let here : IsFed setup (record { setup = s; reader = p }) fed = subst (λ r. IsFed setup r fed) (sym e) is in
    (here.with_setup, subst (λ (q : Setup). IsAfter FACET_LIMIT q.unit [] p fed) (sym here.with_setup) here.after)

pub of_facets-requires-clause-few : goal.of_facets-requires-clause-few
of_facets-requires-clause-few g c =
    let reads = c.in_ok-facets.ensures.found FACET_LIMIT c.self.inside.setup.unit [] c.self.invariant.0 c.self.invariant.1.after in
    let few = reads.few in
    grind (arith, few)

pub returns-in_err-facets-clause-fault : goal.returns-in_err-facets-clause-fault
returns-in_err-facets-clause-fault g c = λ setup fed is.
    let h = inside c.self.inside.setup c.self.inside.reader c.args.self setup fed c.self.view_is is in
    subst (λ (s : Setup). IfErr c.from_residual-in_err-facets.result (IsOpenFault s (of_text fed))) h.0 (
    let fault = c.in_err-facets.ensures.fault FACET_LIMIT c.self.inside.setup.unit [] fed h.1 in
    search rules)

pub returns-in_err-facets-clause-only : goal.returns-in_err-facets-clause-only
returns-in_err-facets-clause-only g c = λ setup fed is session made.
    let h = inside c.self.inside.setup c.self.inside.reader c.args.self setup fed c.self.view_is is in
    let own : IsSessionOf c.self.inside.setup (of_text fed) session = subst (λ (s : Setup). IsSessionOf s (of_text fed) session) (sym h.0) made in
    let cause : c.in_err-facets.field-0.0 ≡ stl.Memory =
    c.in_err-facets.ensures.only FACET_LIMIT c.self.inside.setup.unit [] fed h.1 own.facets own.reads in
    search rules

pub returns-clause-found : goal.returns-clause-found
returns-clause-found g c = λ setup fed is.
    let h = inside c.self.inside.setup c.self.inside.reader c.args.self setup fed c.self.view_is is in
    subst (λ (s : Setup). IfOk c.of_facets.result (IsSessionOf s (of_text fed))) h.0
    (c.of_facets.ensures.found (of_text fed) (c.in_ok-facets.ensures.found FACET_LIMIT c.self.inside.setup.unit [] fed h.1))

pub returns-clause-fault : goal.returns-clause-fault
returns-clause-fault g c = λ setup fed is.
    let h = inside c.self.inside.setup c.self.inside.reader c.args.self setup fed c.self.view_is is in
    subst (λ (s : Setup). IfErr c.of_facets.result (IsOpenFault s (of_text fed))) h.0
    (c.of_facets.ensures.fault (of_text fed) (c.in_ok-facets.ensures.found FACET_LIMIT c.self.inside.setup.unit [] fed h.1))

pub returns-clause-only : goal.returns-clause-only
returns-clause-only g c = λ setup fed is session made.
    let h = inside c.self.inside.setup c.self.inside.reader c.args.self setup fed c.self.view_is is in
    let own : IsSessionOf c.self.inside.setup (of_text fed) session = subst (λ (s : Setup). IsSessionOf s (of_text fed) session) (sym h.0) made in
    c.of_facets.ensures.only (of_text fed) session (c.in_ok-facets.ensures.found FACET_LIMIT c.self.inside.setup.unit [] fed h.1) own
