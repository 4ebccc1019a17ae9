-- A setup and an input have one answer.
use Rattle.std.proofs.Common.{◌≡◌, ◌∙◌, ◌⊎◌, List, ap, inl, inr, length, refl, subst, sym}
use Rattle.std.specs.Prelude.{Err, Ok, Result}
use Rattle.geometry.specs.BoundingBox.{extent}
use Rattle.geometry.specs.Point.{Point}
use Rattle.geometry.specs.Facet.{Facet}
use Rattle.mesh_weld.specs.Balance.{HasOpenEdge, IsBalanced, IsLeastOpen}
use Rattle.mesh_weld.specs.Solid.{solid_of}
use Rattle.mesh_weld.specs.declared.weld_fault.WeldFault.TheVariants as weld
use Rattle.mesh_weld.proofs.lemmas.LeastOpen.{closed_or_open}
use Rattle.raster.specs.Grid.{Grid}
use Rattle.part_on_screen.specs.declared.screen_fault.ScreenFault.TheVariants.{OutOfRange}
use Rattle.layer_session.specs.declared.setup.Setup.{Setup}
use Rattle.layer_session.specs.declared.session_fault.SessionFault.{SessionFault}
use Rattle.layer_session.specs.declared.session_fault.SessionFault.TheVariants as fault
use Rattle.layer_session.specs.Place.{IsGridAt, IsInReach, IsNoGridAt, IsNoSolidAt, placed, point_placed, times_of}
use Rattle.layer_session.specs.Session.{Input, IsAnswer, IsReadAs, IsSessionOf, Session}
use Rattle.layer_session.specs.Setup.{HasSteps}
use Rattle.layer_session.proofs.lemmas.Inputs.{IsRefused, not_both, one_reading, one_refusal, some_reading}
use Rattle.layer_session.proofs.lemmas.Placed.{grid-and-fault-at, one-fault-at, one-grid-at, one-no-solid, open-ends, pitch-or-not, reach-or-not-at, solid-and-fault, some-grid-at}
use Rattle.part_on_screen.proofs.lemmas.Decided.{OrNot, both, step-or-not}
use Rattle.layer_session.proofs.lemmas.Told.{no-grid-told, not-memory}

abbrev Answer : Type 0
Answer = Result Session SessionFault

-- ---- what closed facets make
abbrev session_with : Setup → List Facet → Grid → Session
session_with setup facets g = record {
  job = record { solid = solid_of (placed setup.place facets); grid = g; rule = setup.rule };
  facet_count = length facets;
  bounds = extent facets;
  times = times_of setup.place;
}

abbrev kept : Setup → List Facet → List Facet
kept setup facets = (solid_of (placed setup.place facets)).facets

-- ---- an answer by the order of the checks
abbrev OfSolid : Setup → List Facet → Answer → Type 0
OfSolid setup facets answer =
    ((g : Grid) × IsGridAt setup.place setup.layer (kept setup facets) g × (answer ≡ Ok (session_with setup facets g)))
    ⊎ ((f : SessionFault) × IsNoGridAt setup.place setup.layer (kept setup facets) f × (answer ≡ Err f))

abbrev OfMesh : Setup → List Facet → Answer → Type 0
OfMesh setup facets answer =
    (IsInReach setup.place facets × IsBalanced (placed setup.place facets) × OfSolid setup facets answer)
    ⊎ ((f : SessionFault) × IsNoSolidAt setup.place facets f × (answer ≡ Err f))

abbrev OfInput : Setup → Input → Answer → Type 0
OfInput setup input answer =
    ((f : SessionFault) × IsRefused setup input f × (answer ≡ Err f))
    ⊎ ((facets : List Facet) × IsReadAs setup input facets × OfMesh setup facets answer)

abbrev OfSetup : Setup → Input → Answer → Type 0
OfSetup setup input answer = ((HasSteps setup → ⊥) × (answer ≡ Err fault.Step)) ⊎ (HasSteps setup × OfInput setup input answer)

of_session : (setup : Setup) (input : Input) (session : Session) (is : IsSessionOf setup input session) → session ≡ session_with setup is.facets session.job.grid
of_session setup input session is =
    λ i. record {
      job = record { solid = is.solid i; grid = session.job.grid; rule = is.rule i };
      facet_count = is.count i;
      bounds = is.bounds i;
      times = is.times i;
    }

by_checks : (setup : Setup) (input : Input) (answer : Answer) → IsAnswer setup input answer → OfSetup setup input answer
by_checks setup input (Ok session) is =
    inr (is.range, inr (is.facets, is.reads, inl (is.reach, is.closed, inl (session.job.grid, is.grid, ap (λ (x : Session). Ok x) (of_session setup input session is)))))
by_checks setup input (Err fault.Step) (apart, is) = inl (is, refl)
by_checks setup input (Err (fault.Stl cause)) (apart, (range, is)) = inr (range, inl (fault.Stl cause, inl (cause, is, refl), refl))
by_checks setup input (Err (fault.Binary cause)) (apart, (range, is)) = inr (range, inl (fault.Binary cause, inr (inl (cause, is, refl)), refl))
by_checks setup input (Err (fault.Arrays cause)) (apart, (range, is)) = inr (range, inl (fault.Arrays cause, inr (inr (cause, is, refl)), refl))
by_checks setup input (Err (fault.Weld cause)) (apart, (range, (facets, reads, bad))) = inr (range, inr (facets, reads, inr (fault.Weld cause, bad, refl)))
by_checks setup input (Err (fault.Grid cause)) (apart, (range, (facets, reads, reach, closed, bad))) =
    inr (range, inr (facets, reads, inl (reach, closed, inr (fault.Grid cause, bad, refl))))
by_checks setup input (Err (fault.Screen cause)) (apart, (range, inl (facets, reads, bad))) = inr (range, inr (facets, reads, inr (fault.Screen cause, bad, refl)))
by_checks setup input (Err (fault.Screen cause)) (apart, (range, inr (facets, reads, reach, closed, bad))) =
    inr (range, inr (facets, reads, inl (reach, closed, inr (fault.Screen cause, bad, refl))))
by_checks setup input (Err fault.Memory) (apart, is) = absurd (apart refl)
by_checks setup input (Err (fault.Outside columns rows layers)) (apart, is) = absurd is

-- ---- no two answers
one_of_solid : (setup : Setup) (facets : List Facet) (answer other : Answer) → OfSolid setup facets answer → OfSolid setup facets other → answer ≡ other
one_of_solid setup facets answer other (inl (g, is, e)) (inl (h, js, k)) =
    e ∙ ap (λ (x : Grid). Ok (session_with setup facets x)) (one-grid-at setup.place setup.layer (kept setup facets) g h is js) ∙ sym k
one_of_solid setup facets answer other (inl (g, is, e)) (inr (f, bad, k)) = absurd (grid-and-fault-at setup.place setup.layer (kept setup facets) g f is bad)
one_of_solid setup facets answer other (inr (f, bad, e)) (inl (g, is, k)) = absurd (grid-and-fault-at setup.place setup.layer (kept setup facets) g f is bad)
one_of_solid setup facets answer other (inr (f, bad, e)) (inr (f', bad', k)) =
    e ∙ ap (λ (x : SessionFault). Err x) (one-fault-at setup.place setup.layer (kept setup facets) f f' bad bad') ∙ sym k

one_of_mesh : (setup : Setup) (facets : List Facet) (answer other : Answer) → HasSteps setup → OfMesh setup facets answer → OfMesh setup facets other → answer ≡ other
one_of_mesh setup facets answer other steps (inl (reach, closed, m)) (inl (reach', closed', n)) = one_of_solid setup facets answer other m n
one_of_mesh setup facets answer other steps (inl (reach, closed, m)) (inr (f, bad, e)) = absurd (solid-and-fault setup.place facets f reach closed bad)
one_of_mesh setup facets answer other steps (inr (f, bad, e)) (inl (reach, closed, m)) = absurd (solid-and-fault setup.place facets f reach closed bad)
one_of_mesh setup facets answer other steps (inr (f, bad, e)) (inr (f', bad', k)) =
    e ∙ ap (λ (x : SessionFault). Err x) (one-no-solid setup.place facets f f' steps.1 bad bad') ∙ sym k

one_of_input : (setup : Setup) (input : Input) (answer other : Answer) → HasSteps setup → OfInput setup input answer → OfInput setup input other → answer ≡ other
one_of_input setup input answer other steps (inl (cause, f, is)) (inl (cause', g, js)) =
    is ∙ ap (λ (x : SessionFault). Err x) (one_refusal setup input cause cause' f g) ∙ sym js
one_of_input setup input answer other steps (inl (cause, f, is)) (inr (facets, reads, m)) = absurd (not_both setup input facets cause reads f)
one_of_input setup input answer other steps (inr (facets, reads, m)) (inl (cause, f, is)) = absurd (not_both setup input facets cause reads f)
one_of_input setup input answer other steps (inr (facets, reads, m)) (inr (facets', reads', n)) =
    let same : facets ≡ facets' = one_reading setup input facets facets' reads reads' in
    one_of_mesh setup facets' answer other steps (subst (λ (x : List Facet). OfMesh setup x answer) same m) n

one_of_setup : (setup : Setup) (input : Input) (answer other : Answer) → OfSetup setup input answer → OfSetup setup input other → answer ≡ other
one_of_setup setup input answer other (inl (out, is)) (inl (out', js)) = is ∙ sym js
one_of_setup setup input answer other (inl (out, is)) (inr (range, t)) = absurd (out range)
one_of_setup setup input answer other (inr (range, t)) (inl (out, is)) = absurd (out range)
one_of_setup setup input answer other (inr (range, t)) (inr (range', u)) = one_of_input setup input answer other range t u

pub one_answer : (setup : Setup) (input : Input) (answer other : Answer) → IsAnswer setup input answer → IsAnswer setup input other → answer ≡ other
one_answer setup input answer other is js =
    one_of_setup setup input answer other (by_checks setup input answer is) (by_checks setup input other js)

-- ---- the same answer to inputs that are read as the same facets
abbrev OfFacets : Setup → List Facet → Answer → Type 0
OfFacets setup facets answer = ((HasSteps setup → ⊥) × (answer ≡ Err fault.Step)) ⊎ (HasSteps setup × OfMesh setup facets answer)

of_facets : (setup : Setup) (input : Input) (facets : List Facet) (answer : Answer) → IsReadAs setup input facets → OfSetup setup input answer → OfFacets setup facets answer
of_facets setup input facets answer reads (inl h) = inl h
of_facets setup input facets answer reads (inr (range, inl (cause, f, is))) = absurd (not_both setup input facets cause reads f)
of_facets setup input facets answer reads (inr (range, inr (others, reads', m))) =
    let same : others ≡ facets = one_reading setup input others facets reads' reads in
    inr (range, subst (λ (x : List Facet). OfMesh setup x answer) same m)

one_of_facets : (setup : Setup) (facets : List Facet) (answer other : Answer) → OfFacets setup facets answer → OfFacets setup facets other → answer ≡ other
one_of_facets setup facets answer other (inl (out, is)) (inl (out', js)) = is ∙ sym js
one_of_facets setup facets answer other (inl (out, is)) (inr (range, m)) = absurd (out range)
one_of_facets setup facets answer other (inr (range, m)) (inl (out, is)) = absurd (out range)
one_of_facets setup facets answer other (inr (range, m)) (inr (range', n)) = one_of_mesh setup facets answer other range m n

pub same_answer : (setup : Setup) (input another : Input) (facets : List Facet) (answer other : Answer) → IsReadAs setup input facets → IsReadAs setup another facets
    → IsAnswer setup input answer → IsAnswer setup another other → answer ≡ other
same_answer setup input another facets answer other reads reads' is js =
    one_of_facets setup facets answer other
    (of_facets setup input facets answer reads (by_checks setup input answer is))
    (of_facets setup another facets other reads' (by_checks setup another other js))

-- ---- some answer
in_range : (setup : Setup) → OrNot (HasSteps setup)
in_range setup = both (step-or-not setup.layer) (pitch-or-not setup.place)

pub an_answer : (setup : Setup) (input : Input) → (answer : Answer) × IsAnswer setup input answer
an_answer setup input = by_setup (in_range setup)
  where
    An : Type 0
    An = (answer : Answer) × IsAnswer setup input answer

    by_grid : HasSteps setup → (facets : List Facet) → IsReadAs setup input facets → IsInReach setup.place facets → IsBalanced (placed setup.place facets)
        → ((g : Grid) × IsGridAt setup.place setup.layer (kept setup facets) g) ⊎ ((f : SessionFault) × IsNoGridAt setup.place setup.layer (kept setup facets) f) → An
    by_grid range facets reads reach closed (inl (g, is)) = (
      Ok (session_with setup facets g),
      record {
        facets = facets;
        range = range;
        reads = reads;
        reach = reach;
        closed = closed;
        solid = refl;
        grid = is;
        rule = refl;
        count = refl;
        bounds = refl;
        times = refl;
      },
    )
    by_grid range facets reads reach closed (inr (f, bad)) = (
      Err f,
      (not-memory setup.place setup.layer (kept setup facets) f bad, no-grid-told setup input facets f range reads reach closed bad),
    )

    by_mesh : HasSteps setup → (facets : List Facet) → IsReadAs setup input facets → IsInReach setup.place facets
        → IsBalanced (placed setup.place facets) ⊎ HasOpenEdge (placed setup.place facets) → An
    by_mesh range facets reads reach (inl closed) = by_grid range facets reads reach closed (some-grid-at setup.place setup.layer (kept setup facets) range.0)
    by_mesh range facets reads reach (inr (u, v, there, back, o)) =
        let ends = open-ends setup.place facets u v there back o in
        let own : IsLeastOpen (placed setup.place facets) (point_placed setup.place ends.0.0) (point_placed setup.place ends.1.0) there back =
        subst (λ (x : Point). IsLeastOpen (placed setup.place facets) x (point_placed setup.place ends.1.0) there back) (sym ends.0.1)
        (subst (λ (x : Point). IsLeastOpen (placed setup.place facets) u x there back) (sym ends.1.1) o) in (
          Err (fault.Weld (weld.Open ends.0.0 ends.1.0 there back)),
          ((λ h. cc), (range, (facets, reads, inr (reach, (ends.0.0, ends.1.0, there, back, refl, own))))),
        )

    by_reach : HasSteps setup → (facets : List Facet) → IsReadAs setup input facets → OrNot (IsInReach setup.place facets) → An
    by_reach range facets reads (inl reach) = by_mesh range facets reads reach (closed_or_open (placed setup.place facets))
    by_reach range facets reads (inr out) = (Err (fault.Screen OutOfRange), ((λ h. cc), (range, inl (facets, reads, inl (refl, out)))))

    by_fault : HasSteps setup → (f : SessionFault) → IsRefused setup input f → An
    by_fault range f (inl (cause, h, is)) = (Err (fault.Stl cause), ((λ k. cc), (range, h)))
    by_fault range f (inr (inl (cause, h, is))) = (Err (fault.Binary cause), ((λ k. cc), (range, h)))
    by_fault range f (inr (inr (cause, h, is))) = (Err (fault.Arrays cause), ((λ k. cc), (range, h)))

    by_input : HasSteps setup → ((facets : List Facet) × IsReadAs setup input facets) ⊎ ((f : SessionFault) × IsRefused setup input f) → An
    by_input range (inl h) = by_reach range h.0 h.1 (reach-or-not-at setup.place h.0)
    by_input range (inr h) = by_fault range h.0 h.1

    by_setup : OrNot (HasSteps setup) → An
    by_setup (inl range) = by_input range (some_reading setup input)
    by_setup (inr out) = (Err fault.Step, ((λ h. cc), out))
