-- What a handle's mesh answers, at the handle and the values that C gives.
use Rattle.std.proofs.Common.{◌≡◌, ℕ, List, Some, None, refl, subst}
use Rattle.build_book.specs.Job.{Job}
use Rattle.layer_session.specs.Session.{Input, Session}
use Rattle.stlslice_c.specs.Calls.{IsAsked}
use Rattle.stlslice_c.specs.Answers.{IsOpening}
use Rattle.stlslice_c.specs.declared.options.Options.{Options}
use Rattle.stlslice_c.specs.declared.shape.Shape.{Shape}
use Rattle.stlslice_c.specs.declared.handle.Handle.{Handle}
use Rattle.stlslice_c.specs.declared.status.TheConstants.{NOT_OPEN}

pub asked_at : {X : Type 0} {given handle : Handle} {was x : X} (status : ℕ) (P : Job → X → Type 0) (S : X → Type 0) → given ≡ handle → was ≡ x
    → ((session : Session) → given.mesh.session ≡ Some session → P session.job was) → (given.mesh.session ≡ None → (status ≡ NOT_OPEN) × S was)
    → IsAsked handle status (λ job. P job x) (S x)
asked_at {given = given} {x = x} status P S e f opened closed =
    subst (λ (h : Handle). IsAsked h status (λ job. P job x) (S x)) e (subst (λ z. IsAsked given status (λ job. P job z) (S z)) f (opened, closed))

pub pairs : {X Y : Type 0} {a b : X} {c d : Y} → a ≡ b → c ≡ d → ◌≡◌ {A = X × Y} (a, c) (b, d)
pairs {X} {Y} {a} {b} {c} {d} e f = subst (λ (z : Y). ◌≡◌ {A = X × Y} (a, c) (b, z)) f (subst (λ (z : X). ◌≡◌ {A = X × Y} (a, c) (z, c)) e refl)

pub opened_at : {o p : Options} {held handle : Handle} {was shape : Shape} (input : Input) (holds : Handle) (is : Shape) (line new : List ℕ) (status : ℕ)
    → o ≡ p → held ≡ handle → was ≡ shape → IsOpening o input held.mesh.session holds.mesh.session was is line new status
    → IsOpening p input handle.mesh.session holds.mesh.session shape is line new status
opened_at {p = p} {held = held} {handle = handle} {was = was} input holds is line new status d e f opening =
    subst (λ (s : Shape). IsOpening p input handle.mesh.session holds.mesh.session s is line new status) f
    (subst (λ (h : Handle). IsOpening p input h.mesh.session holds.mesh.session was is line new status) e
    (subst (λ (q : Options). IsOpening q input held.mesh.session holds.mesh.session was is line new status) d opening))
