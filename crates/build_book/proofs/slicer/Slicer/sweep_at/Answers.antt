use Rattle.std.proofs.Common.{◌≡◌, ◌∙◌, ◌<◌, ℕ, ℤ, ap, sym, subst}
use Rattle.std.proofs.lemmas.Option.{none-some}
use Rattle.std.proofs.lemmas.Result.{IfOk-weaker}
use Rattle.geometry.specs.declared.limits.TheConstants.{CENTRE_LIMIT}
use Rattle.exact_int.specs.Bounds.{IsAtMost}
use Rattle.raster.specs.Grid.{Grid, plane}
use Rattle.build_book.specs.Job.{Job}
use Rattle.build_book.proofs.lemmas.Stripes.{plane_kept}
use Rattle.build_book.proofs.slicer.Slicer.sweep_at.Goals as goal

-- the plane of layer k in a grid that goes by another name
plane_is : (job now : Job) (grid : Grid) (k : ℕ) (z : ℤ) → z ≡ plane grid k → grid ≡ job.grid → job ≡ now → z ≡ plane now.grid k
plane_is job now grid k z at same is = at ∙ ap (λ (w : Grid). plane w k) (same ∙ ap (λ (w : Job). w.grid) is)

pub plane-height-requires : goal.plane-height-requires
plane-height-requires g c = subst (λ (w : Grid). c.args.k < w.layers) (sym (c.grid.ensures ∙ ap (λ (w : Job). w.grid) c.self.view_is)) c.requires

pub advance-requires-clause-height : goal.advance-requires-clause-height
advance-requires-clause-height g c κs within =
    subst (IsAtMost CENTRE_LIMIT) (sym (plane_kept c.plane-height.result c.plane-height.ensures.within)) c.plane-height.ensures.within

pub invariant_of-self : goal.invariant_of-self
invariant_of-self g c = λ sweep there. absurd (none-some sweep (sym c.take.ensures.after ∙ there))

pub returns-in_err-advance-clause-kept : goal.returns-in_err-advance-clause-kept
returns-in_err-advance-clause-kept g c = c.self.view_is

pub invariant_of-self-then-height : goal.invariant_of-self-then-height
invariant_of-self-then-height g c = λ sweep there. absurd (none-some sweep (sym c.take.ensures.after ∙ there))

pub returns-then-height-clause-solid : goal.returns-then-height-clause-solid
returns-then-height-clause-solid g c =
    c.in_ok-advance.ensures.mesh ∙ c.self.invariant c.in-Some.sweep (sym c.take.ensures.value ∙ c.in-Some.is)
    ∙ ap (λ (w : Job). w.solid.facets) c.self.view_is

pub returns-then-height-clause-height : goal.returns-then-height-clause-height
returns-then-height-clause-height g c =
    c.in_ok-advance.ensures.at ∙ plane_kept c.plane-height.result c.plane-height.ensures.within
    ∙ plane_is c.self.inside.job.now c.args.self.now c.grid.result.now c.args.k c.plane-height.result c.plane-height.ensures.value c.grid.ensures c.self.view_is

pub returns-then-height-clause-kept : goal.returns-then-height-clause-kept
returns-then-height-clause-kept g c = c.self.view_is

pub start-requires-after_bounds : goal.start-requires-after_bounds
start-requires-after_bounds g c κs within =
    subst (IsAtMost CENTRE_LIMIT) (sym (plane_kept c.plane-height.result c.plane-height.ensures.within)) c.plane-height.ensures.within

pub invariant_of-self-2 : goal.invariant_of-self-2
invariant_of-self-2 g c = λ sweep there. absurd (none-some sweep (sym c.take.ensures.after ∙ there))

pub returns-clause-solid : goal.returns-clause-solid
returns-clause-solid g c =
    IfOk-weaker c.start.result (λ sweep. sweep.facets ≡ c.solid.result.now.facets) (λ sweep. sweep.facets ≡ c.args.self.now.solid.facets)
    (λ sweep same. same ∙ ap (λ s. s.facets) c.solid.ensures ∙ ap (λ (w : Job). w.solid.facets) c.self.view_is) c.start.ensures.mesh

pub returns-clause-height : goal.returns-clause-height
returns-clause-height g c =
    IfOk-weaker c.start.result _ (λ sweep. sweep.height ≡ plane c.args.self.now.grid c.args.k)
    (λ sweep at. at ∙ plane_kept c.plane-height.result c.plane-height.ensures.within
    ∙ plane_is c.self.inside.job.now c.args.self.now c.grid.result.now c.args.k c.plane-height.result c.plane-height.ensures.value c.grid.ensures c.self.view_is)
    c.start.ensures.at

pub returns-clause-kept : goal.returns-clause-kept
returns-clause-kept g c = c.self.view_is
