use Rattle.std.proofs.Common.{◌≡◌, ◌∙◌, ◌+◌, ◌*◌, ◌<◌, ◌≤◌, ℕ, List, Some, ap, arith, length, subst, sym}
use Rattle.contour.specs.Sweep.{Sweep}
use Rattle.raster.specs.Grid.{plane}
use Rattle.build_book.specs.Job.{Job, stripe_count, stripe_length}
use Rattle.build_book.specs.Layer.{Layer, AreLawfulFrom}
use Rattle.build_book.specs.Piece.{IsStripe, Piece}
use Rattle.build_book.specs.declared.limits.TheConstants.{STRIPE_LAYERS}
use Rattle.build_book.proofs.slicer.Slicer.slice.Goals as goal
use Rattle.build_book.proofs.slicer.Slicer.slice.Goals.{In_ok-layers}

-- the layers from the first of a stripe up to its end are that stripe, of a job that may go by two names
stripe_of : (job other : Job) (s first end : ℕ) (layers : List Layer) → other ≡ job → s < stripe_count job.grid → first ≡ STRIPE_LAYERS * s
    → end ≡ STRIPE_LAYERS * s + stripe_length other.grid s → first + length layers ≡ end → AreLawfulFrom job first layers → IsStripe job s layers
stripe_of job other s first end layers same within at last whole lawful = record {
  within = within;
  whole = all (length layers) first end (STRIPE_LAYERS * s) (stripe_length other.grid s) at last whole ∙ ap (λ (w : Job). stripe_length w.grid s) same;
  lawful = subst (λ n. AreLawfulFrom job n layers) at lawful;
}
  where
    all : (n first end start m : ℕ) → first ≡ start → end ≡ start + m → first + n ≡ end → n ≡ m
    all n first end start m at last whole = omega arith

-- of the job as it is when the sweep is there, and as it was at first
layers_of : (g : _) (c : In_ok-layers g) → IsStripe c.self-2.inside.job.now c.args.s c.in_ok-layers.layers.items
layers_of g c =
    let kept : c.self-2.inside.job.now ≡ c.args.self.now = c.self-2.view_is ∙ c.sweep_at.ensures.kept in
    stripe_of c.self-2.inside.job.now c.self.inside.job.now _ c.layer_range-first.result.0 c.layer_range-first.result.1 c.in_ok-layers.layers.items
    (c.self.view_is ∙ sym kept) (omega (arith, c.requires, ap (λ (w : Job). stripe_count w.grid) kept))
    c.layer_range-first.ensures.first c.layer_range-first.ensures.end c.in_ok-layers.ensures.whole c.in_ok-layers.ensures.lawful

pub layer_range-first-requires : goal.layer_range-first-requires
layer_range-first-requires g c = omega (arith, c.requires, ap (λ (w : Job). stripe_count w.grid) c.self.view_is)

pub sweep_at-requires-after_bounds : goal.sweep_at-requires-after_bounds
sweep_at-requires-after_bounds g c κs within =
    omega (arith, c.layer_range-first.ensures.some, c.layer_range-first.ensures.within, ap (λ (w : Job). w.grid.layers) c.self.view_is)

pub returns-in_err-sweep-clause-kept : goal.returns-in_err-sweep-clause-kept
returns-in_err-sweep-clause-kept g c = c.sweep_at.ensures.kept

pub slice_layers-requires-clause-some : goal.slice_layers-requires-clause-some
slice_layers-requires-clause-some g c κs within = c.layer_range-first.ensures.some

pub slice_layers-requires-clause-within : goal.slice_layers-requires-clause-within
slice_layers-requires-clause-within g c κs within =
    subst (λ (w : Job). c.layer_range-first.result.1 ≤ w.grid.layers) (c.self.view_is ∙ sym (c.self-2.view_is ∙ c.sweep_at.ensures.kept))
    c.layer_range-first.ensures.within

pub slice_layers-requires-clause-solid : goal.slice_layers-requires-clause-solid
slice_layers-requires-clause-solid g c κs within =
    c.in_ok-sweep.ensures.solid ∙ ap (λ (w : Job). w.solid.facets) (sym (c.self-2.view_is ∙ c.sweep_at.ensures.kept))

pub slice_layers-requires-clause-height : goal.slice_layers-requires-clause-height
slice_layers-requires-clause-height g c κs within =
    c.in_ok-sweep.ensures.height
    ∙ ap (λ (w : Job). plane w.grid c.layer_range-first.result.0) (sym (c.self-2.view_is ∙ c.sweep_at.ensures.kept))

pub invariant_of-self : goal.invariant_of-self
invariant_of-self g c = c.self-2.invariant

pub returns-in_err-layers-clause-kept : goal.returns-in_err-layers-clause-kept
returns-in_err-layers-clause-kept g c = c.self-2.view_is ∙ c.sweep_at.ensures.kept

pub of-requires : goal.of-requires
of-requires g c = layers_of g (goal.at.of-requires g c).In_ok-layers

pub returns-clause-job : goal.returns-clause-job
returns-clause-job g c = ap (λ (p : Piece). p.job) c.of.ensures ∙ c.self-2.view_is ∙ c.sweep_at.ensures.kept

pub returns-clause-stripe : goal.returns-clause-stripe
returns-clause-stripe g c = ap (λ (p : Piece). p.stripe) c.of.ensures

pub returns-clause-lawful : goal.returns-clause-lawful
returns-clause-lawful g c =
    subst (λ (p : Piece). IsStripe p.job p.stripe p.layers) (sym c.of.ensures) (layers_of g (goal.at.returns-clause-lawful g c).In_ok-layers)

pub returns-clause-kept : goal.returns-clause-kept
returns-clause-kept g c = c.self-2.view_is ∙ c.sweep_at.ensures.kept

same_inside : {X : Type 0} (a b : X) → Some a ≡ Some b → a ≡ b
same_inside a b e = cc

pub invariant_of-self-2 : goal.invariant_of-self-2
invariant_of-self-2 g c = λ sweep e.
    ap (λ (s : Sweep). s.facets) (sym (same_inside c.slice_layers.new.sweep sweep e)) ∙ c.slice_layers.ensures.solid ∙ c.in_ok-sweep.ensures.solid
    ∙ ap (λ (w : Job). w.solid.facets) (sym (c.self-2.view_is ∙ c.sweep_at.ensures.kept))
