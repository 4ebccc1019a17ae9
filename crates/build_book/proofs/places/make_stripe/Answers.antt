use Rattle.std.proofs.Common.{◌∙◌, ◌<◌, refl, subst, sym}
use Rattle.std.proofs.Math.Nat.{zero-add}
use Rattle.build_book.proofs.lemmas.Places.{moved_stripe, stripe_taken, stripe_lawful, stripe_filled, below_end, at_end, end_within, stripe_fits, stripe_few}
use Rattle.build_book.specs.Job.{Job, stripe_count}
use Rattle.build_book.specs.Piece.{IsStripe}
use Rattle.build_book.specs.Places.{filed_count}
use Rattle.build_book.proofs.places.make_stripe.Given.{Over}
use Rattle.build_book.proofs.places.make_stripe.Goals.{After-into_layers}
use Rattle.build_book.proofs.places.make_stripe.Goals as goal

pub overflow_cast-first : goal.overflow_cast-first
overflow_cast-first g c = below_end c.layer_range-first.result.0 c.layer_range-first.result.1 c.layer_range-first.ensures.some c.layer_range-first.ensures.few

pub overflow_cast-end : goal.overflow_cast-end
overflow_cast-end g c = at_end c.layer_range-first.result.1 c.layer_range-first.ensures.few

pub overflow_cast-first-2 : goal.overflow_cast-first-2
overflow_cast-first-2 g c = below_end c.layer_range-first.result.0 c.layer_range-first.result.1 c.layer_range-first.ensures.some c.layer_range-first.ensures.few

pub is_full-requires : goal.is_full-requires
is_full-requires g c = end_within c.args.job.now c.layer_range-first.result.1 c.args.places.now c.requires.lawful c.layer_range-first.ensures.within

own_stripe : (g : Over) (c : After-into_layers g) → IsStripe c.args.job.now c.args.s c.into_layers.result.items
own_stripe g c =
    moved_stripe c.args.job.now c.in_ok-piece.piece.job c.args.s c.in_ok-piece.piece.stripe c.in_ok-piece.piece.layers c.into_layers.result.items
    (c.in_ok-piece.ensures.job ∙ c.requires.slicer) c.in_ok-piece.ensures.stripe c.into_layers.ensures c.in_ok-piece.ensures.lawful

pub fill_gaps-requires-clause-room : goal.fill_gaps-requires-clause-room
fill_gaps-requires-clause-room g c =
    stripe_fits c.args.job.now c.args.s c.layer_range-first.result.0 c.layer_range-first.result.1 c.into_layers.result.items c.args.places.now c.requires.lawful
    c.layer_range-first.ensures.first c.layer_range-first.ensures.end c.layer_range-first.ensures.within (own_stripe g c)

pub fill_gaps-requires-clause-few : goal.fill_gaps-requires-clause-few
fill_gaps-requires-clause-few g c = stripe_few c.args.job.now c.args.s c.into_layers.result.items (own_stripe g c)

pub returns-then-is_full-clause-below : goal.returns-then-is_full-clause-below
returns-then-is_full-clause-below g c =
    stripe_taken c.args.job.now c.args.s c.layer_range-first.result.0 c.layer_range-first.result.1 c.args.places.now c.requires.lawful c.layer_range-first.ensures.first c.layer_range-first.ensures.end c.requires.below
    (c.if-is_full.ensures refl)

pub returns-clause-lawful : goal.returns-clause-lawful
returns-clause-lawful g c =
    stripe_lawful c.args.job.now c.args.s c.layer_range-first.result.0 c.into_layers.result.items c.args.places.now c.fill_gaps.new.places
    c.requires.lawful c.layer_range-first.ensures.first (own_stripe g (goal.at.returns-clause-lawful g c).After-into_layers) c.fill_gaps.ensures.places

pub returns-clause-below : goal.returns-clause-below
returns-clause-below g c =
    stripe_filled c.args.job.now c.args.s c.layer_range-first.result.0 c.into_layers.result.items c.args.places.now c.fill_gaps.new.places
    c.requires.lawful c.layer_range-first.ensures.first (own_stripe g (goal.at.returns-clause-below g c).After-into_layers) c.fill_gaps.ensures.places
    c.requires.below

pub returns-then-is_full-clause-slicer : goal.returns-then-is_full-clause-slicer
returns-then-is_full-clause-slicer g c = refl

pub returns-in_err-piece-clause-slicer : goal.returns-in_err-piece-clause-slicer
returns-in_err-piece-clause-slicer g c = c.slice.ensures.kept

pub layer_range-first-requires : goal.layer_range-first-requires
layer_range-first-requires g c = c.requires.stripe

pub returns-clause-slicer : goal.returns-clause-slicer
returns-clause-slicer g c = c.slice.ensures.kept

pub returns-clause-made : goal.returns-clause-made
returns-clause-made g c = c.fill_gaps.ensures.made

pub returns-then-is_full-clause-lawful : goal.returns-then-is_full-clause-lawful
returns-then-is_full-clause-lawful g c = c.requires.lawful

pub slice-requires-after_bounds : goal.slice-requires-after_bounds
slice-requires-after_bounds g c κs within = subst (λ (w : Job). c.args.s < stripe_count w.grid) (sym c.requires.slicer) c.requires.stripe

pub returns-then-is_full-clause-made : goal.returns-then-is_full-clause-made
returns-then-is_full-clause-made g c = zero-add (filed_count c.args.places.now)
