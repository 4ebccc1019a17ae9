use Rattle.std.proofs.Common.{◌≡◌, ◌∙◌, false, true, Option, Some, None, ap, is_some, not, refl, sym}
use Rattle.build_book.specs.Layer.{Layer}
use Rattle.build_book.specs.Places.{or_layer}
use Rattle.build_book.proofs.places.fill_gap.Goals as goal

taken_stays : (place : Option Layer) (layer : Layer) → is_some place ≡ true → place ≡ or_layer place layer
taken_stays None layer taken = cc
taken_stays (Some x) layer taken = refl

free_is_filled : (place : Option Layer) (layer : Layer) → is_some place ≡ false → Some layer ≡ or_layer place layer
free_is_filled None layer free = refl
free_is_filled (Some x) layer free = cc

pub returns-then-is_some-clause-place : goal.returns-then-is_some-clause-place
returns-then-is_some-clause-place g c = taken_stays c.args.place.now c.args.layer (sym c.is_some.ensures ∙ c.if-is_some.true)

pub returns-then-is_some-clause-made : goal.returns-then-is_some-clause-made
returns-then-is_some-clause-made g c = sym (ap not (sym c.is_some.ensures ∙ c.if-is_some.true))

pub returns-clause-place : goal.returns-clause-place
returns-clause-place g c = free_is_filled c.args.place.now c.args.layer (sym c.is_some.ensures ∙ c.if-is_some.false)

pub returns-clause-made : goal.returns-clause-made
returns-clause-made g c = sym (ap not (sym c.is_some.ensures ∙ c.if-is_some.false))
