use Rattle.std.proofs.Common.{◌≡◌, ◌+◌, ◌^◌, ◌<◌, ◌≤◌, length, arith, rules, length-set, ◌∙◌, ap, sym}
use Rattle.std.specs.Prelude.{get_or}
use Rattle.build_book.specs.Places.{with_layers, or_layer}
use Rattle.build_book.specs.declared.limits.TheConstants.{STRIPE_LAYERS}
use Rattle.build_book.proofs.lemmas.Places.{filled_step, filled_empty, front_step, count_step, room_here, room_after, few_front, length_step, one_if_free, one_or_none, one_at_most, length-filled}
use Rattle.build_book.proofs.places.fill_gaps.Goals as goal

pub loop-layer-init : goal.loop-layer-init
loop-layer-init g c = record {
  front = search rules;
  left = omega (arith, c.requires.room, ap length c.into_iter-layer-iterator.ensures.into_iter_gives.0);
  here = omega arith;
  few = omega arith;
  places = filled_empty _ _;
  made = omega arith;
}

pub offset_bounds-places-at : goal.offset_bounds-places-at
offset_bounds-places-at g c =
    let low : c.loop-layer.at < length c.loop-layer.places = room_here _ _ _ _ _ c.loop-layer.invariant.left c.in-Some.ensures.steps.0 in
    let early : c.loop-layer.at < length c.args.places.now =
    omega (arith, low, ap length {y = with_layers c.args.first c.loop-layer.yielded c.args.places.now} c.loop-layer.invariant.places, length-filled c.args.first c.loop-layer.yielded c.args.places.now) in
    search (rules, early)

pub overflow_add-made : goal.overflow_add-made
overflow_add-made g c =
    let one : c.from-made.result ≡ one_if_free c.index-places-at.result =
    one_or_none _ _ _ _ c.index-places-at.is c.from-made.ensures c.fill_gap.ensures.made in
    let few : length c.loop-layer.yielded ≤ STRIPE_LAYERS = few_front _ _ _ STRIPE_LAYERS c.loop-layer.invariant.front
    (omega (arith, c.requires.few, ap length c.into_iter-layer-iterator.ensures.into_iter_gives.0)) in
    let fits : c.loop-layer.made + c.from-made.result < 2 ^ 32 =
    omega (arith, one, one_at_most c.index-places-at.result, few, c.loop-layer.invariant.few) in
    search (rules, fits)

pub loop-layer-preserved : goal.loop-layer-preserved
loop-layer-preserved g c =
    let low : c.loop-layer.at < length c.loop-layer.places = room_here _ _ _ _ _ c.loop-layer.invariant.left c.in-Some.ensures.steps.0 in
    let one : c.from-made.result ≡ one_if_free c.index-places-at.result =
    one_or_none _ _ _ _ c.index-places-at.is c.from-made.ensures c.fill_gap.ensures.made in
    let put : c.fill_gap.new.place ≡ or_layer c.index-places-at.result c.in-Some.layer =
    c.fill_gap.ensures.place ∙ ap (λ w. or_layer w c.in-Some.layer) (sym c.index-places-at.is) in
    record {
      front = front_step _ _ _ _ _ c.loop-layer.invariant.front c.in-Some.ensures.steps.0;
      left = simp length-set (room_after _ _ _ _ _ c.loop-layer.invariant.left c.in-Some.ensures.steps.0);
      here = omega (arith, c.loop-layer.invariant.here, length_step c.loop-layer.yielded c.in-Some.layer);
      few = omega (arith, one, one_at_most c.index-places-at.result, c.loop-layer.invariant.few, length_step c.loop-layer.yielded c.in-Some.layer);
      places = rw (put, c.loop-layer.invariant.places)
          (filled_step _ _ _ _ _ _ c.loop-layer.invariant.here
          (omega (arith, low, ap length {y = with_layers c.args.first c.loop-layer.yielded c.args.places.now} c.loop-layer.invariant.places, length-filled c.args.first c.loop-layer.yielded c.args.places.now))
          (c.index-places-at.is ∙ ap (λ ps. get_or ps c.loop-layer.at c.index-places-at.result) {y = with_layers c.args.first c.loop-layer.yielded c.args.places.now} c.loop-layer.invariant.places));
      made = rw put (omega (arith, one, c.loop-layer.invariant.made, count_step c.loop-layer.places c.loop-layer.at c.in-Some.layer c.index-places-at.result low c.index-places-at.is));
    }
