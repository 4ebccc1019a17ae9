use Rattle.std.proofs.Common.{◌≡◌, ◌+◌, ◌-◌, [], ◌∷◌, arith, length, length-append, refl, sym, ◌∙◌}
use Rattle.build_book.proofs.lemmas.Stripes.{lawful_push}
use Rattle.build_book.proofs.slicer.slice_layers.Goals as goal

pub loop-k-init : goal.loop-k-init
loop-k-init g c = record {
  solid = c.requires.solid;
  height = let first : c.args.first + 1 - 1 ≡ c.args.first = omega arith in rw first c.requires.height;
  whole = rw (c.in_ok-push.ensures.items, c.in_ok-layers.ensures.items) refl;
  lawful = rw (c.in_ok-push.ensures.items, c.in_ok-layers.ensures.items) (c.in_ok-slice_layer.ensures, tt);
}

pub loop-k-preserved : goal.loop-k-preserved
loop-k-preserved g c = record {
  solid = c.step_up.ensures.solid ∙ c.loop-k.invariant.solid;
  height = let this : c.loop-k.k + 1 - 1 ≡ c.loop-k.k = omega arith in rw this c.in_ok-step_up.ensures.height;
  whole = rw c.in_ok-push-2.ensures.items
      (omega (arith, c.loop-k.invariant.whole, length-append c.loop-k.layers.items (c.in_ok-slice_layer-2.field-0 ∷ [])));
  lawful = rw c.in_ok-push-2.ensures.items (lawful_push c.args.job.now c.args.first c.loop-k.layers.items c.in_ok-slice_layer-2.field-0 c.loop-k.invariant.lawful
      (let at : c.args.first + length c.loop-k.layers.items ≡ c.loop-k.k = c.loop-k.invariant.whole in rw at c.in_ok-slice_layer-2.ensures));
}

pub returns-clause-whole : goal.returns-clause-whole
returns-clause-whole g c = omega (arith, c.loop-k.invariant.whole, c.loop-k.auto.k, c.loop-k.auto.k-end, c.loop-k-test.false, c.requires.some)

pub returns-clause-lawful : goal.returns-clause-lawful
returns-clause-lawful g c = c.loop-k.invariant.lawful

pub returns-clause-solid : goal.returns-clause-solid
returns-clause-solid g c = c.loop-k.invariant.solid ∙ sym c.requires.solid
