use Rattle.std.proofs.Common.{◌∙◌, ◌+◌, ◌^◌, ◌<◌, arith, refl, rules}
use Rattle.std.proofs.Math.Nat.{zero-add}
use Rattle.build_book.specs.Places.{filed_count}
use Rattle.build_book.proofs.lemmas.Places.{few_layers}
use Rattle.build_book.proofs.places.make_missing.Goals as goal

pub overflow_add-late : goal.overflow_add-late
overflow_add-late g c =
    let fits : c.loop-s.late + c.in_ok-late.field-0 < 2 ^ 32 =
    omega (arith, c.loop-s.invariant.late, c.in_ok-late.ensures.made, few_layers c.args.job.now c.make_stripe.new.places c.in_ok-late.ensures.lawful _ c.stripes-s-end.ensures.value c.stripes-s-end.ensures.few) in
    search (rules, fits)

pub returns-clause-all : goal.returns-clause-all
returns-clause-all g c k low =
    c.loop-s.invariant.below k
    (omega (arith, low, c.loop-s.invariant.lawful.one_each, c.loop-s.auto.s-end, c.loop-s-test.false, c.stripes-s-end.ensures.value)) low

pub is_full-requires : goal.is_full-requires
is_full-requires g c = omega arith

pub returns-then-is_full-clause-lawful : goal.returns-then-is_full-clause-lawful
returns-then-is_full-clause-lawful g c = c.requires

pub returns-then-is_full-clause-all : goal.returns-then-is_full-clause-all
returns-then-is_full-clause-all g c k low = c.if-is_full.ensures refl k (omega arith) low

pub returns-then-is_full-clause-late : goal.returns-then-is_full-clause-late
returns-then-is_full-clause-late g c = zero-add (filed_count c.args.places.now)

pub loop-s-init : goal.loop-s-init
loop-s-init g c = record {
  slicer = c.new-slicer.ensures;
  lawful = c.requires;
  below = λ k low. absurd (omega (arith, low));
  late = zero-add (filed_count c.args.places.now);
}

pub make_stripe-requires-clause-slicer : goal.make_stripe-requires-clause-slicer
make_stripe-requires-clause-slicer g c κs within = c.loop-s.invariant.slicer

pub make_stripe-requires-clause-stripe : goal.make_stripe-requires-clause-stripe
make_stripe-requires-clause-stripe g c κs within = omega (arith, c.loop-s-test.true, c.stripes-s-end.ensures.value)

pub make_stripe-requires-clause-lawful : goal.make_stripe-requires-clause-lawful
make_stripe-requires-clause-lawful g c κs within = c.loop-s.invariant.lawful

pub make_stripe-requires-clause-below : goal.make_stripe-requires-clause-below
make_stripe-requires-clause-below g c κs within = c.loop-s.invariant.below

pub loop-s-preserved : goal.loop-s-preserved
loop-s-preserved g c = record {
  slicer = c.make_stripe.ensures.slicer ∙ c.loop-s.invariant.slicer;
  lawful = c.in_ok-late.ensures.lawful;
  below = c.in_ok-late.ensures.below;
  late = omega (arith, c.in_ok-late.ensures.made, c.loop-s.invariant.late);
}

pub returns-clause-lawful : goal.returns-clause-lawful
returns-clause-lawful g c = c.loop-s.invariant.lawful

pub returns-clause-late : goal.returns-clause-late
returns-clause-late g c = c.loop-s.invariant.late
