use Rattle.std.proofs.Common.{◌≡◌, Some, None, slice_get, arith, sym}
use Rattle.build_book.proofs.lemmas.Places.{one_further, taken_at, free_at}
use Rattle.build_book.proofs.places.first_taken.Goals as goal

pub returns-then-is_some-clause-some : goal.returns-then-is_some-clause-some
returns-then-is_some-clause-some g c = (
  c.loop-k.auto.k,
  c.loop-k-test.true,
  taken_at c.args.places.now c.loop-k.k c.index-places-k.result (omega (arith, c.loop-k-test.true, c.requires)) c.index-places-k.is (sym c.if-is_some.ensures),
  c.loop-k.invariant,
)

pub loop-k-preserved : goal.loop-k-preserved
loop-k-preserved g c =
    one_further (λ n. slice_get c.args.places.now n ≡ Some None) c.args.first c.loop-k.k c.loop-k.invariant
    (free_at c.args.places.now c.loop-k.k c.index-places-k.result (omega (arith, c.loop-k-test.true, c.requires)) c.index-places-k.is (sym c.if-is_some.ensures))

pub loop-k-init : goal.loop-k-init
loop-k-init g c = λ k from below. absurd (omega (arith, from, below))

pub returns-clause-none : goal.returns-clause-none
returns-clause-none g c = λ k from below. c.loop-k.invariant k from (omega (arith, below, c.loop-k-test.false))
