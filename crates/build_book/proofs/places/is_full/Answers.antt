use Rattle.std.proofs.Common.{arith}
use Rattle.std.proofs.lemmas.Bool.{false≢true}
use Rattle.build_book.specs.Places.{IsTaken}
use Rattle.build_book.proofs.lemmas.Places.{one_further, taken_at}
use Rattle.build_book.proofs.places.is_full.Goals as goal

pub loop-k-preserved : goal.loop-k-preserved
loop-k-preserved g c =
    one_further (IsTaken c.args.places.now) c.args.first c.loop-k.k c.loop-k.invariant
    (taken_at c.args.places.now c.loop-k.k c.index-places-k.result (omega (arith, c.loop-k-test.true, c.requires)) c.index-places-k.is c.if-is_none.ensures)

pub loop-k-init : goal.loop-k-init
loop-k-init g c = λ n from below. absurd (omega (arith, from, below))

pub returns-then-is_none : goal.returns-then-is_none
returns-then-is_none g c = λ full. absurd (false≢true full)

pub returns : goal.returns
returns g c = λ full n from below. c.loop-k.invariant n from (omega (arith, below, c.loop-k-test.false))
