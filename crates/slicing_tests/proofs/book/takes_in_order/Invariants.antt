use Rattle.std.proofs.Common.{◌≡◌}
use Rattle.slicing_tests.proofs.book.takes_in_order.Given as goal

abbrev pub invariant-loop-stripe : goal.invariant-loop-stripe
invariant-loop-stripe l = l.slicer ≡ l.job
