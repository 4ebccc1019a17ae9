use Rattle.std.proofs.Common.{◌≡◌}
use Rattle.slicing_tests.proofs.book.are_filed_own.Given as goal

abbrev pub invariant-loop-row : goal.invariant-loop-row
invariant-loop-row l = l.book.job ≡ l.job
