use Rattle.std.proofs.Common.{ℕ, ◌<◌, ◌≤◌}
use Rattle.build_book.specs.Places.{IsTaken}
use Rattle.build_book.proofs.places.is_full.Given as goal

abbrev pub invariant-loop-k : goal.invariant-loop-k
invariant-loop-k g l = (n : ℕ) → l.first ≤ n → n < l.k → IsTaken l.places n
