use Rattle.build_book.specs.Places.{AreFree}
use Rattle.build_book.proofs.places.first_taken.Given as goal

abbrev pub invariant-loop-k : goal.invariant-loop-k
invariant-loop-k g l = AreFree l.places l.first l.k
