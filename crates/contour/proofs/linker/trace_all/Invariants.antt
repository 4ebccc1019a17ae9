use Rattle.contour.specs.Linker.{AreTraced}
use Rattle.contour.proofs.linker.trace_all.Given as goal

abbrev pub invariant-loop-first : goal.invariant-loop-first
invariant-loop-first g l = AreTraced l.list l.next l.first l.visited.items l.flat.items l.ends.items
