use Rattle.contour.specs.Linker.{ArePopped, HasLeft}
use Rattle.contour.proofs.linker.pop_starts.Given as goal

abbrev pub invariant-loop-i : goal.invariant-loop-i
invariant-loop-i g l = record {
  left : HasLeft l.heads l.edges.starts.items l.edges.finishes.items l.i;
  popped : ArePopped l.next l.edges.starts.items l.edges.finishes.items l.i;
}
