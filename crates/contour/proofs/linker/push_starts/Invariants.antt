use Rattle.contour.specs.Linker.{HasFirsts, HasNexts}
use Rattle.contour.proofs.linker.push_starts.Given as goal

abbrev pub invariant-loop-i : goal.invariant-loop-i
invariant-loop-i g l = record {
  firsts : HasFirsts l.heads l.i l.edges.starts.items;
  nexts : HasNexts l.after l.i l.edges.starts.items;
}
