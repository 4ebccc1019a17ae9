use Rattle.std.proofs.Common.{◌≡◌, ◌++◌, List, not}
use Rattle.std.specs.Prelude.{count_by}
use Rattle.plane_segments.specs.declared.segment.Segment.{Segment}
use Rattle.contour.proofs.lemmas.Walks.{IsWalk}
use Rattle.contour.proofs.linker.trace_loop.Given as goal

abbrev pub invariant-loop-visited : goal.invariant-loop-visited
invariant-loop-visited g l =
    (part : List Segment) × (l.flat.items ≡ l.fn.flat.items ++ part) × IsWalk l.list l.next l.first l.fn.visited l.visited l.at part

abbrev pub decreases-loop-visited : goal.decreases-loop-visited
decreases-loop-visited g l = count_by (λ b. not b) l.visited
