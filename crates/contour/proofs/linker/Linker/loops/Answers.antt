use Rattle.contour.specs.Loops.{AreLoops, loops}
use Rattle.std.specs.Prelude.{All, ◌≡◌}
use Rattle.plane_segments.specs.Segment.{HasOrderedNodes}
use Rattle.contour.proofs.lemmas.Followers.{ok_from}
use Rattle.contour.proofs.lemmas.LoopOrder.{loops-ordered}
use Rattle.contour.proofs.lemmas.Traces.{segments_rise}
use Rattle.contour.proofs.lemmas.Unique.{loops-are}
use Rattle.contour.proofs.linker.Linker.loops.Goals as goal

pub trace_loops-requires-clause-order : goal.trace_loops-requires-clause-order
trace_loops-requires-clause-order g c κs within = segments_rise c.args.s.now.facets c.args.list.now c.requires

pub returns-clause-loops : goal.returns-clause-loops
returns-clause-loops g c =
    ok_from (AreLoops c.args.list.now) (AreLoops c.args.list.now) (λ found. found ≡ loops c.args.list.now) c.trace_loops.result
    (λ found h k. loops-are c.args.s.now.facets c.args.list.now c.requires found h) c.trace_loops.ensures c.trace_loops.ensures

pub returns-clause-ordered : goal.returns-clause-ordered
returns-clause-ordered g c =
    ok_from (AreLoops c.args.list.now) (AreLoops c.args.list.now) (All (All HasOrderedNodes)) c.trace_loops.result
    (λ found h k. loops-ordered c.args.s.now.facets c.args.list.now c.requires c.count-facets.ensures.distinct found h) c.trace_loops.ensures c.trace_loops.ensures
