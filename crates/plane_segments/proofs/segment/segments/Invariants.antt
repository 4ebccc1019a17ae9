use Rattle.std.proofs.Common.{◌≡◌}
use Rattle.std.specs.Prelude.{All}
use Rattle.plane_segments.specs.Segment.{HasOrderedNodes}
use Rattle.plane_segments.proofs.lemmas.Positions.{segments_to}
use Rattle.plane_segments.proofs.segment.segments.Given as goal

abbrev pub invariant-loop-facet : goal.invariant-loop-facet
invariant-loop-facet g l = record {
  segments : l.list.items ≡ segments_to l.s.facets l.z2 l.facet;
  ordered : All HasOrderedNodes l.list.items;
}
