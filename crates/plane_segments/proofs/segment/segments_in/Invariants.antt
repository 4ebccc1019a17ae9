use Rattle.std.proofs.Common.{◌≡◌, take}
use Rattle.std.specs.Prelude.{All, filter_map}
use Rattle.plane_segments.specs.Segment.{HasOrderedNodes, numbered_segment}
use Rattle.plane_segments.proofs.segment.segments_in.Given as goal

abbrev pub invariant-loop-i : goal.invariant-loop-i
invariant-loop-i g l = record {
  segments : l.list.items ≡ filter_map (numbered_segment l.s.facets l.z2) (take l.i l.numbers);
  ordered : All HasOrderedNodes l.list.items;
}
