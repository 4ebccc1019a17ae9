use Rattle.std.proofs.Common.{◌≡◌, map, take}
use Rattle.contour.specs.Outlines.{start_point}
use Rattle.contour.proofs.outlines.start_points.Given as goal

abbrev pub invariant-loop-segment : goal.invariant-loop-segment
invariant-loop-segment g l = l.points.items ≡ map (start_point l.s.facets l.z2) (take l.segment-index l.list)
