use Rattle.std.proofs.Common.{◌≡◌, map, take}
use Rattle.stlslice_c.specs.Loops.{point_told}
use Rattle.stlslice_c.proofs.loops.told_points.Given as goal

abbrev pub invariant-loop-point : goal.invariant-loop-point
invariant-loop-point g l = l.points.items ≡ map point_told (take l.point-index l.found)
