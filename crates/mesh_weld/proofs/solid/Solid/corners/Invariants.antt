use Rattle.std.proofs.Common.{◌≡◌, take, fold}
use Rattle.geometry.specs.BoundingBox.{greatest_of, least_of}
use Rattle.mesh_weld.proofs.solid.Solid.corners.Given as goal

abbrev pub invariant-loop-point : goal.invariant-loop-point
invariant-loop-point g l = record {
  low_is : l.low ≡ fold least_of l.initial.low (take l.point-index l.points);
  high_is : l.high ≡ fold greatest_of l.initial.high (take l.point-index l.points);
}
