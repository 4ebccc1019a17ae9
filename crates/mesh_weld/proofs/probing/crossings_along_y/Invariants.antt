use Rattle.std.proofs.Common.{◌≡◌, take}
use Rattle.exact_int.specs.Bounds.{IsAtMost}
use Rattle.geometry.specs.Winding.{ray_y}
use Rattle.mesh_weld.proofs.probing.crossings_along_y.Given as goal

abbrev pub invariant-loop-number : goal.invariant-loop-number
invariant-loop-number g l = record {
  sum_is : l.sum ≡ ray_y (take l.number l.solid.facets) l.centre;
  small : IsAtMost l.number l.sum;
}
