use Rattle.std.proofs.Common.{◌≡◌, ◌++◌, take}
use Rattle.mesh_weld.specs.Solid.{height_ranges, kept_facets}
use Rattle.mesh_weld.proofs.height_order.add_ranges.Given as goal

abbrev pub invariant-loop-at : goal.invariant-loop-at
invariant-loop-at g l = l.ranges.items ≡ l.fn.ranges.items ++ height_ranges (kept_facets (take l.at l.facets))
