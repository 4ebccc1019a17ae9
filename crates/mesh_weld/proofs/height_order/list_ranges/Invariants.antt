use Rattle.std.proofs.Common.{◌≡◌, take}
use Rattle.mesh_weld.specs.Solid.{height_ranges}
use Rattle.mesh_weld.proofs.height_order.list_ranges.Given as goal

abbrev pub invariant-loop-facet : goal.invariant-loop-facet
invariant-loop-facet g l = l.ranges.items ≡ height_ranges (take l.facet-index l.facets)
