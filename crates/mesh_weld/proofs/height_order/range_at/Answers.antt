use Rattle.std.proofs.Common.{pos}
use Rattle.std.proofs.lemmas.List.{get_or_default}
use Rattle.geometry.specs.Point.{origin}
use Rattle.geometry.specs.Facet.{facet_with}
use Rattle.mesh_weld.specs.Solid.{height_range}
use Rattle.mesh_weld.specs.declared.height_order.HeightRange.{HeightRange}
use Rattle.mesh_weld.proofs.height_order.range_at.Goals as goal

abbrev flat : HeightRange
flat = record { low = pos 0; high = pos 0 }

pub returns : goal.returns
returns c = get_or_default c.args.ranges.now c.args.number flat (height_range (facet_with origin origin origin)) c.requires
