use Rattle.std.proofs.Common.{drop}
use Rattle.mesh_weld.specs.Solid.{AreBlockTops, top_of}
use Rattle.contour.specs.Active.{ends_above, starts_by}
use Rattle.contour.proofs.lemmas.Blocks.{ArePassed}
use Rattle.contour.proofs.active.Arrivals.find.Given as goal

abbrev pub invariant-loop-top : goal.invariant-loop-top
invariant-loop-top g l = record {
  passed : ArePassed (starts_by l.s.facets l.z2) (ends_above l.s.facets l.z2) l.order l.count l.rest l.active.items;
  tops : AreBlockTops (top_of l.s.facets) l.rest (drop l.top-index l.tops);
}
