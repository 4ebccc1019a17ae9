use Rattle.std.proofs.Common.{sym, subst}
use Rattle.mesh_weld.specs.EdgeNumbers.{AreEdgeNumbers}
use Rattle.mesh_weld.specs.Numbering.{threes}
use Rattle.mesh_weld.specs.Solid.{Solid, facets_by}
use Rattle.mesh_weld.proofs.lemmas.EdgeCount.{one_count}
use Rattle.mesh_weld.proofs.solid.Solid.edge_count.Goals as goal

pub returns : goal.returns
returns g c numbers count h =
    one_count (facets_by c.self.inside.numbering.points.items c.self.inside.numbering.numbers.items) (threes c.self.inside.numbering.edges.numbers.items) numbers c.self.inside.numbering.edges.count count c.self.invariant.0.edges_are
    (subst (λ (m : Solid). AreEdgeNumbers m.facets numbers count) (sym c.self.view_is) h)
