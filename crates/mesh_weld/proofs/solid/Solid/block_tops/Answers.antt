use Rattle.std.proofs.Common.{sym, subst}
use Rattle.mesh_weld.specs.Solid.{IsByHeight, Solid, facets_by}
use Rattle.mesh_weld.proofs.lemmas.HeightOrder.{tops_again}
use Rattle.mesh_weld.proofs.solid.Solid.block_tops.Goals as goal

pub returns : goal.returns
returns g c order by =
    let own = c.self.inside.numbering in
    rw (← c.self.view_is, c.as_slice.ensures.value)
    (tops_again (facets_by own.points.items own.numbers.items) own.heights.order.items order own.heights.tops.items c.self.invariant.0.order_is
    (subst (λ (m : Solid). IsByHeight m.facets order) (sym c.self.view_is) by) c.self.invariant.0.tops_are)
