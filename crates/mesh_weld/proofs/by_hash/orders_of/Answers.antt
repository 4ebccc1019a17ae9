use Rattle.std.proofs.Common.{◌≡◌, ◌≤◌, ◌∙◌, IfSome, length, map, subst}
use Rattle.geometry.specs.declared.limits.TheConstants.{CORNER_LIMIT}
use Rattle.mesh_weld.specs.PointOrder.{AreDistinct}
use Rattle.mesh_weld.specs.Solid.{facets_by, in_order, number_of}
use Rattle.mesh_weld.specs.declared.by_hash.point_order.PointOrder.{PointOrder}
use Rattle.mesh_weld.proofs.by_hash.orders_of.Goals as goal

pub returns : goal.returns
returns g c =
    let points = c.args.points.now in
    let found = λ (P : PointOrder g.row.A.Denot → Type 0) (h : IfSome c.in_ok-points.field-0 P). subst (λ o. IfSome o P) c.in-Some.is h in
    record {
      ordered_are = found (λ own. own.points.items ≡ in_order points) c.in_ok-points.ensures.points;
      ranks_are = found (λ own. own.ranks.items ≡ map (number_of (in_order points)) points) c.in_ok-points.ensures.ranks;
      apart = found (λ own. AreDistinct points) c.in_ok-points.ensures.apart;
      few = found (λ own. length points ≤ CORNER_LIMIT) c.in_ok-points.ensures.limit;
      order_is = c.in_ok-heights.ensures.order_is (facets_by points c.args.ids.now) c.requires.ranges;
      ranges_are = c.in_ok-heights.ensures.ranges_are ∙ c.requires.ranges;
      tops_are = c.in_ok-heights.ensures.tops_are (facets_by points c.args.ids.now) c.requires.ranges;
    }
