use Rattle.std.proofs.Common.{◌≡◌, ◌∙◌, ap, length, map}
use Rattle.std.proofs.lemmas.List.{length-map}
use Rattle.mesh_weld.specs.CornerIds.{AreIds, ranks_of}
use Rattle.mesh_weld.specs.Solid.{facets_by, in_order, number_of, triples}
use Rattle.mesh_weld.proofs.lemmas.EdgeNumbering.{edges_by_ids, closed_by_ids}
use Rattle.mesh_weld.proofs.lemmas.Naming.{found_in_order, ids_are, renumbered}
use Rattle.mesh_weld.proofs.numbering.numbered.Given.{Over}
use Rattle.mesh_weld.proofs.numbering.numbered.Goals.{After-renumber}
use Rattle.mesh_weld.proofs.numbering.numbered.Goals as goal

-- the ranks of the ids are the numbers of the corners
numbers_are : (g : Over) (c : After-renumber g) → c.renumber.new.ids.items ≡ triples (facets_by c.args.points.items c.args.ids.items)
numbers_are g c =
    c.renumber.ensures
    ∙ ap (λ r. map (ranks_of r) c.args.ids.items) c.as_slice.ensures.value
    ∙ renumbered c.args.points.items c.args.ids.items c.requires.named c.args.found.orders.points.ranks.items c.requires.orders.ranks_are

pub returns : goal.returns
returns g c =
    let points = c.args.points.items in let ids = c.args.ids.items in let orders = c.requires.orders in
    let own : AreIds (facets_by points ids) ids = ids_are points ids c.requires.named orders.apart orders.few in
    record {
      closed = closed_by_ids (facets_by points ids) ids own c.requires.edges.even;
      points_are = orders.ordered_are ∙ found_in_order points ids c.requires.named;
      numbers_are = numbers_are g (goal.at.returns g c).After-renumber;
      edges_are = edges_by_ids (facets_by points ids) ids own c.args.found.edges.numbers.items c.args.found.edges.count c.requires.edges.numbers_are;
      order_is = orders.order_is;
      ranges_are = orders.ranges_are;
      tops_are = orders.tops_are;
    }

pub renumber-requires : goal.renumber-requires
renumber-requires g c =
    let points = c.args.points.items in
    let long : length c.as_slice.result.now ≡ length points =
    ap length (c.as_slice.ensures.value ∙ c.requires.orders.ranks_are) ∙ length-map points (number_of (in_order points)) in
    rw long c.requires.named.below
