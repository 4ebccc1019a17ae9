use Rattle.std.proofs.Common.{◌≡◌, ◌≤◌, ◌^◌, length, map, ap, ◌∙◌, arith}
use Rattle.std.proofs.lemmas.List.{length-map}
use Rattle.std.specs.List.{flat_map}
use Rattle.geometry.specs.Facet.{corners}
use Rattle.mesh_weld.specs.Numbering.{threes}
use Rattle.mesh_weld.specs.Solid.{height_range, vertices, number_of, triples}
use Rattle.mesh_weld.proofs.lemmas.EdgeNumbering.{triples-by_number, edge_numbers}
use Rattle.mesh_weld.proofs.lemmas.Welds.{few_vertices}
use Rattle.mesh_weld.proofs.by_sort.sorted_numbering.Given.{Over}
use Rattle.mesh_weld.proofs.by_sort.sorted_numbering.Goals.{In_ok-numbers}
use Rattle.mesh_weld.proofs.by_sort.sorted_numbering.Goals as goal

numbers_are : (g : Over) (c : In_ok-numbers g) → c.in_ok-numbers.numbers.items ≡ triples c.args.kept.now
numbers_are g c =
    c.in_ok-numbers.ensures
    ∙ ap threes (let e : c.as_slice.result.now ≡ map (number_of (vertices c.args.kept.now)) (flat_map corners c.args.kept.now) = cc (c.in_ok-points.ensures.numbers) in e)
    ∙ triples-by_number (number_of (vertices c.args.kept.now)) c.args.kept.now

pub number_edges-requires-clause-numbers : goal.number_edges-requires-clause-numbers
number_edges-requires-clause-numbers g c =
    c.as_slice-3.ensures.value ∙ numbers_are g (goal.at.number_edges-requires-clause-numbers g c).In_ok-numbers

pub order_by_height-requires : goal.order_by_height-requires
order_by_height-requires g c = omega (arith, ap length c.in_ok-list_ranges.ensures, length-map c.args.kept.now height_range, c.requires.kept)

pub returns-clause-numbering : goal.returns-clause-numbering
returns-clause-numbering g c =
    let kept = c.args.kept.now in
    let few : length (vertices kept) ≤ 2 ^ 32 = omega (arith, few_vertices kept) in
    record {
      closed = c.in_ok-edges.ensures.closed;
      points_are = c.in_ok-points.ensures.points;
      numbers_are = numbers_are g (goal.at.returns-clause-numbering g c).In_ok-numbers;
      edges_are = edge_numbers kept few c.in_ok-edges.edges.numbers.items c.in_ok-edges.edges.count c.in_ok-edges.ensures.numbering;
      order_is = c.in_ok-heights.ensures.order_is kept c.in_ok-list_ranges.ensures;
      ranges_are = c.in_ok-heights.ensures.ranges_are ∙ c.in_ok-list_ranges.ensures;
      tops_are = c.in_ok-heights.ensures.tops_are kept c.in_ok-list_ranges.ensures;
    }
