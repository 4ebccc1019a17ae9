use Rattle.std.proofs.Common.{◌≡◌, ◌<◌, ◌≤◌, ◌^◌, ℕ, length, map, get_or, sym, ap, ◌∙◌, subst, arith}
use Rattle.std.specs.List.Sorted.{IsPermutation, IsNonDecreasingBy}
use Rattle.std.proofs.lemmas.List.{get_or_default, length-map}
use Rattle.std.proofs.lemmas.List.Sorted.{length_permutation}
use Rattle.geometry.specs.Facet.{corners}
use Rattle.geometry.specs.Point.{origin}
use Rattle.mesh_weld.specs.HalfEdge.{half_edges_from, pair_key, IsEven, IsLeastUneven}
use Rattle.mesh_weld.specs.Solid.{number_of, vertices, triples}
use Rattle.mesh_weld.proofs.lemmas.Transfer.{balanced_from_even, low_inside, high_inside, least_open}
use Rattle.mesh_weld.proofs.lemmas.Welds.{few_vertices, few_half_edges, kept_fault}
use Rattle.mesh_weld.proofs.by_sort.number_edges.Given.{Over}
use Rattle.mesh_weld.proofs.by_sort.number_edges.Goals.{In_ok-half_edges, In-Some}
use Rattle.mesh_weld.proofs.by_sort.number_edges.Goals as goal

all_half_edges : (g : Over) (c : In_ok-half_edges g) → IsPermutation (half_edges_from 0 (triples c.args.kept.now)) c.in_ok-half_edges.half_edges.items
all_half_edges g c = subst (λ l. IsPermutation (half_edges_from 0 l) c.in_ok-half_edges.half_edges.items) c.requires.numbers c.in_ok-half_edges.ensures.permuted

pub sorted_half_edges-requires : goal.sorted_half_edges-requires
sorted_half_edges-requires g c =
    let kept = c.args.kept.now in
    omega (arith, ap length c.requires.numbers, length-map kept (λ t. map (number_of (vertices kept)) (corners t)), c.requires.kept)

pub least_uneven-requires-clause-limit : goal.least_uneven-requires-clause-limit
least_uneven-requires-clause-limit g c =
    omega (arith, length_permutation _ _ (all_half_edges g (goal.at.least_uneven-requires-clause-limit g c).In_ok-half_edges), few_half_edges c.args.kept.now, ap length c.as_slice.ensures.value)

pub least_uneven-requires-clause-ascending : goal.least_uneven-requires-clause-ascending
least_uneven-requires-clause-ascending g c =
    subst (IsNonDecreasingBy pair_key) (sym c.as_slice.ensures.value) c.in_ok-half_edges.ensures.ascending

uneven_is : (g : Over) (c : In-Some g) → IsLeastUneven c.in_ok-half_edges.half_edges.items c.in-Some.low c.in-Some.high
uneven_is g c = subst (λ l. IsLeastUneven l c.in-Some.low c.in-Some.high) c.as_slice.ensures.value c.in-Some.ensures

pub bounds-points-low : goal.bounds-points-low
bounds-points-low g c =
    let at = goal.at.bounds-points-low g c in let ends = c.in-Some in
    let low : ends.low < length (vertices c.args.kept.now) = low_inside c.args.kept.now c.in_ok-half_edges.half_edges.items (all_half_edges g at.In_ok-half_edges) ends.low ends.high (uneven_is g at.In-Some) in
    omega (arith, low, ap length c.requires.points)

pub bounds-points-high : goal.bounds-points-high
bounds-points-high g c =
    let at = goal.at.bounds-points-high g c in let ends = c.in-Some in
    let high : ends.high < length (vertices c.args.kept.now) = high_inside c.args.kept.now c.in_ok-half_edges.half_edges.items (all_half_edges g at.In_ok-half_edges) ends.low ends.high (uneven_is g at.In-Some) in
    omega (arith, high, ap length c.requires.points)

pub returns-in-Some-clause-open : goal.returns-in-Some-clause-open
returns-in-Some-clause-open g c =
    let kept = c.args.kept.now in let points = c.args.points.now in
    let at = goal.at.returns-in-Some-clause-open g c in
    let all = all_half_edges g at.In_ok-half_edges in let h = uneven_is g at.In-Some in
    let m : ℕ = c.in-Some.low in let n : ℕ = c.in-Some.high in
    let few : length (vertices kept) ≤ 2 ^ 32 = omega (arith, few_vertices kept) in
    let low : m < length (vertices kept) = low_inside kept c.in_ok-half_edges.half_edges.items all m n h in
    let high : n < length (vertices kept) = high_inside kept c.in_ok-half_edges.half_edges.items all m n h in
    let from : c.index-points-low.result ≡ get_or (vertices kept) m origin =
    c.index-points-low.is ∙ ap (λ l. get_or l m c.index-points-low.result) c.requires.points ∙ get_or_default (vertices kept) m c.index-points-low.result origin low in
    let to : c.index-points-high.result ≡ get_or (vertices kept) n origin =
    c.index-points-high.is ∙ ap (λ l. get_or l n c.index-points-high.result) c.requires.points ∙ get_or_default (vertices kept) n c.index-points-high.result origin high in
    kept_fault kept c.args.degenerate.now c.index-points-low.result c.index-points-high.result c.open_edge.result _ _ from to
    (least_open kept c.in_ok-half_edges.half_edges.items all m n h few) c.open_edge.ensures

pub number_sorted-requires-clause-permuted : goal.number_sorted-requires-clause-permuted
number_sorted-requires-clause-permuted g c = rw c.as_slice-2.ensures.value c.in_ok-half_edges.ensures.permuted

pub number_sorted-requires-clause-ascending : goal.number_sorted-requires-clause-ascending
number_sorted-requires-clause-ascending g c =
    subst (IsNonDecreasingBy pair_key) (sym c.as_slice-2.ensures.value) c.in_ok-half_edges.ensures.ascending

pub returns-clause-numbering : goal.returns-clause-numbering
returns-clause-numbering g c = rw c.requires.numbers at c.in_ok-number_sorted.ensures

pub returns-clause-closed : goal.returns-clause-closed
returns-clause-closed g c =
    balanced_from_even c.args.kept.now c.in_ok-half_edges.half_edges.items (all_half_edges g (goal.at.returns-clause-closed g c).In_ok-half_edges)
    (subst IsEven c.as_slice.ensures.value c.in_default.ensures)
