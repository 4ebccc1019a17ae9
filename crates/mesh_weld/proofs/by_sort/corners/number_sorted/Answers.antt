use Rattle.std.proofs.Common.{arith, length, set, sym, subst, ◌∙◌, ◌+◌, ◌-◌, ◌*◌, ◌<◌, ◌≤◌, ◌≡◌}
use Rattle.std.specs.List.{flat_map}
use Rattle.std.proofs.lemmas.List.{get_or_default}
use Rattle.geometry.specs.Facet.{corners}
use Rattle.mesh_weld.proofs.lemmas.Points.{IsJoined, IsCornerOf, joined_none, joined_more, own_corner, joined_points, joined_numbers, added_few, added_some, sorted_count, length-corners}
use Rattle.mesh_weld.proofs.by_sort.corners.number_sorted.Goals as goal

pub loop-corner-init : goal.loop-corner-init
loop-corner-init g c =
    rw c.new-points.ensures.items (joined_none _ _ _ (omega (arith, length-corners c.args.facets.now, c.in_ok-numbers.ensures.len, c.in_ok-numbers.numbers.ok.0)))

pub overflow_cast-len : goal.overflow_cast-len
overflow_cast-len g c =
    let long : length c.args.sorted.now ≡ 3 * length c.args.facets.now = sorted_count c.args.facets.now c.args.sorted.now c.requires.permuted in
    let new : length c.add_point.new.points.items ≤ length c.loop-corner.points.items + 1 = added_few _ _ _ c.in_ok-add_point.ensures in
    omega (arith, long, new, c.loop-corner.invariant.few, c.add_point.new.points.ok.0)

pub overflow_sub-len : goal.overflow_sub-len
overflow_sub-len g c =
    let some : 0 < length c.add_point.new.points.items = added_some _ _ _ c.in_ok-add_point.ensures in
    omega (arith, some, c.add_point.new.points.ok.0)

pub index_mut-requires : goal.index_mut-requires
index_mut-requires g c =
    let own : IsCornerOf (flat_map corners c.args.facets.now) c.corner-item.result = own_corner c.args.facets.now c.args.sorted.now c.loop-corner.corner-index c.corner-item.result c.requires.permuted (omega arith) c.corner-item.is in
    omega (arith, own.0, c.loop-corner.invariant.size, c.loop-corner.numbers.ok.0)

pub loop-corner-preserved : goal.loop-corner-preserved
loop-corner-preserved g c =
    let fs = c.args.facets.now in let es = c.args.sorted.now in let at = c.loop-corner in
    let inside : at.corner-index < length es = omega arith in
    subst (λ n. IsJoined (flat_map corners fs) es (at.corner-index + 1) c.add_point.new.points.items (set at.numbers.items c.corner-item.result.slot (n - 1)))
    (let e : length c.add_point.new.points.items ≡ c.len.result = omega (arith, c.add_point.new.points.ok.0) in e)
    (joined_more (flat_map corners fs) es at.corner-index c.corner-item.result at.points.items at.numbers.items inside
    (λ d. get_or_default es at.corner-index d c.corner-item.result inside ∙ sym c.corner-item.is)
    c.requires.ascending (own_corner fs es at.corner-index c.corner-item.result c.requires.permuted inside c.corner-item.is)
    at.invariant c.add_point.new.points.items c.in_ok-add_point.ensures)

pub returns-clause-points : goal.returns-clause-points
returns-clause-points g c =
    joined_points c.args.facets.now c.args.sorted.now c.requires.permuted _ _ (subst (λ n. IsJoined (flat_map corners c.args.facets.now) c.args.sorted.now n c.loop-corner.points.items c.loop-corner.numbers.items) (let e : c.loop-corner.corner-index ≡ length c.args.sorted.now = omega arith in e) c.loop-corner.invariant)

pub returns-clause-numbers : goal.returns-clause-numbers
returns-clause-numbers g c =
    joined_numbers c.args.facets.now c.args.sorted.now c.requires.permuted _ _ (subst (λ n. IsJoined (flat_map corners c.args.facets.now) c.args.sorted.now n c.loop-corner.points.items c.loop-corner.numbers.items) (let e : c.loop-corner.corner-index ≡ length c.args.sorted.now = omega arith in e) c.loop-corner.invariant)
