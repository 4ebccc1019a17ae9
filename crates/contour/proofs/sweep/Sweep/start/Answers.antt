use Rattle.std.proofs.Common.{◌≡◌, to_z, of_z, w64}
use Rattle.std.proofs.lemmas.Int.{to_z-of_z}
use Rattle.contour.proofs.lemmas.Sweeps.{order_in, found_in, swept_first}
use Rattle.contour.proofs.sweep.Sweep.start.Goals as goal

pub find-requires-clause-numbers : goal.find-requires-clause-numbers
find-requires-clause-numbers g c κs within = order_in c.args.s.now.facets c.by_height.result.now c.by_height.ensures

pub find-requires-clause-tops : goal.find-requires-clause-tops
find-requires-clause-tops g c κs within = c.block_tops.ensures c.by_height.result.now c.by_height.ensures

pub of-requires-after_bounds : goal.of-requires-after_bounds
of-requires-after_bounds g c κs within =
    rw c.as_slice.ensures.value
    (found_in c.args.s.now.facets _ c.in_ok-arrivals.arrivals.count c.by_height.result.now c.in_ok-arrivals.arrivals.active.items
    c.sort_unstable.new.self.items (order_in c.args.s.now.facets c.by_height.result.now c.by_height.ensures)
    c.in_ok-arrivals.ensures.active c.sort_unstable.ensures.permutation)

pub invariant_of-result : goal.invariant_of-result
invariant_of-result g c =
    let same : to_z w64 (of_z w64 c.args.z2) ≡ c.args.z2 = to_z-of_z w64 c.args.z2 c.ranges.z2 in
    let swept = swept_first c.args.s.now.facets c.by_height.result.now c.args.z2 c.in_ok-arrivals.arrivals.count
    c.in_ok-arrivals.arrivals.active.items c.sort_unstable.new.self.items c.in_ok-active.active.numbers.items c.in_ok-active.active.tops.items
    c.by_height.ensures c.requires (rw same at c.in_ok-arrivals.ensures.count) (rw same at c.in_ok-arrivals.ensures.active)
    c.sort_unstable.ensures.permutation c.sort_unstable.ensures.sorted
    (rw c.as_slice.ensures.value at c.in_ok-active.ensures.numbers) (rw c.as_slice.ensures.value at c.in_ok-active.ensures.tops) in
    rw same swept

pub returns-clause-at : goal.returns-clause-at
returns-clause-at g c = to_z-of_z w64 c.args.z2 c.ranges.z2
