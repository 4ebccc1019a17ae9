use Rattle.std.proofs.Common.{◌≡◌, ◌∙◌, ap, length, map, sym, subst, arith, to_z, of_z, w64}
use Rattle.std.specs.Prelude.{◌≤ℤ◌}
use Rattle.std.proofs.lemmas.Int.{to_z-of_z}
use Rattle.mesh_weld.specs.Solid.{top_of}
use Rattle.contour.specs.Sweep.{Sweep}
use Rattle.contour.proofs.lemmas.Sweeps.{rest_in, found_in, on-error, passed_within, step-fits, swept_next}
use Rattle.contour.proofs.sweep.Sweep.advance.Goals as goal

pub split_at-requires : goal.split_at-requires
split_at-requires g c =
    let le = passed_within c.self.inside.solid.now.facets c.by_height.result.now c.self.inside.height c.by_height.ensures in
    let is = c.self.invariant.passed_is in
    omega arith

pub scan-requires-after_bounds : goal.scan-requires-after_bounds
scan-requires-after_bounds g c κs within =
    rw c.split_at.ensures.back
    (rest_in c.self.inside.solid.now.facets c.self.inside.passed c.by_height.result.now c.by_height.ensures)

pub advance-requires-clause-fresh : goal.advance-requires-clause-fresh
advance-requires-clause-fresh g c κs within =
    rw c.as_slice-fresh.ensures.value
    (found_in c.self.inside.solid.now.facets _ c.in_ok-arrivals.arrivals.count c.split_at.result.1.now c.in_ok-arrivals.arrivals.active.items
    c.sort_unstable.new.self.items
    (rw c.split_at.ensures.back (rest_in c.self.inside.solid.now.facets c.self.inside.passed c.by_height.result.now c.by_height.ensures))
    c.in_ok-arrivals.ensures.active c.sort_unstable.ensures.permutation)

pub invariant_of-self : goal.invariant_of-self
invariant_of-self g c = c.self.invariant

pub invariant_of-self-2 : goal.invariant_of-self-2
invariant_of-self-2 g c =
    let same : to_z w64 (of_z w64 c.args.z2) ≡ c.args.z2 = to_z-of_z w64 c.args.z2 c.ranges.z2 in
    let up : c.self.inside.height ≤ℤ c.args.z2 = subst (λ (v : Sweep). v.height ≤ℤ c.args.z2) (sym c.self.view_is) c.requires.up in
    let risen = c.swap.ensures.x_after in
    let swept = swept_next c.self.inside.solid.now.facets c.by_height.result.now c.self.inside.height c.args.z2 c.self.inside.passed
    c.in_ok-arrivals.arrivals.count c.self.inside.active.numbers.items c.self.inside.active.tops.items
    c.in_ok-arrivals.arrivals.active.items c.sort_unstable.new.self.items
    c.swap.new.x.numbers.items c.swap.new.x.tops.items
    c.by_height.ensures c.self.invariant up c.requires.height
    (rw (same, c.split_at.ensures.back) at c.in_ok-arrivals.ensures.count) (rw (same, c.split_at.ensures.back) at c.in_ok-arrivals.ensures.active)
    c.sort_unstable.ensures.permutation c.sort_unstable.ensures.sorted
    (ap (λ active. active.numbers.items) risen ∙ rw (same, c.as_slice-fresh.ensures.value) at c.in_ok-advance.ensures.numbers)
    (ap (λ active. active.tops.items) risen ∙ c.in_ok-advance.ensures.tops
    ∙ ap (λ active. map (top_of c.self.inside.solid.now.facets) active.numbers.items) (sym risen)) in
    rw same swept

pub overflow_add-self : goal.overflow_add-self
overflow_add-self g c =
    step-fits _ c.split_at.result.1.now c.self.inside.passed c.in_ok-arrivals.arrivals.count (length c.by_height.result.now)
    c.in_ok-arrivals.ensures.count c.split_at.ensures.back_len c.by_height.type_inv.0

pub returns-in_err-advance-clause-mesh : goal.returns-in_err-advance-clause-mesh
returns-in_err-advance-clause-mesh g c = ap (λ (v : Sweep). v.facets) c.self.view_is

pub returns-clause-mesh : goal.returns-clause-mesh
returns-clause-mesh g c = ap (λ (v : Sweep). v.facets) c.self.view_is

pub returns-in_err-advance-clause-err : goal.returns-in_err-advance-clause-err
returns-in_err-advance-clause-err g c = on-error c.from_residual-in_err-advance.result c.self.view_is
