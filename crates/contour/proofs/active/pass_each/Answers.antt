use Rattle.std.proofs.Common.{◌≡◌, Bool, false, true, ap, get_or, refl, rules, to_z, of_z, w32, w64}
use Rattle.std.specs.List.{prefix_len}
use Rattle.std.proofs.lemmas.Int.{to_z-of_z}
use Rattle.contour.specs.Active.{ends_above, starts_by}
use Rattle.contour.proofs.lemmas.Pushes.{above-read, below-read, starts_by-all, starts_by-ends, starts_by-on, ends_above-all, ends_above-kept, ends_above-left}
use Rattle.contour.proofs.active.pass_each.Goals as goal
use Rattle.contour.proofs.active.pass_each.Goals.{then-is_above+in_ok-push, else-is_above}

pub returns-then-not-starts_by-clause-count : goal.returns-then-not-starts_by-clause-count
returns-then-not-starts_by-clause-count g c =
    let height = to_z w64 (of_z w64 c.args.z2) in let number = get_or c.args.order.now c.loop-i.i 0 in
    let start = c.height_range-range.result.low in
    let off : starts_by c.args.s.now.facets height number ≡ false =
    below-read c.args.s.now.facets number height height start (to_z w32 (of_z w32 start)) c.starts_by.result false
    refl (to_z-of_z w32 start (search rules)) c.height_range-range.ensures.low c.starts_by.ensures c.if-not-starts_by.true in
    starts_by-ends c.args.s.now.facets c.args.z2 height c.args.order.now c.loop-i.i (to_z-of_z w64 c.args.z2 c.ranges.z2) c.loop-i-test.true off
    c.loop-i.invariant.reached

pub loop-i-preserved : goal.loop-i-preserved
loop-i-preserved g c =
    let height = to_z w64 (of_z w64 c.args.z2) in let number = get_or c.args.order.now c.loop-i.i 0 in
    let start = c.height_range-range.result.low in let top = c.height_range-range.result.high in
    let is : (b : Bool) → c.is_above.result ≡ b → ends_above c.args.s.now.facets height number ≡ b =
    (λ b. above-read c.args.s.now.facets number height height top (to_z w32 (of_z w32 top)) c.is_above.result b
    refl (to_z-of_z w32 top (search rules)) c.height_range-range.ensures.high c.is_above.ensures) in
    record {
      reached = starts_by-on c.args.s.now.facets height c.args.order.now c.loop-i.i (prefix_len (starts_by c.args.s.now.facets height) c.args.order.now) c.loop-i-test.true
          (below-read c.args.s.now.facets number height height start (to_z w32 (of_z w32 start)) c.starts_by.result true
          refl (to_z-of_z w32 start (search rules)) c.height_range-range.ensures.low c.starts_by.ensures c.if-not-starts_by.false)
          c.loop-i.invariant.reached;
      active = elim c.if-is_above.branch [
        | then-is_above+in_ok-push w ↦
            ends_above-kept c.args.s.now.facets height c.args.order.now c.args.active.now.items c.loop-i.active.items w.push.new.self.items c.if-is_above.active.items c.loop-i.i c.loop-i-test.true
            (is true w.if-is_above.true) (ap (λ v. v.items) w.active-is) w.in_ok-push.ensures.items c.loop-i.invariant.active
        | else-is_above w ↦
            ends_above-left c.args.s.now.facets height c.args.order.now c.args.active.now.items c.loop-i.active.items c.if-is_above.active.items c.loop-i.i c.loop-i-test.true
            (is false w.if-is_above.false) (ap (λ v. v.items) w.active-is) c.loop-i.invariant.active
      ];
    }

pub returns-clause-count : goal.returns-clause-count
returns-clause-count g c =
    starts_by-all c.args.s.now.facets c.args.z2 (to_z w64 (of_z w64 c.args.z2)) c.args.order.now c.loop-i.i
    (to_z-of_z w64 c.args.z2 c.ranges.z2) c.loop-i-test.false c.loop-i.auto.i-end c.loop-i.invariant.reached

pub returns-clause-active : goal.returns-clause-active
returns-clause-active g c =
    ends_above-all c.args.s.now.facets c.args.z2 (to_z w64 (of_z w64 c.args.z2)) c.args.order.now c.args.active.now.items c.loop-i.active.items c.loop-i.i
    (to_z-of_z w64 c.args.z2 c.ranges.z2) c.loop-i-test.false c.loop-i.auto.i-end c.loop-i.invariant.active
