use Rattle.std.proofs.Common.{◌≡◌, ℕ, List, ◌+◌, ◌++◌, ◌<◌, ◌≤◌, ◌∙◌, ap, sym, subst, length, take, get_or, arith, rules, to_z, of_z, w32, w64}
use Rattle.std.specs.Prelude.{All, filter, ℤ, pos, ◌≤ℤ◌}
use Rattle.std.specs.List.{prefix_len}
use Rattle.std.proofs.lemmas.Int.{to_z-of_z}
use Rattle.mesh_weld.specs.Solid.{top_of}
use Rattle.mesh_weld.specs.declared.height_order.TheConstants.{BLOCK_LEN}
use Rattle.contour.specs.Active.{ends_above, starts_by}
use Rattle.contour.proofs.lemmas.Blocks.{all_in_part, count_fits, found_more, next_top, no_block, passed_all, passed_last, passed_more, passed_none}
use Rattle.contour.proofs.active.Arrivals.find.Given.{Over}
use Rattle.contour.proofs.active.Arrivals.find.Goals.{In_ok-started}
use Rattle.contour.proofs.active.Arrivals.find.Goals as goal

pub loop-top-init : goal.loop-top-init
loop-top-init g c =
    let height = to_z w64 (of_z w64 c.args.z2) in
    record {
      passed = passed_none (starts_by c.args.s.now.facets height) (ends_above c.args.s.now.facets height) c.args.order.now c.new-active.result.items c.new-active.ensures.items;
      tops = c.requires.tops;
    }

pub pass_block-requires-clause-numbers : goal.pass_block-requires-clause-numbers
pass_block-requires-clause-numbers g c κs within =
    let passed = c.loop-top.invariant.passed in
    all_in_part (λ n. n < length c.args.s.now.facets) c.args.order.now c.loop-top.count BLOCK_LEN c.loop-top.rest.now c.split_block.result.0.now
    passed.rest_is c.split_block.ensures.block c.requires.numbers

pub pass_block-requires-clause-top : goal.pass_block-requires-clause-top
pass_block-requires-clause-top g c κs within =
    let top = get_or c.args.tops.now c.loop-top.top-index (pos 0) in
    let next = next_top (top_of c.args.s.now.facets) c.loop-top.rest.now c.args.tops.now c.loop-top.top-index (pos 0) c.loop-top-test.true c.loop-top.invariant.tops in
    subst (λ (ns : List ℕ). All (λ n. top_of c.args.s.now.facets n ≤ℤ to_z w32 (of_z w32 top)) ns) (sym c.split_block.ensures.block)
    (subst (λ (y : ℤ). All (λ n. top_of c.args.s.now.facets n ≤ℤ y) (take BLOCK_LEN c.loop-top.rest.now)) (sym (to_z-of_z w32 top (search rules))) next.0.within)

started : (g : Over) (c : In_ok-started g)
    → c.in_ok-started.started ≡ prefix_len (starts_by c.args.s.now.facets (to_z w64 (of_z w64 c.args.z2))) (take BLOCK_LEN c.loop-top.rest.now)
started g c =
    c.in_ok-started.ensures.count
    ∙ ap (prefix_len (starts_by c.args.s.now.facets (to_z w64 (of_z w64 c.args.z2)))) c.split_block.ensures.block

appended : (g : Over) (c : In_ok-started g)
    → c.pass_block.new.active.items ≡ c.loop-top.active.items
    ++ filter (ends_above c.args.s.now.facets (to_z w64 (of_z w64 c.args.z2))) (take c.in_ok-started.started (take BLOCK_LEN c.loop-top.rest.now))
appended g c =
    c.in_ok-started.ensures.active
    ∙ ap (λ ns. c.loop-top.active.items ++ filter (ends_above c.args.s.now.facets (to_z w64 (of_z w64 c.args.z2))) (take c.in_ok-started.started ns))
    c.split_block.ensures.block

pub overflow_add-count : goal.overflow_add-count
overflow_add-count g c =
    let height = to_z w64 (of_z w64 c.args.z2) in
    count_fits (starts_by c.args.s.now.facets height) (ends_above c.args.s.now.facets height) c.args.order.now c.loop-top.count c.loop-top.rest.now
    c.loop-top.active.items BLOCK_LEN c.in_ok-started.started c.loop-top.invariant.passed (started g (goal.at.overflow_add-count g c).In_ok-started) (search rules)

pub loop-top-preserved : goal.loop-top-preserved
loop-top-preserved g c =
    let height = to_z w64 (of_z w64 c.args.z2) in let facets = c.args.s.now.facets in let at = c.loop-top in
    let own = (goal.at.loop-top-preserved g c).In_ok-started in
    let whole : length (take BLOCK_LEN at.rest.now) ≤ c.in_ok-started.started =
    omega (arith, ap length c.split_block.ensures.block, c.if-started-block.false) in
    let next = next_top (top_of facets) at.rest.now c.args.tops.now at.top-index (pos 0) c.loop-top-test.true at.invariant.tops in
    rw c.split_block.ensures.behind (record {
      passed = passed_more (starts_by facets height) (ends_above facets height) c.args.order.now at.count at.rest.now at.active.items BLOCK_LEN c.in_ok-started.started
          at.invariant.passed (started g own) c.pass_block.new.active.items (appended g own) whole;
      tops = next.1;
    })

pub returns-then-started-block-clause-count : goal.returns-then-started-block-clause-count
returns-then-started-block-clause-count g c =
    let height = to_z w64 (of_z w64 c.args.z2) in let facets = c.args.s.now.facets in let at = c.loop-top in
    let own = (goal.at.returns-then-started-block-clause-count g c).In_ok-started in
    let short : c.in_ok-started.started < length (take BLOCK_LEN at.rest.now) =
    omega (arith, ap length c.split_block.ensures.block, c.if-started-block.true) in
    subst (λ y. at.count + c.in_ok-started.started ≡ prefix_len (starts_by facets y) c.args.order.now) (to_z-of_z w64 c.args.z2 c.ranges.z2)
    (passed_last (starts_by facets height) (ends_above facets height) c.args.order.now at.count at.rest.now at.active.items BLOCK_LEN c.in_ok-started.started
    at.invariant.passed (started g own) short)

pub returns-then-started-block-clause-active : goal.returns-then-started-block-clause-active
returns-then-started-block-clause-active g c =
    let height = to_z w64 (of_z w64 c.args.z2) in let facets = c.args.s.now.facets in let at = c.loop-top in
    let own = (goal.at.returns-then-started-block-clause-active g c).In_ok-started in
    subst (λ y. c.pass_block.new.active.items ≡ filter (ends_above facets y) (take (at.count + c.in_ok-started.started) c.args.order.now)) (to_z-of_z w64 c.args.z2 c.ranges.z2)
    (found_more (starts_by facets height) (ends_above facets height) c.args.order.now at.count at.rest.now at.active.items BLOCK_LEN c.in_ok-started.started
    at.invariant.passed (started g own) c.pass_block.new.active.items (appended g own))

pub returns-clause-count : goal.returns-clause-count
returns-clause-count g c =
    let height = to_z w64 (of_z w64 c.args.z2) in let facets = c.args.s.now.facets in let at = c.loop-top in
    subst (λ y. at.count ≡ prefix_len (starts_by facets y) c.args.order.now) (to_z-of_z w64 c.args.z2 c.ranges.z2)
    (passed_all (starts_by facets height) (ends_above facets height) c.args.order.now at.count at.rest.now at.active.items
    (no_block (top_of facets) at.rest.now c.args.tops.now at.top-index c.loop-top-test.false at.invariant.tops) at.invariant.passed)

pub returns-clause-active : goal.returns-clause-active
returns-clause-active g c =
    let passed = c.loop-top.invariant.passed in
    subst (λ y. c.loop-top.active.items ≡ filter (ends_above c.args.s.now.facets y) (take c.loop-top.count c.args.order.now)) (to_z-of_z w64 c.args.z2 c.ranges.z2)
    passed.found_is
