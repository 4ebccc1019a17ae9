use Rattle.std.proofs.Common.{◌≡◌, ◌-◌, ◌∙◌, length, sym, subst, ap, arith}
use Rattle.contour.specs.Loops.{AreLoops, parts_from}
use Rattle.contour.proofs.lemmas.Parts.{AreOthers}
use Rattle.contour.proofs.lemmas.Traces.{trace-ends, trace-others}
use Rattle.contour.proofs.linker.trace_loops.Goals as goal

pub of-requires : goal.of-requires
of-requires g c =
    let ends = c.trace_all.new.ends in
    let before : ends.len - 1 ≡ length ends.items - 1 = omega (arith, ends.ok.0) in
    let others : AreOthers ends.items c.in_ok-inner_ends.inner_ends.items (length c.trace_all.new.flat.items) =
    trace-others c.args.list.now c.args.next.now (length c.args.list.now) c.trace_all.new.visited.items c.trace_all.new.flat.items ends.items
    c.in_ok-inner_ends.inner_ends.items (ends.len - 1) c.in_ok-trace_all.ensures
    (c.in_ok-inner_ends.ensures.items_if_clones_equal (λ x y h. h) ∙ c.as_slice.ensures.value ∙ c.pop.ensures.rest) before in
    others.inner_are

pub returns : goal.returns
returns g c =
    let ends = c.trace_all.new.ends in
    let before : ends.len - 1 ≡ length ends.items - 1 = omega (arith, ends.ok.0) in
    let others : AreOthers ends.items c.in_ok-inner_ends.inner_ends.items (length c.trace_all.new.flat.items) =
    trace-others c.args.list.now c.args.next.now (length c.args.list.now) c.trace_all.new.visited.items c.trace_all.new.flat.items ends.items
    c.in_ok-inner_ends.inner_ends.items (ends.len - 1) c.in_ok-trace_all.ensures
    (c.in_ok-inner_ends.ensures.items_if_clones_equal (λ x y h. h) ∙ c.as_slice.ensures.value ∙ c.pop.ensures.rest) before in
    subst (AreLoops c.args.list.now) (sym (c.of.ensures ∙ ap (λ es. parts_from 0 es c.trace_all.new.flat.items) others.all))
    (trace-ends c.args.list.now c.args.next.now (length c.args.list.now) c.trace_all.new.visited.items c.trace_all.new.flat.items ends.items c.in_ok-trace_all.ensures (omega arith))
