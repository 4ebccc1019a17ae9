use Rattle.std.proofs.Common.{◌∙◌, ◌+◌, ◌++◌, ap, sym, map, drop, arith, to_z, of_z, w32, w64}
use Rattle.std.specs.Prelude.{filter, FitsSigned}
use Rattle.std.proofs.lemmas.Int.{to_z-of_z}
use Rattle.mesh_weld.specs.Solid.{top_of}
use Rattle.contour.specs.Active.{ends_above, merge}
use Rattle.contour.proofs.lemmas.Pushes.{top_next, tops_joined, merge-done, merge-next}
use Rattle.contour.proofs.active.ActiveFacets.advance.Goals as goal

pub loop-i-init : goal.loop-i-init
loop-i-init g c = record {
  merged = ap (λ ns. ns ++ merge (filter (ends_above c.args.s.now.facets (to_z w64 (of_z w64 c.args.z2))) c.args.before.now.numbers.items) c.args.fresh.now) c.clear.ensures.numbers;
  tops = c.clear.ensures.tops ∙ ap (map (top_of c.args.s.now.facets)) (sym c.clear.ensures.numbers);
  rest = c.requires.fresh;
}

pub push_if_above-requires-clause-top : goal.push_if_above-requires-clause-top
push_if_above-requires-clause-top g c κs within =
    let fits : FitsSigned w32 c.index.result.now = record { sfits = omega arith } in
    to_z-of_z w32 c.index.result.now fits
    ∙ top_next c.args.s.now.facets c.args.before.now.tops.items c.args.before.now.numbers.items c.deref-n-items.result.now c.loop-i.i c.index.result.now
    c.deref-n-items.ensures.value c.loop-i-test.true c.requires.tops c.index.ensures

pub loop-i-preserved : goal.loop-i-preserved
loop-i-preserved g c = record {
  merged = merge-next c.args.s.now.facets (to_z w64 (of_z w64 c.args.z2)) c.args.before.now.numbers.items c.deref-n-items.result.now c.loop-i.i
      c.loop-i.self.numbers.items c.loop-i.rest.now c.push_if_above.new.self.numbers.items c.in_ok-rest.rest.now
      (merge (filter (ends_above c.args.s.now.facets (to_z w64 (of_z w64 c.args.z2))) c.args.before.now.numbers.items) c.args.fresh.now)
      c.deref-n-items.ensures.value c.loop-i-test.true
      (c.in_ok-rest.ensures.numbers (filter (ends_above c.args.s.now.facets (to_z w64 (of_z w64 c.args.z2))) (drop (c.loop-i.i + 1) c.args.before.now.numbers.items)))
      c.loop-i.invariant.merged;
  tops = c.in_ok-rest.ensures.tops c.loop-i.invariant.tops;
  rest = c.in_ok-rest.ensures.left;
}

pub returns-clause-numbers : goal.returns-clause-numbers
returns-clause-numbers g c =
    merge-done c.args.s.now.facets (to_z w64 (of_z w64 c.args.z2)) c.args.z2 c.args.before.now.numbers.items c.deref-n-items.result.now c.loop-i.i
    c.loop-i.self.numbers.items c.loop-i.rest.now c.push_all.new.self.numbers.items c.args.fresh.now
    (to_z-of_z w64 c.args.z2 c.ranges.z2) c.deref-n-items.ensures.value c.loop-i-test.false c.loop-i.invariant.merged c.in_ok-push_all.ensures.numbers

pub returns-clause-tops : goal.returns-clause-tops
returns-clause-tops g c =
    tops_joined c.args.s.now.facets c.loop-i.self.numbers.items c.loop-i.rest.now c.push_all.new.self.numbers.items c.loop-i.self.tops.items c.push_all.new.self.tops.items
    c.loop-i.invariant.tops c.in_ok-push_all.ensures.numbers c.in_ok-push_all.ensures.tops
