use Rattle.std.proofs.Common.{refl, ◌∙◌, arith}
use Rattle.std.proofs.lemmas.Int.{to_z-of_z}
use mir.Syntax.{w64}
use Rattle.raster.proofs.lemmas.Segs.{below-all, pushed-more, pushed-none, pushed-passed, pushed-signs}
use Rattle.raster.proofs.crossings.push_facets.Goals as goal

pub loop-segment-init : goal.loop-segment-init
loop-segment-init g c = record {
  pushed = pushed-none c.args.s.now.facets _ c.args.lattice.now c.args.list.now c.args.out.now c.requires.empty;
  rows = refl;
}

pub facet-requires : goal.facet-requires
facet-requires g c = below-all c.args.s.now.facets c.args.z2 c.args.list.now c.loop-segment.segment-index c.segment-item.result c.requires.list c.loop-segment-test.true c.segment-item.is

pub loop-segment-preserved : goal.loop-segment-preserved
loop-segment-preserved g c = record {
  pushed = pushed-more c.args.s.now.facets _ c.args.lattice.now c.args.list.now c.loop-segment.segment-index c.segment-item.result c.facet.result c.loop-segment.out c.push_facet.new.out
      c.loop-segment-test.true c.segment-item.is c.facet.ensures.value c.in_ok-push_facet.ensures.signs c.in_ok-push_facet.ensures.passed c.in_ok-push_facet.ensures.within
      c.loop-segment.invariant.pushed;
  rows = c.in_ok-push_facet.ensures.rows ∙ c.loop-segment.invariant.rows;
}

pub returns-clause-signs : goal.returns-clause-signs
returns-clause-signs g c =
    let h = rw (to_z-of_z w64 c.args.z2 c.ranges.z2) at c.loop-segment.invariant.pushed in
    pushed-signs c.args.s.now.facets c.args.z2 c.args.lattice.now c.args.list.now c.loop-segment.segment-index c.loop-segment.out c.requires.list (omega (arith, c.loop-segment-test.false)) h

pub returns-clause-passed : goal.returns-clause-passed
returns-clause-passed g c =
    let h = rw (to_z-of_z w64 c.args.z2 c.ranges.z2) at c.loop-segment.invariant.pushed in
    pushed-passed c.args.s.now.facets c.args.z2 c.args.lattice.now c.args.list.now c.loop-segment.segment-index c.loop-segment.out c.requires.list (omega (arith, c.loop-segment-test.false)) h
