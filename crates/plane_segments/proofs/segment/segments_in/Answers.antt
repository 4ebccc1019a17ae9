use Rattle.std.proofs.Common.{◌∙◌, ap, sym, subst, to_z, of_z, w64}
use Rattle.std.specs.Prelude.{All}
use Rattle.plane_segments.specs.Segment.{HasOrderedNodes}
use Rattle.plane_segments.proofs.lemmas.NodeOrder.{ordered-more}
use Rattle.plane_segments.proofs.lemmas.Positions.{picked-some, picked-none}
use Rattle.plane_segments.proofs.segment.segments_in.Goals as goal
use Rattle.plane_segments.proofs.segment.segments_in.Goals.{in-Some+in_ok-push, in_default}

pub loop-i-preserved : goal.loop-i-preserved
loop-i-preserved g c = elim c.match-segment_in.branch [
  | in-Some+in_ok-push w ↦ record {
    segments = picked-some c.args.s.now.facets (to_z w64 (of_z w64 c.args.z2)) c.args.numbers.now c.loop-i.i w.in-Some.segment
        c.loop-i.list.items w.push.new.self.items c.match-segment_in.list.items c.loop-i-test.true w.in-Some.ensures.segment
        (ap (λ list. list.items) w.list-is) w.in_ok-push.ensures.items c.loop-i.invariant.segments;
    ordered = subst (All HasOrderedNodes) (sym (ap (λ list. list.items) w.list-is ∙ w.in_ok-push.ensures.items))
        (ordered-more c.loop-i.list.items w.in-Some.segment c.loop-i.invariant.ordered w.in-Some.ensures.ordered);
  }
  | in_default w ↦ record {
    segments = picked-none c.args.s.now.facets (to_z w64 (of_z w64 c.args.z2)) c.args.numbers.now c.loop-i.i
        c.loop-i.list.items c.match-segment_in.list.items c.loop-i-test.true w.in_default.ensures.segment
        (ap (λ list. list.items) w.list-is) c.loop-i.invariant.segments;
    ordered = subst (All HasOrderedNodes) (sym (ap (λ list. list.items) w.list-is)) c.loop-i.invariant.ordered;
  }
]
