use Rattle.std.proofs.Common.{◌∙◌, ap, sym, subst, arith}
use Rattle.std.specs.Prelude.{All}
use Rattle.std.proofs.lemmas.Int.{to_z-of_z}
use Rattle.plane_segments.proofs.lemmas.Positions.{segments_to-some, segments_to-none}
use Rattle.plane_segments.specs.Segment.{HasOrderedNodes}
use Rattle.plane_segments.proofs.lemmas.NodeOrder.{ordered-more}
use Rattle.plane_segments.proofs.segment.segments.Goals as goal
use Rattle.plane_segments.proofs.segment.segments.Goals.{in-Some+in_ok-push, in_default}

pub loop-facet-preserved : goal.loop-facet-preserved
loop-facet-preserved g c = elim c.match-segment_at.branch [
  | in-Some+in_ok-push w ↦ record {
    segments = grind (arith, to_z-of_z, segments_to-some, w.in_ok-push.ensures.items);
    ordered = subst (All HasOrderedNodes) (sym (ap (λ list. list.items) w.list-is ∙ w.in_ok-push.ensures.items))
        (ordered-more c.loop-facet.list.items w.in-Some.segment c.loop-facet.invariant.ordered w.in-Some.ensures.ordered);
  }
  | in_default w ↦ record {
    segments = grind (arith, to_z-of_z, segments_to-none);
    ordered = subst (All HasOrderedNodes) (sym (ap (λ list. list.items) w.list-is)) c.loop-facet.invariant.ordered;
  }
]
