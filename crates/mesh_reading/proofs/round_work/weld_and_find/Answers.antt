use Rattle.std.proofs.Common.{◌≡◌, ◌++◌, rules, subst}
use Rattle.std.specs.Prelude.{OnOk}
use Rattle.std.proofs.lemmas.Result.{on_ok_weaker}
use Rattle.mesh_weld.specs.Welder.{welder_of}
use Rattle.mesh_reading.specs.Loading.{HasWelded}
use Rattle.mesh_reading.proofs.lemmas.Rounds.{filled_anyway, welded_given, welded_too}
use Rattle.mesh_reading.proofs.round_work.weld_and_find.Goals as goal

pub returns-clause-welded : goal.returns-clause-welded
returns-clause-welded g c =
    let given = c.with_room-room.result.now in let new = c.add_beside-welded.new.self in let facets = c.args.facets.now in
    rw c.and.ensures
    (welded_too c.add_beside-welded.result.2.1 c.weld_fault.result (HasWelded facets c.args.welder.now new)
    (on_ok_weaker c.weld_fault.result
    (λ ok. welded_given facets given c.args.welder.now new c.with_room-room.ensures.all
    (λ taken is. subst (λ r. OnOk r (new ≡ welder_of (taken ++ given))) ok (c.add_beside-welded.ensures.welded.whole taken is)))
    c.weld_fault.ensures.welded))

pub returns-clause-filled : goal.returns-clause-filled
returns-clause-filled g c =
    let filled = c.add_beside-welded.ensures.own in
    rw c.and.ensures (filled_anyway g.I.Source.remaining g.I.Failures.failure_count c.args.source.now _ c.args.next.now _
    c.add_beside-welded.result.2.1 c.weld_fault.result c.weld_fault.ensures.only (search (rules, filled)))
