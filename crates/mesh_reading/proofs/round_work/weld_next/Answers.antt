use Rattle.mesh_reading.proofs.lemmas.Rounds.{welded_given}
use Rattle.mesh_reading.proofs.round_work.weld_next.Goals as goal

pub returns-clause-welded : goal.returns-clause-welded
returns-clause-welded g c =
    welded_given c.args.facets.now c.with_room-room.result.now c.args.welder.now c.add.new.self c.with_room-room.ensures.all c.in_ok-add.ensures.whole
