use Rattle.mesh_reading.proofs.round.Rounds.new.Goals as goal

pub returns-clause-next : goal.returns-clause-next
returns-clause-next g c = c.in_ok-new-2.ensures
