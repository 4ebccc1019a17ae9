use Rattle.mesh_reading.proofs.round_work.fill_first.Goals as goal

pub returns-clause-found : goal.returns-clause-found
returns-clause-found g c = c.runs.ensures

pub returns-clause-filled : goal.returns-clause-filled
returns-clause-filled g c = c.fill-filled.ensures
