use Rattle.mesh_reading.proofs.window.fill.Goals as goal

pub returns-in-Err-clause-end : goal.returns-in-Err-clause-end
returns-in-Err-clause-end g c = λ e. cc
