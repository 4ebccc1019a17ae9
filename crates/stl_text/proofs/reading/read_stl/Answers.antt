use Rattle.stl_text.proofs.reading.read_stl.Goals as goal

pub returns : goal.returns
returns g c = c.read_stl_at_most.ensures
