use Rattle.stl_text.proofs.text_reader.add_all.Goals as goal

pub returns-clause-added : goal.returns-clause-added
returns-clause-added g c = c.in_ok-extend_from_slice.ensures.items
