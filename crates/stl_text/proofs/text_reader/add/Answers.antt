use Rattle.stl_text.proofs.text_reader.add.Goals as goal

pub returns-clause-added : goal.returns-clause-added
returns-clause-added g c = c.in_ok-push.ensures.items
