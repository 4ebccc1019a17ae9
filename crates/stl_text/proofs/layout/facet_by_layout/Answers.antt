use Rattle.stl_text.proofs.layout.facet_by_layout.Goals as goal

pub returns-in-Inch-clause-read : goal.returns-in-Inch-clause-read
returns-in-Inch-clause-read c = rw c.in-Inch.is c.facet_in_unit-in-Inch.ensures.read
