use Rattle.mesh_weld.proofs.numbering.named_numbering.Goals as goal

pub numbered-requires-clause-named : goal.numbered-requires-clause-named
numbered-requires-clause-named g c = c.requires.named

pub numbered-requires-clause-edges : goal.numbered-requires-clause-edges
numbered-requires-clause-edges g c = rw (c.in-Ok-Some.is, c.in-Ok-Some.field-0-is) at c.requires.edges

pub numbered-requires-clause-orders : goal.numbered-requires-clause-orders
numbered-requires-clause-orders g c = rw (c.in-Ok-Some.is, c.in-Ok-Some.field-0-is) at c.requires.orders

pub numbering_by_sorts-requires-clause-below : goal.numbering_by_sorts-requires-clause-below
numbering_by_sorts-requires-clause-below g c = c.requires.named.below
