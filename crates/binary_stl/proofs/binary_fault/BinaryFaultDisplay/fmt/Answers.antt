use Rattle.binary_stl.proofs.binary_fault.BinaryFaultDisplay.fmt.Goals as goal

pub returns-in-Length-clause-writes : goal.returns-in-Length-clause-writes
returns-in-Length-clause-writes g c = rw c.in-Length.is c.write.ensures.writes
