use Rattle.std.proofs.Common.{take}
use Rattle.mesh_weld.specs.Welder.{AreNamedMore}
use Rattle.mesh_weld.proofs.names.Names.name.Given as goal

abbrev pub invariant-loop-at : goal.invariant-loop-at
invariant-loop-at g l = AreNamedMore l.fn.self l.fn.kept (take l.at l.facets) l.self l.kept
