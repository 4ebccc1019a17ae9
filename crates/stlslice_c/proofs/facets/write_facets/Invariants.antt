use Rattle.std.proofs.Common.{◌≡◌, ◌++◌, drop, map, take}
use Rattle.stlslice_c.specs.Facets.{facet_told}
use Rattle.stlslice_c.proofs.facets.write_facets.Given as goal

abbrev pub invariant-loop-at : goal.invariant-loop-at
invariant-loop-at l = l.facets ≡ map facet_told (take l.at l.found) ++ drop l.at l.fn.facets
