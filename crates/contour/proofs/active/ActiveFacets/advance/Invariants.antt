use Rattle.std.proofs.Common.{◌≡◌, ◌<◌, ◌++◌, drop, length, map}
use Rattle.std.specs.Prelude.{All, filter}
use Rattle.mesh_weld.specs.Solid.{top_of}
use Rattle.contour.specs.Active.{ends_above, merge}
use Rattle.contour.proofs.active.ActiveFacets.advance.Given as goal

abbrev pub invariant-loop-i : goal.invariant-loop-i
invariant-loop-i g l = record {
  merged : l.self.numbers.items ++ merge (filter (ends_above l.s.facets l.z2) (drop l.i l.before.numbers.items)) l.rest
      ≡ merge (filter (ends_above l.s.facets l.z2) l.before.numbers.items) l.fresh;
  tops : l.self.tops.items ≡ map (top_of l.s.facets) l.self.numbers.items;
  rest : All (λ n. n < length l.s.facets) l.rest;
}
