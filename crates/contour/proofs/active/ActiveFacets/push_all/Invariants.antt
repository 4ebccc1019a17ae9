use Rattle.std.proofs.Common.{◌≡◌, ◌++◌, take, map}
use Rattle.mesh_weld.specs.Solid.{top_of}
use Rattle.contour.proofs.active.ActiveFacets.push_all.Given as goal

abbrev pub invariant-loop-n : goal.invariant-loop-n
invariant-loop-n g l = record {
  numbers : l.self.numbers.items ≡ l.fn.self.numbers.items ++ take l.n-index l.numbers;
  tops : l.self.tops.items ≡ l.fn.self.tops.items ++ map (top_of l.s.facets) (take l.n-index l.numbers);
}
