use Rattle.std.proofs.Common.{◌≡◌, take, map}
use Rattle.contour.specs.Linker.{edge_of_facet}
use Rattle.contour.proofs.linker.SegmentEdges.fill.Given as goal

abbrev pub invariant-loop-t : goal.invariant-loop-t
invariant-loop-t g l = record {
  starts : l.self.starts.items ≡ map (λ t. edge_of_facet l.s.facets l.numbers t.facet t.from) (take l.t-index l.list);
  finishes : l.self.finishes.items ≡ map (λ t. edge_of_facet l.s.facets l.numbers t.facet t.to) (take l.t-index l.list);
}
