use Rattle.contour.specs.EdgeTable.{AreNumbered, IsTable}
use Rattle.contour.proofs.edge_table.EdgeTable.number_all.Given as goal

abbrev pub invariant-loop-i : goal.invariant-loop-i
invariant-loop-i g l = record {
  table : IsTable l.self.ends.items l.self.edges.items l.self.before.items;
  numbered : AreNumbered l.fn.self.edges.items l.fn.list l.self.edges.items l.list l.i;
}
