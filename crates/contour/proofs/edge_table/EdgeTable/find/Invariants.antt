use Rattle.std.proofs.Common.{length}
use Rattle.contour.specs.EdgeTable.{bucket}
use Rattle.contour.proofs.lemmas.EdgeTables.{IsSearched}
use Rattle.contour.proofs.edge_table.EdgeTable.find.Given as goal

abbrev pub invariant-loop-end : goal.invariant-loop-end
invariant-loop-end g l = IsSearched (bucket (length l.self.ends.items)) l.self.edges.items l.edge l.end

abbrev pub decreases-loop-end : goal.decreases-loop-end
decreases-loop-end g l = l.end
