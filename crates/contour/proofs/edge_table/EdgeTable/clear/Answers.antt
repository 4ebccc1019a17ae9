use Rattle.std.proofs.Common.{arith, refl}
use Rattle.contour.proofs.lemmas.EdgeTables.{table-begins}
use Rattle.contour.proofs.edge_table.EdgeTable.clear.Goals as goal

pub returns-clause-table : goal.returns-clause-table
returns-clause-table g c =
    let size = c.in_ok-resize.ensures.len in
    let none = c.clear-3.ensures.len in
    table-begins _ _ _ (omega (arith, c.requires.some, size, c.resize.new.self.ok.0)) (omega (arith, c.requires.few, size, c.resize.new.self.ok.0))
    (λ b l. c.in_ok-resize.ensures.by_index.1 b 0 refl (omega arith) (omega (arith, l, size, c.resize.new.self.ok.0))) c.clear.ensures.items c.clear-2.ensures.items
