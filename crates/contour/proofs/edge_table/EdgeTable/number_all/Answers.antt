use Rattle.std.proofs.Common.{◌∙◌, ap, length, arith}
use Rattle.std.proofs.lemmas.List.{length-append}
use Rattle.contour.proofs.lemmas.EdgeTables.{numbered-begins, numbered-more}
use Rattle.contour.proofs.edge_table.EdgeTable.number_all.Goals as goal

pub loop-i-init : goal.loop-i-init
loop-i-init g c = record { table = c.requires.table; numbered = numbered-begins _ _ }

pub number-requires-clause-room : goal.number-requires-clause-room
number-requires-clause-room g c =
    let p = c.loop-i.invariant.numbered in
    let size = ap length p.grown ∙ length-append _ p.more in
    let few = p.few in
    omega (arith, size, few, c.requires.room, c.loop-i-test.true)

pub loop-i-preserved : goal.loop-i-preserved
loop-i-preserved g c = record {
  table = c.in_ok-list.ensures.table;
  numbered = numbered-more _ _ _ _ _ _ _ c.loop-i.invariant.numbered (omega (arith, c.loop-i-test.true, c.loop-i.auto.list)) c.in_ok-list.ensures.numbered;
}
