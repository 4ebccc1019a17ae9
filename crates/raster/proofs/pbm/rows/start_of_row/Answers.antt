use Rattle.raster.proofs.lemmas.SpanOrder.{split-here}
use Rattle.raster.proofs.pbm.rows.start_of_row.Goals as goal

pub returns-else-spans-start-clause-split : goal.returns-else-spans-start-clause-split
returns-else-spans-start-clause-split c =
    split-here c.args.spans.now c.loop-start.start c.args.end c.args.number c.requires.form.apart c.requires.split c.loop-start.invariant.order c.loop-start-test.true c.if-spans-start.false c.loop-start.invariant.above
