use Rattle.std.proofs.Common.{arith, refl, ◌∙◌}
use Rattle.std.proofs.lemmas.List.{length-set}
use Rattle.raster.proofs.lemmas.RowCrossings.{empty-more}
use Rattle.raster.proofs.crossings.forget_all.Goals as goal

pub loop-row-init : goal.loop-row-init
loop-row-init g c = record { rows = refl; empty = λ k d low. absurd (omega (arith, low)) }

pub loop-row-preserved : goal.loop-row-preserved
loop-row-preserved g c =
    let rows = c.loop-row.rows in
    record {
      rows = length-set rows.items c.loop-row.row c.forget.new.crossings ∙ c.loop-row.invariant.rows;
      empty = empty-more (λ v. v.items) rows.items c.loop-row.row c.forget.new.crossings c.forget.ensures
          (omega (arith, c.loop-row-test.true, c.len-row-end.ensures, c.loop-row.invariant.rows, c.args.rows.now.ok.0)) c.loop-row.invariant.empty;
    }

pub returns-clause-empty : goal.returns-clause-empty
returns-clause-empty g c = λ k d low.
    c.loop-row.invariant.empty k d (omega (arith, low, c.loop-row-test.false, c.len-row-end.ensures, c.loop-row.invariant.rows, c.args.rows.now.ok.0))

pub returns-clause-count : goal.returns-clause-count
returns-clause-count g c = c.loop-row.invariant.rows

pub index_mut-requires : goal.index_mut-requires
index_mut-requires g c =
    omega (arith, c.loop-row-test.true, c.len-row-end.ensures, c.loop-row.invariant.rows, c.args.rows.now.ok.0, c.loop-row.rows.ok.0)
