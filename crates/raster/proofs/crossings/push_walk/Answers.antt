use Rattle.std.proofs.Common.{◌++◌, ◌∙◌, ap, length, arith, refl, rules}
use Rattle.std.specs.Prelude.{pos}
use Rattle.std.specs.Ordering.{int_eq}
use Rattle.geometry.specs.declared.limits.TheConstants.{COLUMN_LIMIT}
use Rattle.raster.specs.Crossings.{crossings_along, crossings_in}
use Rattle.raster.proofs.lemmas.Walks.{along-all, along-more, columns-left, falls-on, first-fits, row-in, some-left}
use Rattle.raster.proofs.crossings.push_walk.Goals as goal

pub loop-row-preserved : goal.loop-row-preserved
loop-row-preserved g c =
    let inv = c.loop-row.invariant in
    let next = c.next_column-column.ensures in
    record {
      row = omega (arith, inv.row, next.row);
      end = omega (arith, inv.end, next.row, ap length next.column);
      rows = c.in_ok-push.ensures.rows ∙ inv.rows;
      few_columns = columns-left COLUMN_LIMIT _ c.loop-row.walk.columns c.next_column-column.new.self.columns next.column inv.few_columns;
      added = λ j. along-more c.loop-row.out c.push.new.self (crossings_in c.args.out.now j ++ crossings_along c.args.walk.row _ c.args.walk.columns j) c.loop-row.row c.loop-row.walk.row c.next_column-column.new.self.row c.next_column-column.result _ c.loop-row.walk.columns c.next_column-column.new.self.columns
          next.column inv.row next.row c.in_ok-push.ensures.here c.in_ok-push.ensures.elsewhere j (inv.added j);
    }

pub loop-row-init : goal.loop-row-init
loop-row-init g c = record { row = c.row-row.ensures; end = c.end-row-end.ensures; rows = refl; few_columns = c.requires.few_columns; added = λ j. refl }

pub next_column-column-requires : goal.next_column-column-requires
next_column-column-requires g c = some-left c.loop-row.row c.end-row-end.result c.loop-row.walk.row (length c.loop-row.walk.columns) c.loop-row-test.true c.loop-row.invariant.row c.loop-row.invariant.end

pub overflow_cast-crossing : goal.overflow_cast-crossing
overflow_cast-crossing g c = first-fits c.loop-row.walk.columns c.next_column-column.new.self.columns c.next_column-column.result c.next_column-column.ensures.column c.loop-row.invariant.few_columns

pub push-requires : goal.push-requires
push-requires g c = row-in c.loop-row.row c.end-row-end.result _ (length c.loop-row.out) (length c.args.out.now) c.loop-row-test.true c.end-row-end.ensures c.requires.rows c.loop-row.invariant.rows

pub returns-in_err-push-clause-rows : goal.returns-in_err-push-clause-rows
returns-in_err-push-clause-rows g c = c.in_err-push.ensures.rows ∙ c.loop-row.invariant.rows

pub loop-row-smaller : goal.loop-row-smaller
loop-row-smaller g c = falls-on c.end-row-end.result c.loop-row.row c.loop-row-test.true

pub returns-clause-rows : goal.returns-clause-rows
returns-clause-rows g c = c.loop-row.invariant.rows

pub returns-clause-added : goal.returns-clause-added
returns-clause-added g c = λ j.
    along-all c.loop-row.row c.end-row-end.result c.loop-row.walk.row c.args.walk.row _ (int_eq c.args.walk.sign (pos 1)) c.loop-row.walk.columns c.args.walk.columns
    (crossings_in c.loop-row.out j) (crossings_in c.args.out.now j) j c.loop-row-test.false c.loop-row.invariant.row c.loop-row.invariant.end (c.loop-row.invariant.added j) (search rules)
