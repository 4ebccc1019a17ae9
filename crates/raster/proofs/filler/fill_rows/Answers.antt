use Rattle.std.proofs.Common.{◌≡◌, ℕ, List, ap, subst, ◌∙◌, arith}
use Rattle.std.specs.Prelude.{nat_le}
use Rattle.std.specs.List.{list_all}
use Rattle.raster.specs.declared.crossings.RowCrossing.{RowCrossing}
use Rattle.raster.specs.RowCrossing.{signs}
use Rattle.raster.specs.Filler.{AreSpansBelow}
use Rattle.raster.proofs.lemmas.Layers.{spans-more}
use Rattle.raster.proofs.filler.fill_rows.Goals as goal

pub fill_row-requires-clause-balanced : goal.fill_row-requires-clause-balanced
fill_row-requires-clause-balanced g c =
    ap signs (c.loop-row.invariant.left c.loop-row.row (omega arith)) ∙ c.requires.balanced c.loop-row.row c.loop-row-test.true

pub fill_row-requires-clause-within : goal.fill_row-requires-clause-within
fill_row-requires-clause-within g c =
    ap (λ (l : List RowCrossing). list_all (λ m. nat_le m.column c.args.width) l) (c.loop-row.invariant.left c.loop-row.row (omega arith)) ∙ c.requires.within c.loop-row.row

pub loop-row-preserved : goal.loop-row-preserved
loop-row-preserved g c =
    let inv = c.loop-row.invariant in
    let done = c.in_ok-fill_row.ensures in
    record {
      rows = done.rows ∙ inv.rows;
      left = λ j low. done.elsewhere j (λ same. omega (arith, low, same)) ∙ inv.left j (omega (arith, low));
      between_rows = done.between_rows;
      spans = λ columns inside.
          spans-more c.args.rule columns c.loop-row.row c.args.crossings.now c.loop-row.out.items c.fill_row.new.out.items inside done.kept
          (rw (inv.left c.loop-row.row (omega arith)) at done.added) (inv.spans columns inside);
    }

pub returns-clause-spans : goal.returns-clause-spans
returns-clause-spans g c = λ columns inside.
    let all : c.loop-row.row ≡ c.args.rows = omega (arith, c.loop-row-test.false) in
    subst (λ (n : ℕ). AreSpansBelow c.args.rule columns n c.args.crossings.now c.loop-row.out.items) all (c.loop-row.invariant.spans columns inside)
