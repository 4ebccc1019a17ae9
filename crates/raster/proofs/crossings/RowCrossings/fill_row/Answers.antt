use Rattle.std.proofs.Common.{◌≡◌, List, ap, length, refl, subst, sym, true, ◌∙◌, drop}
use Rattle.std.specs.Prelude.{IsPermutation, OnOk, nat_le}
use Rattle.std.specs.List.{list_all}
use Rattle.std.proofs.lemmas.List.Sorted.{IsPermutation-refl, length_permutation}
use Rattle.smallvec.specs.SmallVec.{with_items}
use Rattle.smallvec.proofs.SmallVecLemmas.{items-with_items}
use Rattle.raster.specs.declared.crossings.RowCrossing.{RowCrossing}
use Rattle.raster.specs.Crossings.{crossings_in}
use Rattle.raster.specs.RowCrossing.{signs}
use Rattle.raster.specs.RowSpans.{AreRowSpans}
use Rattle.raster.proofs.lemmas.RowCrossings.{changed-elsewhere, changed-here, read-row, row-inside, same-count}
use Rattle.raster.proofs.crossings.RowCrossings.fill_row.Given.{Over}
use Rattle.raster.proofs.crossings.RowCrossings.fill_row.Goals.{After-as_mut_slice-crossings}
use Rattle.raster.proofs.crossings.RowCrossings.fill_row.Goals as goal

read : (g : Over) (c : After-as_mut_slice-crossings g) → c.as_mut_slice-crossings.result.now ≡ crossings_in c.args.self.now c.args.row
read g c =
    c.as_mut_slice-crossings.ensures.value
    ∙ read-row (λ v. v.items) c.self.inside.rows.items c.args.self.now c.args.row c.index_mut.result.now c.self.view_is c.requires.row c.index_mut.ensures.value

pub as_mut_slice-crossings-requires : goal.as_mut_slice-crossings-requires
as_mut_slice-crossings-requires g c = c.fits_in_memory.ensures c.if-not-fits_in_memory.false

pub fill_row-requires-clause-within : goal.fill_row-requires-clause-within
fill_row-requires-clause-within g c =
    subst (λ (l : List RowCrossing). list_all (λ m. nat_le m.column c.args.width) l ≡ true) (sym (read g (goal.at.fill_row-requires-clause-within g c).After-as_mut_slice-crossings)) c.requires.within

pub fill_row-requires-clause-balanced : goal.fill_row-requires-clause-balanced
fill_row-requires-clause-balanced g c = ap signs (read g (goal.at.fill_row-requires-clause-balanced g c).After-as_mut_slice-crossings) ∙ c.requires.balanced

pub returns-clause-here : goal.returns-clause-here
returns-clause-here g c =
    let held = c.as_mut_slice-crossings.ensures.value in
    let size : length c.fill_row.new.crossings ≡ length c.index_mut.result.now.items = length_permutation c.as_mut_slice-crossings.result.now c.fill_row.new.crossings c.fill_row.ensures.permutation ∙ ap length held in
    let after = changed-here (λ v. v.items) c.self.inside.rows.items c.args.self.now c.args.row (with_items c.index_mut.result.now c.fill_row.new.crossings) c.self.view_is c.requires.row
    ∙ items-with_items c.index_mut.result.now c.fill_row.new.crossings size in
    subst (λ (l : List RowCrossing). IsPermutation (crossings_in c.args.self.now c.args.row) l) (sym after)
    (subst (λ (l : List RowCrossing). IsPermutation l c.fill_row.new.crossings) (read g (goal.at.returns-clause-here g c).After-as_mut_slice-crossings) c.fill_row.ensures.permutation)

pub returns-clause-elsewhere : goal.returns-clause-elsewhere
returns-clause-elsewhere g c =
    changed-elsewhere (λ v. v.items) c.self.inside.rows.items c.args.self.now c.args.row (with_items c.index_mut.result.now c.fill_row.new.crossings) c.self.view_is

pub returns-clause-added : goal.returns-clause-added
returns-clause-added g c =
    subst (λ (l : List RowCrossing). OnOk c.fill_row.result (AreRowSpans c.args.rule c.args.row l (drop (length c.args.out.now.items) c.fill_row.new.out.items)))
    (read g (goal.at.returns-clause-added g c).After-as_mut_slice-crossings) c.fill_row.ensures.added

pub returns-then-not-fits_in_memory-clause-between_rows : goal.returns-then-not-fits_in_memory-clause-between_rows
returns-then-not-fits_in_memory-clause-between_rows g c = c.requires.between_rows

pub returns-then-not-fits_in_memory-clause-rows : goal.returns-then-not-fits_in_memory-clause-rows
returns-then-not-fits_in_memory-clause-rows g c = refl

pub returns-then-not-fits_in_memory-clause-here : goal.returns-then-not-fits_in_memory-clause-here
returns-then-not-fits_in_memory-clause-here g c = IsPermutation-refl (crossings_in c.args.self.now c.args.row)

pub returns-then-not-fits_in_memory-clause-elsewhere : goal.returns-then-not-fits_in_memory-clause-elsewhere
returns-then-not-fits_in_memory-clause-elsewhere g c = λ j other. refl

pub index_mut-requires : goal.index_mut-requires
index_mut-requires g c = row-inside (λ v. v.items) c.self.inside.rows c.args.self.now c.args.row c.self.view_is c.requires.row

pub fill_row-requires-clause-between_rows : goal.fill_row-requires-clause-between_rows
fill_row-requires-clause-between_rows g c = c.requires.between_rows

pub returns-clause-between_rows : goal.returns-clause-between_rows
returns-clause-between_rows g c = c.fill_row.ensures.between_rows

pub returns-clause-rows : goal.returns-clause-rows
returns-clause-rows g c =
    same-count (λ v. v.items) c.self.inside.rows.items c.args.self.now c.args.row (with_items c.index_mut.result.now c.fill_row.new.crossings) c.self.view_is

pub returns-clause-kept : goal.returns-clause-kept
returns-clause-kept g c = c.fill_row.ensures.kept
