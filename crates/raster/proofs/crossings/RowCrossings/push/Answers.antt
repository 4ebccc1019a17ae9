use Rattle.std.proofs.Common.{◌++◌, ◌∷◌, [], ap, refl, ◌∙◌}
use Rattle.std.proofs.lemmas.Result.{on_err_weaker, on_ok_weaker}
use Rattle.raster.proofs.lemmas.RowCrossings.{changed-elsewhere, changed-here, read-row, row-inside, same-count, unchanged}
use Rattle.raster.proofs.crossings.RowCrossings.push.Goals as goal

pub returns-clause-here : goal.returns-clause-here
returns-clause-here g c =
    let before = read-row (λ v. v.items) c.self.inside.rows.items c.args.self.now c.args.row c.index_mut.result.now c.self.view_is c.requires c.index_mut.ensures.value in
    on_ok_weaker c.push.result
    (λ added. changed-here (λ v. v.items) c.self.inside.rows.items c.args.self.now c.args.row c.push.new.crossings c.self.view_is c.requires
    ∙ added
    ∙ ap (λ crossings. crossings ++ c.args.crossing ∷ []) before)
    c.push.ensures.added

pub returns-clause-elsewhere : goal.returns-clause-elsewhere
returns-clause-elsewhere g c =
    changed-elsewhere (λ v. v.items) c.self.inside.rows.items c.args.self.now c.args.row c.push.new.crossings c.self.view_is

pub push-requires : goal.push-requires
push-requires g c = c.fits_in_memory.ensures c.if-not-fits_in_memory.false

pub returns-then-not-fits_in_memory-clause-rows : goal.returns-then-not-fits_in_memory-clause-rows
returns-then-not-fits_in_memory-clause-rows g c = refl

pub returns-then-not-fits_in_memory-clause-elsewhere : goal.returns-then-not-fits_in_memory-clause-elsewhere
returns-then-not-fits_in_memory-clause-elsewhere g c = λ j other. refl

pub returns-then-not-fits_in_memory-clause-failed : goal.returns-then-not-fits_in_memory-clause-failed
returns-then-not-fits_in_memory-clause-failed g c = refl

pub index_mut-requires : goal.index_mut-requires
index_mut-requires g c = row-inside (λ v. v.items) c.self.inside.rows c.args.self.now c.args.row c.self.view_is c.requires

pub returns-clause-rows : goal.returns-clause-rows
returns-clause-rows g c = same-count (λ v. v.items) c.self.inside.rows.items c.args.self.now c.args.row c.push.new.crossings c.self.view_is

pub returns-clause-failed : goal.returns-clause-failed
returns-clause-failed g c =
    on_err_weaker c.push.result
    (λ same. unchanged (λ v. v.items) c.self.inside.rows.items c.args.self.now c.args.row c.index_mut.result.now c.push.new.crossings c.self.view_is c.index_mut.ensures.value same)
    c.push.ensures.failed
