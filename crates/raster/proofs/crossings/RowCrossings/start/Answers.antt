use Rattle.std.proofs.Common.{◌≤◌, ℕ, subst, sym}
use Rattle.std.proofs.lemmas.List.{length-map}
use Rattle.std.proofs.lemmas.Result.{on_ok_weaker}
use Rattle.raster.proofs.lemmas.RowCrossings.{none-in}
use Rattle.raster.proofs.crossings.RowCrossings.start.Goals as goal

pub returns-clause-empty : goal.returns-clause-empty
returns-clause-empty g c =
    on_ok_weaker c.make_room.result (λ empty. none-in (λ v. v.items) c.make_room.new.rows.items empty) c.make_room.ensures.empty

pub forget_all-requires : goal.forget_all-requires
forget_all-requires g c = c.fits_in_memory.ensures c.if-not-fits_in_memory.false

pub make_room-requires : goal.make_room-requires
make_room-requires g c = (c.fits_in_memory.ensures c.if-not-fits_in_memory.false, c.forget_all.ensures.empty)

pub returns-clause-rows : goal.returns-clause-rows
returns-clause-rows g c =
    let rows = c.make_room.new.rows.items in
    on_ok_weaker c.make_room.result (λ enough. subst (λ (n : ℕ). c.args.rows ≤ n) (sym (length-map rows (λ v. v.items))) enough) c.make_room.ensures.count
