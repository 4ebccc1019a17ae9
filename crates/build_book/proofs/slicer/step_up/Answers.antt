use Rattle.std.proofs.Common.{◌∙◌, ap, rules}
use Rattle.std.proofs.lemmas.Result.{on_ok_weaker}
use Rattle.raster.specs.Grid.{Grid, plane}
use Rattle.build_book.proofs.lemmas.Stripes.{higher_plane, plane_kept}
use Rattle.build_book.proofs.slicer.step_up.Goals as goal

pub advance-requires-clause-up : goal.advance-requires-clause-up
advance-requires-clause-up g c = search (rules, higher_plane c.args.job.now.grid c.args.k)

pub returns-clause-height : goal.returns-clause-height
returns-clause-height g c =
    on_ok_weaker c.advance.result
    (λ at. at ∙ plane_kept c.plane.result c.plane.ensures.within ∙ c.plane.ensures.value ∙ ap (λ (w : Grid). plane w c.args.k) c.grid.ensures)
    c.advance.ensures.at
