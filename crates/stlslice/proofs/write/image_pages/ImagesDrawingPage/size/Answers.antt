use Rattle.std.proofs.Common.{◌∙◌, ap, false, sym}
use Rattle.raster.specs.Grid.{Grid}
use Rattle.build_book.specs.Job.{Job}
use Rattle.stlslice.specs.Pages.{image_size}
use Rattle.stlslice.proofs.lemmas.Pages.{length-is}
use Rattle.stlslice.proofs.write.image_pages.ImagesDrawingPage.size.Goals as goal

pub returns : goal.returns
returns g c =
    sym (c.image_len.ensures.value (λ i j. false))
    ∙ length-is c.grid.result.now (λ i j. false)
    ∙ ap (λ (grid : Grid). image_size grid) (c.grid.ensures ∙ ap (λ (j : Job). j.grid) c.job.ensures)
