use Rattle.std.proofs.Common.{◌≡◌, ◌≤◌, ◌<◌, ◌+◌, ◌∙◌, ◌++◌, List, ℕ, ap, arith, length, length-append, subst, sym}
use Rattle.raster.specs.Grid.{Grid}
use Rattle.raster.specs.Image.{layer_image}
use Rattle.raster.specs.Span.{covers}
use Rattle.build_book.specs.Job.{Job}
use Rattle.stlslice.specs.Pages.{image_size}
use Rattle.stlslice.proofs.lemmas.Pages.{length-is}
use Rattle.stlslice.proofs.lemmas.Stream.{image, image_there, layer_among, layer_at}
use Rattle.stlslice.proofs.write.image_pages.ImagesDrawingPage.add.Goals as goal

pub draw-requires-clause-form : goal.draw-requires-clause-form
draw-requires-clause-form g c =
    let job : Job = c.args.self.now.build.now.job in
    let all = c.layers-layers.ensures in
    let there : c.args.k < length c.layers-layers.result.now =
    layer_among job c.args.self.now.build.now.layers c.layers-layers.result.now c.args.k job.grid.layers all.value all.complete c.requires.within (omega arith) in
    rw (c.grid-grid.ensures, c.job.ensures, c.spans.ensures)
    (layer_at job c.layers-layers.result.now c.args.k c.index-layers-k.result (rw all.value all.complete) there c.index-layers-k.is).spans

pub draw-requires-clause-room : goal.draw-requires-clause-room
draw-requires-clause-room g c =
    let same : c.grid-grid.result.now ≡ c.args.self.now.build.now.job.grid = c.grid-grid.ensures ∙ ap (λ (j : Job). j.grid) c.job.ensures in
    subst (λ (n : ℕ). length c.args.page.now.bytes + n ≤ c.args.page.now.room)
    (sym (length-is c.grid-grid.result.now (covers c.spans.result.now) ∙ ap (λ (grid : Grid). image_size grid) same)) c.requires.room

pub returns-clause-added : goal.returns-clause-added
returns-clause-added g c =
    let job : Job = c.args.self.now.build.now.job in
    let all = c.layers-layers.ensures in
    let there : c.args.k < length c.layers-layers.result.now =
    layer_among job c.args.self.now.build.now.layers c.layers-layers.result.now c.args.k job.grid.layers all.value all.complete c.requires.within (omega arith) in
    let here : image c.grid-grid.result.now c.spans.result.now ≡ layer_image job.grid job.rule job.solid.facets c.args.k =
    image_there job c.job.result.now c.grid-grid.result.now c.spans.result.now c.args.self.now.build.now.layers c.layers-layers.result.now c.args.k
    c.index-layers-k.result c.job.ensures c.grid-grid.ensures c.spans.ensures all.value all.complete there c.index-layers-k.is in
    c.draw.ensures.drawn ∙ ap (λ (l : List ℕ). c.args.page.now.bytes ++ l) here

pub returns-clause-most : goal.returns-clause-most
returns-clause-most g c =
    let same : c.grid-grid.result.now ≡ c.args.self.now.build.now.job.grid = c.grid-grid.ensures ∙ ap (λ (j : Job). j.grid) c.job.ensures in
    let here : List ℕ = image c.grid-grid.result.now c.spans.result.now in
    omega (
      arith,
      ap (λ (l : List ℕ). length l) c.draw.ensures.drawn,
      length-append c.args.page.now.bytes here,
      length-is c.grid-grid.result.now (covers c.spans.result.now),
      ap (λ (grid : Grid). image_size grid) same,
    )
