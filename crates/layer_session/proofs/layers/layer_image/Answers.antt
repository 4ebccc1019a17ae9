use Rattle.std.proofs.Common.{◌≡◌, ◌∙◌, ◌++◌, ap, arith, length}
use Rattle.raster.specs.Page.{Page}
use Rattle.layer_session.specs.Answers.{image_of}
use Rattle.layer_session.proofs.lemmas.Lengths.{length-image}
use Rattle.layer_session.proofs.layers.layer_image.Goals as goal

pub draw_spans-requires-clause-room : goal.draw_spans-requires-clause-room
draw_spans-requires-clause-room g c =
    let size : length (image_of c.args.job.now c.args.k) ≡ c.image_len.result =
    length-image c.args.job.now c.args.k c.image_len.result c.grid.result.now c.grid.ensures c.image_len.ensures.value in
    omega (
      arith,
      size,
      ap (λ (p : Page). p.room) c.in_ok-page.ensures,
      ap (λ (p : Page). length p.bytes) c.in_ok-page.ensures,
    )

pub returns : goal.returns
returns g c =
    c.into_bytes.ensures
    ∙ c.draw_spans.ensures.drawn
    ∙ ap (λ (p : Page). p.bytes ++ image_of c.args.job.now c.args.k) c.in_ok-page.ensures
