use Rattle.std.proofs.Common.{◌≡◌, ◌∙◌, ℕ, ◌*◌, ◌-◌, ◌++◌, ap, arith, length, rules, sym}
use Rattle.raster.specs.Page.{Page}
use Rattle.build_book.specs.Job.{Job}
use Rattle.layer_session.specs.Answers.{images_between}
use Rattle.layer_session.proofs.lemmas.Images.{images-of-stripe}
use Rattle.layer_session.proofs.lemmas.Lengths.{length-between, length-image}
use Rattle.layer_session.proofs.layers.stripe_images.Goals as goal

pub draw_layers-requires-clause-room : goal.draw_layers-requires-clause-room
draw_layers-requires-clause-room g c =
    let job : Job = c.args.job.now in
    let first = c.layer_range-first.result.0 in
    let end = c.layer_range-first.result.1 in
    let count : c.from.result ≡ end - first = search rules in
    let all : length (images_between job first end) ≡ c.from.result * c.image_len.result =
    length-between job first end c.image_len.result
    (λ k. length-image job k c.image_len.result c.grid.result.now c.grid.ensures c.image_len.ensures.value)
    ∙ ap (λ (n : ℕ). n * c.image_len.result) (sym count) in
    omega (
      arith,
      all,
      ap (λ (p : Page). p.room) c.in_ok-page.ensures,
      ap (λ (p : Page). length p.bytes) c.in_ok-page.ensures,
    )

pub returns : goal.returns
returns g c =
    let job : Job = c.args.job.now in
    let first = c.layer_range-first.result.0 in
    let end = c.layer_range-first.result.1 in
    c.into_bytes.ensures
    ∙ c.in_ok-draw_layers.ensures
    ∙ ap (λ (p : Page). p.bytes ++ images_between job first end) c.in_ok-page.ensures
    ∙ images-of-stripe job c.args.s first end c.layer_range-first.ensures.first c.layer_range-first.ensures.end
