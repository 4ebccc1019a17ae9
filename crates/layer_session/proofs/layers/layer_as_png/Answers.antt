use Rattle.std.proofs.Common.{◌≡◌, ◌∙◌, ℕ, List, ◌++◌, length, subst}
use Rattle.std.specs.Prelude.{drop}
use Rattle.std.proofs.lemmas.Result.{IfOk-weaker}
use Rattle.layer_png.specs.Depth.{bits}
use Rattle.layer_png.specs.Layer.{grey, shown}
use Rattle.layer_png.specs.Png.{IsPng}
use Rattle.layer_png.specs.Text.{png_text}
use Rattle.layer_session.specs.Answers.{is_white_pixel, png_of_layer}
use Rattle.layer_session.proofs.lemmas.Pngs.{layer-pixels, same-png}
use Rattle.layer_session.proofs.layers.layer_as_png.Goals as goal

pub returns-clause-png : goal.returns-clause-png
returns-clause-png g c =
    IfOk-weaker c.write_png.result
    (λ png. png.items ≡ c.new.result.items ++ png_text (bits c.args.depth) c.grid.result.now.columns c.grid.result.now.rows
    (shown c.args.mirrors c.grid.result.now.columns c.grid.result.now.rows c.as_slice.result.now))
    (λ png. png.items ≡ png_of_layer c.args.job.now c.args.k c.args.depth c.args.mirrors)
    (λ png is. is
    ∙ rw (c.new.ensures.items, c.grid.ensures, c.as_slice.ensures.value)
    (same-png c.args.job.now c.args.k c.args.mirrors c.in_ok-spans.spans.items c.in_ok-spans.ensures.filled c.args.depth))
    c.write_png.ensures.text

pub returns-clause-pixels : goal.returns-clause-pixels
returns-clause-pixels g c =
    IfOk-weaker c.write_png.result
    (λ png. IsPng (drop (length c.new.result.items) png.items) c.grid.result.now.columns c.grid.result.now.rows (bits c.args.depth)
    (λ x y. grey (bits c.args.depth) (shown c.args.mirrors c.grid.result.now.columns c.grid.result.now.rows c.as_slice.result.now x y)))
    (λ png. IsPng png.items c.args.job.now.grid.columns c.args.job.now.grid.rows (bits c.args.depth)
    (λ x y. grey (bits c.args.depth) (is_white_pixel c.args.job.now c.args.k c.args.mirrors x y)))
    (λ png is. layer-pixels c.args.job.now c.args.k c.args.mirrors c.in_ok-spans.spans.items c.in_ok-spans.ensures.filled c.args.depth png.items
    (rw (← c.grid.ensures, ← c.as_slice.ensures.value)
    (subst (λ (front : List ℕ). IsPng (drop (length front) png.items) c.grid.result.now.columns c.grid.result.now.rows (bits c.args.depth)
    (λ x y. grey (bits c.args.depth) (shown c.args.mirrors c.grid.result.now.columns c.grid.result.now.rows c.as_slice.result.now x y)))
    c.new.ensures.items is)))
    c.write_png.ensures.png
