use Rattle.std.proofs.Common.{◌≡◌, ◌-◌, ℕ, Bool, true, take, drop, ap, subst, sym, ◌∙◌}
use Rattle.std.proofs.Math.Path.{fun_ext}
use Rattle.raster.specs.Rows.{are_within, crosses}
use Rattle.raster.specs.Image.{row_bytes}
use Rattle.raster.proofs.lemmas.Covered.{covers-part, within-part}
use Rattle.raster.proofs.pbm.rows.draw_layer_row.Goals as goal

pub draw_row-requires-clause-within : goal.draw_row-requires-clause-within
draw_row-requires-clause-within c =
    subst (λ (n : ℕ). are_within n (take (c.args.end - c.start_of_row-start.result) (drop c.start_of_row-start.result c.args.spans.now)) ≡ true) (sym c.columns.ensures.value)
    (within-part c.args.g.now.columns c.args.g.now.rows c.args.spans.now c.start_of_row-start.result (c.args.end - c.start_of_row-start.result) c.requires.form.within)

pub returns-clause-drawn : goal.returns-clause-drawn
returns-clause-drawn c =
    c.draw_row.ensures
    ∙ ap (λ (n : ℕ). row_bytes n (crosses (take (c.args.end - c.start_of_row-start.result) (drop c.start_of_row-start.result c.args.spans.now)))) c.columns.ensures.value
    ∙ ap (λ (pixel : ℕ → Bool). row_bytes c.args.g.now.columns pixel)
    (fun_ext (λ i. sym (covers-part c.args.spans.now c.start_of_row-start.result c.args.end i c.args.number c.start_of_row-start.ensures.order c.requires.split c.start_of_row-start.ensures.split)))
