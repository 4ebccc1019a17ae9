use Rattle.std.proofs.Common.{◌∙◌, ◌++◌, List, ℕ, ap, arith, length}
use Rattle.layer_session.proofs.lemmas.Images.{shown-image}
use Rattle.layer_session.proofs.layers.draw_spans.Goals as goal

pub draw-requires-clause-room : goal.draw-requires-clause-room
draw-requires-clause-room g c =
    let is = shown-image c.args.job.now c.args.k c.grid.result.now c.args.spans.now c.grid.ensures c.requires.filled in
    omega (arith, c.requires.room, ap (λ (l : List ℕ). length l) is)

pub returns-clause-drawn : goal.returns-clause-drawn
returns-clause-drawn g c =
    c.draw.ensures.drawn
    ∙ ap (λ (l : List ℕ). c.args.page.now.bytes ++ l)
    (shown-image c.args.job.now c.args.k c.grid.result.now c.args.spans.now c.grid.ensures c.requires.filled)
