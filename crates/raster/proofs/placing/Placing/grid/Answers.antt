use Rattle.std.proofs.Common.{ap, sym, ◌∙◌}
use Rattle.raster.specs.Placing.{placed_grid}
use Rattle.raster.proofs.placing.Placing.grid.Goals as goal

pub returns-in-Given : goal.returns-in-Given
returns-in-Given g c =
    c.given.ensures ∙ ap (λ placing. placed_grid placing c.args.s.now.facets c.args.pitch c.args.layer_height) (sym c.in-Given.is)

pub returns-in-Fitted : goal.returns-in-Fitted
returns-in-Fitted g c =
    c.fit.ensures ∙ ap (λ placing. placed_grid placing c.args.s.now.facets c.args.pitch c.args.layer_height) (sym c.in-Fitted.is)
