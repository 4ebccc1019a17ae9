use Rattle.std.proofs.Common.{◌<◌, ◌∙◌, ap, subst, sym}
use Rattle.exact_int.specs.Bounds.{IsAtMost}
use Rattle.geometry.specs.declared.limits.TheConstants.{COORDINATE_LIMIT}
use Rattle.raster.specs.Grid.{Grid, middle}
use Rattle.raster.proofs.lemmas.Middles.{coordinate, coordinate-in, middle-back}
use Rattle.raster.proofs.grid.Grid.plane.Goals as goal

pub middle-requires-clause-start : goal.middle-requires-clause-start
middle-requires-clause-start c = coordinate-in c.z.result c.z.ensures.within

pub returns-clause-within : goal.returns-clause-within
returns-clause-within c =
    let s = c.self.inside in
    middle-back s.origin.z c.middle.result s.layer_height c.args.k s.layers
    (c.middle.ensures ∙ ap (λ z. middle z s.layer_height c.args.k) (coordinate c.z.result c.z.ensures.within ∙ c.z.ensures.value))
    (subst (IsAtMost COORDINATE_LIMIT) c.z.ensures.value c.z.ensures.within)
    (subst (λ (g : Grid). c.args.k < g.layers) (sym c.self.view_is) c.requires) c.self.invariant.last_z
