use Rattle.std.proofs.Common.{◌∙◌, ap, subst, sym}
use Rattle.std.specs.Prelude.{IfSome, Option, option_map}
use Rattle.geometry.specs.BoundingBox.{Bounds, IsBox, bounds}
use Rattle.geometry.specs.Point.{Point}
use Rattle.raster.specs.Grid.{grid_of_box}
use Rattle.raster.proofs.lemmas.Boxes.{bounds-back, bounds-box, box_of}
use Rattle.raster.proofs.grid.Grid.fit.Goals as goal

pub fit_box-requires-clause-order : goal.fit_box-requires-clause-order
fit_box-requires-clause-order g c =
    subst (λ (o : Option (Point × Point)). IfSome o (λ x. IsBox x.0 x.1)) (sym c.in-Some.ensures) (bounds-box c.args.s.now.facets)

pub returns-in-None : goal.returns-in-None
returns-in-None g c =
    ap (λ (o : Option Bounds). grid_of_box o c.args.pitch c.args.layer_height)
    (ap (option_map box_of) (sym c.in-None.is ∙ c.corners.ensures) ∙ bounds-back (bounds c.args.s.now.facets))

pub returns-in-Some : goal.returns-in-Some
returns-in-Some g c =
    c.fit_box.ensures ∙ ap (λ (o : Option Bounds). grid_of_box o c.args.pitch c.args.layer_height)
    (ap (option_map box_of) c.in-Some.ensures ∙ bounds-back (bounds c.args.s.now.facets))
