use Rattle.std.proofs.Common.{inl, inr, refl, subst, sym}
use Rattle.std.specs.Prelude.{IfSome, Option}
use Rattle.geometry.specs.BoundingBox.{Bounds, IsBox}
use Rattle.geometry.specs.Point.{Point}
use Rattle.raster.proofs.lemmas.Boxes.{bounds-box}
use Rattle.part_on_screen.specs.Middle.{IsNoGrid, IsNoGridOfPart}
use Rattle.part_on_screen.proofs.lemmas.Places.{empty-from, of-fault, with-box}
use Rattle.part_on_screen.proofs.screen.Screen.grid_of.Goals as goal

pub grid-requires-clause-order : goal.grid-requires-clause-order
grid-requires-clause-order g c =
    subst (λ (o : Option (Point × Point)). IfSome o (λ x. IsBox x.0 x.1)) (sym c.in-Some.ensures) (bounds-box c.args.solid.now.facets)

pub returns-in-None-clause-fault : goal.returns-in-None-clause-fault
returns-in-None-clause-fault g c = inl (refl, empty-from c.args.solid.now.facets (sym c.in-None.ensures))

pub returns-in-Some-clause-fault : goal.returns-in-Some-clause-fault
returns-in-Some-clause-fault g c =
    of-fault c.grid.result (IsNoGridOfPart c.args.self.now c.args.solid.now.facets c.args.layer_height) c.grid.ensures.fault
    (λ fault h. inr (with-box c.args.solid.now.facets _ (λ (b : Bounds). IsNoGrid c.args.self.now b.low b.high c.args.layer_height fault) (sym c.in-Some.ensures) h))
