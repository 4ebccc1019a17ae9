use Rattle.std.proofs.Common.{◌≡◌, ◌∙◌}
use Rattle.std.proofs.lemmas.Int.{to_z-of_z}
use mir.Syntax.{w32}
use Rattle.part_on_screen.proofs.lemmas.Places.{given-there, not-both, point-by, point_at, same-ok}
use Rattle.part_on_screen.proofs.screen.Screen.grid_at.Goals as goal

pub unreachable-requires-in-Err : goal.unreachable-requires-in-Err
unreachable-requires-in-Err c =
    let place : c.in-Some.origin ≡ point_at c.args.x c.args.y c.args.z =
    c.in-Some.ensures.value ∙ point-by _ _ (to_z-of_z w32 c.args.x c.ranges.x) (to_z-of_z w32 c.args.y c.ranges.y) (to_z-of_z w32 c.args.z c.ranges.z) in
    not-both c.given.result _ c.in-Err.field-0
    (given-there c.args.self.now c.given.result c.args.x c.args.y c.args.z c.requires.layers.0 c.args.layer_height c.args.layers c.self.view_is c.given.ensures place c.self.invariant
    c.requires.x c.requires.y c.requires.z c.requires.height c.requires.few c.requires.layers.1 c.requires.layers.2) c.in-Err.is

pub returns : goal.returns
returns c =
    let place : c.in-Some.origin ≡ point_at c.args.x c.args.y c.args.z =
    c.in-Some.ensures.value ∙ point-by _ _ (to_z-of_z w32 c.args.x c.ranges.x) (to_z-of_z w32 c.args.y c.ranges.y) (to_z-of_z w32 c.args.z c.ranges.z) in
    same-ok c.given.result _ c.in-Ok.grid
    (given-there c.args.self.now c.given.result c.args.x c.args.y c.args.z c.requires.layers.0 c.args.layer_height c.args.layers c.self.view_is c.given.ensures place c.self.invariant
    c.requires.x c.requires.y c.requires.z c.requires.height c.requires.few c.requires.layers.1 c.requires.layers.2) c.in-Ok.is
