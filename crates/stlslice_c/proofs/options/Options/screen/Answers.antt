use Rattle.std.proofs.Common.{subst}
use Rattle.part_on_screen.specs.Screen.{IsNoScreen}
use Rattle.part_on_screen.specs.declared.pixel_side.PixelSide.{PixelSide}
use Rattle.stlslice_c.specs.Options.{side_of}
use Rattle.stlslice_c.proofs.options.Options.screen.Goals as goal

pub returns-in-Err-clause-err : goal.returns-in-Err-clause-err
returns-in-Err-clause-err c =
    let o = c.args.self.now in let fault = c.in-Err.fault in
    let narrow = subst (λ (d : PixelSide). IsNoScreen o.cells.columns o.cells.rows c.of_pixel-width.result d fault) c.of_pixel-depth.ensures c.in-Err.ensures.fault in (
      c.in-Some.turn,
      c.in-Some.ensures,
      subst (λ (w : PixelSide). IsNoScreen o.cells.columns o.cells.rows w (side_of o.depth) fault) c.of_pixel-width.ensures narrow,
    )
