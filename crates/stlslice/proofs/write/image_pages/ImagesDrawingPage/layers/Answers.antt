use Rattle.std.proofs.Common.{arith}
use Rattle.stlslice.proofs.lemmas.Pages.{few-bytes}
use Rattle.stlslice.proofs.write.image_pages.ImagesDrawingPage.layers.Goals as goal

pub returns-clause-few : goal.returns-clause-few
returns-clause-few g c =
    omega (
      arith,
      few-bytes c.args.self.now.build.now.job c.job.result.now c.grid.result.now c.job.ensures c.grid.ensures c.hold_limits.ensures,
    )
