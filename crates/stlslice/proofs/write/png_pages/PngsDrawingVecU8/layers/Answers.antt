use Rattle.std.proofs.Common.{length}
use Rattle.stlslice.specs.Pngs.{pngs_of}
use Rattle.stlslice.proofs.lemmas.Pngs.{pngs_countable, pngs_counted}
use Rattle.stlslice.proofs.write.png_pages.PngsDrawingVecU8.layers.Goals as goal

pub returns-clause-few : goal.returns-clause-few
returns-clause-few g c =
    let it = c.args.self.now in
    pngs_countable (length (pngs_of it.build.now.job it.depth it.mirrors))
    (pngs_counted it.build.now.job c.job.result.now c.grid.result.now it.depth it.mirrors c.job.ensures c.grid.ensures c.hold_limits.ensures)
