use Rattle.std.proofs.Common.{arith}
use Rattle.raster.proofs.lemmas.Decimals.{length-between}
use Rattle.raster.proofs.pbm.image.digit_count.Goals as goal

pub returns-clause-value : goal.returns-clause-value
returns-clause-value c =
    omega (arith, length-between c.ilog10.result c.args.n c.ilog10.ensures.power_le c.ilog10.ensures.next_power_gt (omega (arith, c.ranges.n.fits)))
