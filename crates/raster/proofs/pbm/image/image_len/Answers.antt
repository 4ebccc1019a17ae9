use Rattle.std.proofs.Common.{◌∙◌, rules}
use Rattle.raster.proofs.lemmas.Images.{length-image}
use Rattle.raster.proofs.pbm.image.image_len.Goals as goal

pub returns-clause-value : goal.returns-clause-value
returns-clause-value c = λ pixel. length-image c.args.grid.now.columns c.args.grid.now.rows pixel ∙ search rules
