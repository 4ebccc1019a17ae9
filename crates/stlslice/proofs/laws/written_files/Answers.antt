use Rattle.stlslice.proofs.lemmas.WrittenFiles.{images_cut, pngs_cut}
use Rattle.stlslice.proofs.laws.written_files.Goals as goal

pub returns-clause-images : goal.returns-clause-images
returns-clause-images c = images_cut

pub returns-clause-pngs : goal.returns-clause-pngs
returns-clause-pngs c = pngs_cut
