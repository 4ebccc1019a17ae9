use Rattle.stlslice.proofs.lemmas.WrittenPixels.{run_sliced, sliced_from, slices_from}
use Rattle.stlslice.proofs.laws.written_pixels.Goals as goal

pub returns-clause-pixels : goal.returns-clause-pixels
returns-clause-pixels c = sliced_from

pub returns-clause-all : goal.returns-clause-all
returns-clause-all c = slices_from

pub returns-clause-run : goal.returns-clause-run
returns-clause-run c = run_sliced
