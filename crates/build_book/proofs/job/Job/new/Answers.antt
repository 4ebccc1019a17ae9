use Rattle.std.proofs.Common.{refl}
use Rattle.build_book.proofs.job.Job.new.Goals as goal

pub returns : goal.returns
returns g c = refl
