use Rattle.std.proofs.Common.{ap}
use Rattle.build_book.specs.Build.{Build}
use Rattle.build_book.proofs.build.Build.late.Goals as goal

pub returns : goal.returns
returns g c = ap (λ (b : Build). b.late) c.self.view_is
