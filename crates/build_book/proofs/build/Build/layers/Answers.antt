use Rattle.std.proofs.Common.{◌∙◌, ap}
use Rattle.build_book.specs.Build.{Build}
use Rattle.build_book.proofs.build.Build.layers.Goals as goal

pub returns-clause-value : goal.returns-clause-value
returns-clause-value g c = c.as_slice.ensures.value ∙ ap (λ (b : Build). b.layers) c.self.view_is
