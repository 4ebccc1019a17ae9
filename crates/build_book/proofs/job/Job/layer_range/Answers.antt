use Rattle.std.proofs.Common.{ap, arith}
use Rattle.build_book.specs.Job.{Job}
use Rattle.build_book.proofs.job.Job.layer_range.Goals as goal

pub returns-clause-end : goal.returns-clause-end
returns-clause-end g c = omega (arith, c.min.ensures, c.layers-all.ensures.value, ap (λ (w : Job). w.grid.layers) c.self.view_is, c.requires)
