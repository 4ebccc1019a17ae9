use Rattle.std.proofs.Common.{ap}
use Rattle.build_book.specs.Layer.{Layer}
use Rattle.build_book.proofs.layer.Layer.number.Goals as goal

pub returns : goal.returns
returns g c = ap (λ (l : Layer). l.number) c.self.view_is
