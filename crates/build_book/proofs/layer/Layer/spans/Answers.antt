use Rattle.std.proofs.Common.{◌∙◌, ap}
use Rattle.build_book.specs.Layer.{Layer}
use Rattle.build_book.proofs.layer.Layer.spans.Goals as goal

pub returns : goal.returns
returns g c = c.as_slice.ensures.value ∙ ap (λ (l : Layer). l.spans) c.self.view_is
