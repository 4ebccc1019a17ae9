use Rattle.std.proofs.Common.{◌∙◌, ap}
use Rattle.build_book.specs.Piece.{Piece}
use Rattle.build_book.proofs.piece.Piece.layers.Goals as goal

pub returns-clause-value : goal.returns-clause-value
returns-clause-value g c = c.as_slice.ensures.value ∙ ap (λ (p : Piece). p.layers) c.self.view_is
