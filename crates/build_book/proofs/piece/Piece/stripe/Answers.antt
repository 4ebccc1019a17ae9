use Rattle.std.proofs.Common.{ap}
use Rattle.build_book.specs.Piece.{Piece}
use Rattle.build_book.proofs.piece.Piece.stripe.Goals as goal

pub returns : goal.returns
returns g c = ap (λ (p : Piece). p.stripe) c.self.view_is
