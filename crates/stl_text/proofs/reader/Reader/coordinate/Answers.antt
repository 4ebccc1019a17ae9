use Rattle.std.proofs.Common.{refl}
use Rattle.stl_text.proofs.reader.Reader.coordinate.Goals as goal

pub returns-in_err-z-clause-none : goal.returns-in_err-z-clause-none
returns-in_err-z-clause-none c = λ _. rw (← c.self.view_is) (c.in_err-z.ensures.none refl)
