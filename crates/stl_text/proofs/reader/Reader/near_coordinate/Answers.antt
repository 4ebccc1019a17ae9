use Rattle.std.proofs.Common.{refl}
use Rattle.stl_text.proofs.reader.Reader.near_coordinate.Goals as goal

pub returns-in_err-z-in-None-clause-none : goal.returns-in_err-z-in-None-clause-none
returns-in_err-z-in-None-clause-none c = λ _. rw (← c.self.view_is) (c.in_err-z-in-None.ensures.none refl)
