use Rattle.std.proofs.Common.{refl}
use Rattle.stl_text.proofs.stage.wanted_after.Goals as goal

pub returns-in-2-clause-wanted : goal.returns-in-2-clause-wanted
returns-in-2-clause-wanted c = λ _ t. rw c.in-2.is (record { cut = refl; on = refl })

pub returns-in-3-clause-wanted : goal.returns-in-3-clause-wanted
returns-in-3-clause-wanted c = λ _ t. rw c.in-3.is (record { cut = refl; on = refl })

pub returns-in-11-clause-wanted : goal.returns-in-11-clause-wanted
returns-in-11-clause-wanted c = λ _ t value. rw c.in-11.is (record { cut = refl; on = refl })
