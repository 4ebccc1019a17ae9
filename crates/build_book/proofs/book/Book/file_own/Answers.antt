use Rattle.std.proofs.Common.{refl}
use Rattle.build_book.proofs.book.Book.file_own.Goals as goal

pub returns-clause-ok : goal.returns-clause-ok
returns-clause-ok g c = c.put.ensures

pub returns-clause-job : goal.returns-clause-job
returns-clause-job g c = c.put.ensures.job

pub returns-in-Some-clause-fault : goal.returns-in-Some-clause-fault
returns-in-Some-clause-fault g c = c.in-Some.ensures.fault

pub returns-in-Some-clause-back : goal.returns-in-Some-clause-back
returns-in-Some-clause-back g c = refl

pub returns-in-Some-clause-err : goal.returns-in-Some-clause-err
returns-in-Some-clause-err g c = refl
