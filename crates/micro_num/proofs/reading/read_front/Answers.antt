use Rattle.std.proofs.Common.{ap, Some}
use Rattle.micro_num.proofs.reading.read_front.Goals as goal

pub returns-in-Some-clause-reads : goal.returns-in-Some-clause-reads
returns-in-Some-clause-reads c = λ word rest z spelled ended is. ap Some (c.in-Some.ensures.reads word rest z spelled ended is)
