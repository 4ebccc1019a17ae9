use Rattle.std.proofs.Common.{arith}
use Rattle.contour.proofs.lemmas.Parts.{start_of-before}
use Rattle.contour.proofs.loop_list.start_in.Goals as goal

pub returns-else-number-eq0 : goal.returns-else-number-eq0
returns-else-number-eq0 c = grind (arith, start_of-before)
