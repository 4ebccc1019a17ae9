use Rattle.std.proofs.Common.{refl}
use Rattle.contour.proofs.lemmas.LoopLaws.{loop_winds-cancel, loops-are_one}
use Rattle.contour.proofs.lemmas.LoopsClose.{closed_loops}
use Rattle.contour.proofs.lemmas.LoopOrder.{loops-ordered}
use Rattle.contour.proofs.lemmas.OutlinePoints.{outlines-join, starts-cut}
use Rattle.contour.proofs.laws.hold_loop_laws.Goals as goal

pub returns-clause-winds : goal.returns-clause-winds
returns-clause-winds c = loop_winds-cancel

pub returns-clause-exist : goal.returns-clause-exist
returns-clause-exist c = λ facets z balanced. closed_loops facets balanced z

pub returns-clause-one : goal.returns-clause-one
returns-clause-one c = loops-are_one

pub returns-clause-ordered : goal.returns-clause-ordered
returns-clause-ordered c = λ facets z found distinct h. loops-ordered facets _ (z, refl) distinct found h

pub returns-clause-starts : goal.returns-clause-starts
returns-clause-starts c = starts-cut

pub returns-clause-joined : goal.returns-clause-joined
returns-clause-joined c = outlines-join
