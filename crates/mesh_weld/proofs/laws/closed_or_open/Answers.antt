use Rattle.mesh_weld.proofs.lemmas.LeastOpen.{closed_not_open, closed_or_open, one_open}
use Rattle.mesh_weld.proofs.laws.closed_or_open.Goals as goal

pub returns-clause-either : goal.returns-clause-either
returns-clause-either c = closed_or_open

pub returns-clause-not_both : goal.returns-clause-not_both
returns-clause-not_both c = λ facets balanced h. closed_not_open facets h.0 h.1 h.2 h.3 balanced h.4

pub returns-clause-one : goal.returns-clause-one
returns-clause-one c = λ facets from to other_from other_to there back other_there other_back.
    one_open facets from to other_from other_to there back other_there other_back
