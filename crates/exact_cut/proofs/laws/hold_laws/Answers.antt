use Rattle.exact_cut.proofs.lemmas.Turns.{turn-opposite}
use Rattle.exact_cut.proofs.lemmas.Ahead.{wind_values, lines_meet, ahead}
use Rattle.exact_cut.proofs.lemmas.Walks.{splits, walks-hits, uncrossed-hits}
use Rattle.exact_cut.proofs.lemmas.Touching.{ray-difference, corner_turn-opposite}
use Rattle.exact_cut.proofs.lemmas.Steps.{step-x, step-y}
use Rattle.exact_cut.proofs.lemmas.Rounding.{nearest-is}
use Rattle.exact_cut.proofs.laws.hold_laws.Goals as goal

pub returns-clause-turns : goal.returns-clause-turns
returns-clause-turns c = turn-opposite

pub returns-clause-winds : goal.returns-clause-winds
returns-clause-winds c = wind_values

pub returns-clause-meets : goal.returns-clause-meets
returns-clause-meets c = lines_meet

pub returns-clause-ahead : goal.returns-clause-ahead
returns-clause-ahead c = ahead

pub returns-clause-columns : goal.returns-clause-columns
returns-clause-columns c = splits

pub returns-clause-walks : goal.returns-clause-walks
returns-clause-walks c = walks-hits

pub returns-clause-uncrossed : goal.returns-clause-uncrossed
returns-clause-uncrossed c = uncrossed-hits

pub returns-clause-rays : goal.returns-clause-rays
returns-clause-rays c = ray-difference

pub returns-clause-corners : goal.returns-clause-corners
returns-clause-corners c = corner_turn-opposite

pub returns-clause-steps_x : goal.returns-clause-steps_x
returns-clause-steps_x c = step-x

pub returns-clause-steps_y : goal.returns-clause-steps_y
returns-clause-steps_y c = step-y

pub returns-clause-nearest : goal.returns-clause-nearest
returns-clause-nearest c = nearest-is
