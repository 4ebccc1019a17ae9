use Rattle.stripe_claims.proofs.lemmas.Fair.{always_fair, most_drawn, never_twice, ends_last}
use Rattle.stripe_claims.proofs.laws.claims_laws.Goals as goal

pub returns : goal.returns
returns c = record { fair = always_fair; most = most_drawn; twice = never_twice; last = ends_last }
