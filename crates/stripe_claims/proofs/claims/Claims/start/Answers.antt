use Rattle.stripe_claims.proofs.lemmas.Moves.{begins}
use Rattle.stripe_claims.proofs.claims.Claims.start.Goals as goal

pub of_words-requires : goal.of_words-requires
of_words-requires g c = begins _
