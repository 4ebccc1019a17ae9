-- The limits as they are published. Clauses cite their names, so that a constant with another value fails here.
use Rattle.std.proofs.Common.{◌≡◌, refl}
use Rattle.stripe_claims.specs.declared.limits.TheConstants.{PASS_LIMIT, STRIPE_LIMIT}

-- the most workers
passes : PASS_LIMIT ≡ 64
passes = refl

stripes : STRIPE_LIMIT ≡ 8192
stripes = refl
