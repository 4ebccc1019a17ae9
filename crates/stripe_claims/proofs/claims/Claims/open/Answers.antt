use Rattle.stripe_claims.proofs.claims.Claims.open.Goals as goal

pub returns-clause-owned : goal.returns-clause-owned
returns-clause-owned g c = c.in_ok-dealt.ensures.owned

pub returns-clause-fresh : goal.returns-clause-fresh
returns-clause-fresh g c = c.in_ok-dealt.ensures.fresh
