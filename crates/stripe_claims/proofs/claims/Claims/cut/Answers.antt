use Rattle.std.proofs.Common.{rules}
use Rattle.stripe_claims.proofs.lemmas.Moves.{cuts}
use Rattle.stripe_claims.proofs.claims.Claims.cut.Goals as goal

pub split_seat-requires : goal.split_seat-requires
split_seat-requires g c =
    (search rules, search rules, cuts c.self.inside.table.shared.key _ c.args.rest.now.me.0 c.requires.seat.2 c.requires.seat.3)
