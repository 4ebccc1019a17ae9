use Rattle.std.proofs.Common.{◌≡◌, ◌∙◌, ap}
use Rattle.stripe_claims.specs.Machine.{hand_of}
use Rattle.stripe_claims.specs.Claims.{Claims, HasReached}
use Rattle.stripe_claims.proofs.lemmas.Moves.{closes, closed}
use Rattle.stripe_claims.proofs.claims.Claims.word_with.Goals as goal

pub returns : goal.returns
returns g c =
    let table = c.self.inside.table in
    let stripes : table.shared.key.stripes ≡ c.args.self.stripes = c.self.invariant.same ∙ ap (λ (v : Claims). v.stripes) c.self.view_is in
    let passes : table.shared.key.passes ≡ c.args.self.passes = ap (λ (v : Claims). v.passes) c.self.view_is in
    let last : HasReached c.args.self (hand_of c.args.seat.me.0) c.word-word.result =
    closes table.shared.key c.args.self c.args.seat.id c.args.seat.me.0 _ _ c.word-word.result stripes passes c.close_with-closed.ensures.values.2 c.word-word.ensures in
    let told = closed c.args.self (hand_of c.args.seat.me.0) c.word-word.result last in
    record { machine = last; once = told.once; count = told.count; most = told.most; whole = told.whole; all = told.all }
