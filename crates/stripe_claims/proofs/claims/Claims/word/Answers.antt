use Rattle.std.proofs.Common.{◌≡◌, [], ◌∙◌, ap, arith}
use Rattle.stripe_claims.specs.Claims.{Claims, HasGathered}
use Rattle.stripe_claims.proofs.lemmas.Moves.{closes_alone, most_at_end}
use Rattle.stripe_claims.proofs.claims.Claims.word.Goals as goal

pub returns : goal.returns
returns g c =
    let table = c.self.inside.table in
    let stripes : table.shared.key.stripes ≡ c.args.self.stripes = c.self.invariant.same ∙ ap (λ (v : Claims). v.stripes) c.self.view_is in
    let passes : table.shared.key.passes ≡ c.args.self.passes = ap (λ (v : Claims). v.passes) c.self.view_is in
    let last : HasGathered c.args.self [] c.word-word.result =
    closes_alone table.shared.key c.args.self _ _ c.word-word.result stripes passes c.close-closed.ensures.values.2 c.word-word.ensures in
    let some = c.self.invariant.some_passes in
    record { machine = last; most = most_at_end c.args.self c.word-word.result last; some = omega arith }
