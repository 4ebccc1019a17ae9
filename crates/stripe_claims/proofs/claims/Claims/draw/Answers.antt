use Rattle.std.proofs.Common.{rules, ◌≡◌, ◌+◌, ◌^◌, ◌<◌, false, sym, ap, ◌∙◌, arith}
use mathlib.Core.Option.{none}
use Rattle.atomic_table.specs.Table.{step}
use Rattle.stripe_claims.specs.Machine.{beyond}
use Rattle.stripe_claims.specs.Claims.{Claims, Pass}
use Rattle.stripe_claims.proofs.lemmas.Moves.{draws, none_beyond}
use Rattle.stripe_claims.proofs.claims.Claims.draw.Goals as goal

pub fetch_add-number-requires : goal.fetch_add-number-requires
fetch_add-number-requires g c =
    let plan = c.self.inside.table.shared.key in
    let mine = c.pass.inside.seat.me in
    let claims = c.args.self.now in
    let pass = c.args.pass.now in
    let sound = c.self.invariant in
    let stripes : plan.stripes ≡ claims.stripes = sound.same ∙ ap (λ (v : Claims). v.stripes) c.self.view_is in
    let found : mine.0.found ≡ pass.found = ap (λ (p : Pass). p.found) c.pass.view_is in
    let going : pass.has_ended ≡ false = sym (ap (λ (p : Pass). p.has_ended) c.pass.view_is) ∙ c.if-pass.false in
    let none_past : beyond plan.stripes mine.0.found ≡ 0 =
    ap (λ n. beyond n mine.0.found) stripes ∙ ap (beyond claims.stripes) found ∙ none_beyond claims pass c.requires going in
    let room : plan.stripes + plan.passes < 2 ^ 62 =
    let same = sound.same in
    let few_stripes = sound.few_stripes in
    let few_passes = sound.few_passes in
    omega arith in
    let stands : 0 < mine.0.stands_for = let one = c.pass.invariant.1 in omega arith in
    (search rules, search rules, draws plan _ _ mine (step 0 0 1 0 none) room stands none_past)
