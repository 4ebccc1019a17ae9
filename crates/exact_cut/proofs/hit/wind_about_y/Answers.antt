use Rattle.std.proofs.Common.{[], ◌∷◌, ◌+ℤ◌, neg_ℤ, refl, ◌∙◌, ap}
use mir.Syntax.{w32}
use Rattle.exact_int.proofs.lemmas.Sizes.{sizes, fits, is_at_most}
use Rattle.exact_int.proofs.lemmas.Identity.{reads, identity}
use Rattle.geometry.specs.Winding.{wind_y}
use Rattle.exact_cut.proofs.lemmas.Hitting.{three_sum}
use Rattle.exact_cut.proofs.hit.wind_about_y.Goals as goal

pub returns-clause-value : goal.returns-clause-value
unfolding wind_y
returns-clause-value c =
    let u = c.turn_about_y in
    let v = c.turn_about_y-2 in
    let w = c.turn_about_y-3 in
    identity (u.result ∷ v.result ∷ w.result ∷ []) (search (reads, sizes, u.ensures.unit, v.ensures.unit, w.ensures.unit) depth 40) refl
    ∙ ap neg_ℤ (three_sum {a = u.result +ℤ v.result +ℤ w.result} u.result v.result w.result refl u.ensures.value v.ensures.value w.ensures.value)

pub returns-clause-small : goal.returns-clause-small
returns-clause-small c =
    is_at_most 3 (search (sizes, c.turn_about_y.ensures.unit, c.turn_about_y-2.ensures.unit, c.turn_about_y-3.ensures.unit) depth 40) refl

pub overflow_add-result : goal.overflow_add-result
overflow_add-result c = fits w32 (search (sizes, c.turn_about_y.ensures.unit, c.turn_about_y-2.ensures.unit) depth 40) refl

pub overflow_add-result-2 : goal.overflow_add-result-2
overflow_add-result-2 c =
    fits w32 (search (sizes, c.turn_about_y.ensures.unit, c.turn_about_y-2.ensures.unit, c.turn_about_y-3.ensures.unit) depth 40) refl
