use Rattle.std.proofs.Common.{[], ◌∷◌, refl}
use mir.Syntax.{w32}
use Rattle.exact_int.proofs.lemmas.Sizes.{sizes, fits, is_at_most}
use Rattle.exact_int.proofs.lemmas.Identity.{reads, identity}
use Rattle.geometry.specs.Winding.{wind}
use Rattle.exact_cut.proofs.lemmas.Hitting.{three_sum}
use Rattle.exact_cut.proofs.hit.wind_about_x.Goals as goal

pub returns-clause-value : goal.returns-clause-value
unfolding wind
returns-clause-value c =
    three_sum c.turn_about_x.result c.turn_about_x-2.result c.turn_about_x-3.result
    (identity (c.turn_about_x.result ∷ c.turn_about_x-2.result ∷ c.turn_about_x-3.result ∷ []) (search (reads, sizes, c.turn_about_x.ensures.unit, c.turn_about_x-2.ensures.unit, c.turn_about_x-3.ensures.unit) depth 40) refl)
    c.turn_about_x.ensures.value c.turn_about_x-2.ensures.value c.turn_about_x-3.ensures.value

pub returns-clause-small : goal.returns-clause-small
returns-clause-small c =
    is_at_most 3 (search (sizes, c.turn_about_x.ensures.unit, c.turn_about_x-2.ensures.unit, c.turn_about_x-3.ensures.unit) depth 40) refl

pub overflow_add-result : goal.overflow_add-result
overflow_add-result c = fits w32 (search (sizes, c.turn_about_x.ensures.unit, c.turn_about_x-2.ensures.unit) depth 40) refl

pub overflow_add-result-2 : goal.overflow_add-result-2
overflow_add-result-2 c =
    fits w32 (search (sizes, c.turn_about_x.ensures.unit, c.turn_about_x-2.ensures.unit, c.turn_about_x-3.ensures.unit) depth 40) refl
