use Rattle.std.proofs.Common.{◌≡◌, ◌≤◌, ◌∙◌, subst, sym}
use Rattle.std.proofs.lemmas.Int.{to_z-of_z}
use mir.Syntax.{w32}
use Rattle.exact_int.specs.Bounds.{IsAtMost}
use Rattle.raster.proofs.lemmas.Middles.{double-fits, middle-fits, middle-read, odd-fits, reach-fits, reach-signed, twice-fits}
use Rattle.raster.proofs.grid.middle.Goals as goal
use Rattle.geometry.specs.declared.limits.TheConstants.{COORDINATE_LIMIT, LAYER_LIMIT, STEP_LIMIT}

pub overflow_mul-reach : goal.overflow_mul-reach
overflow_mul-reach c = double-fits c.from-2.result (subst (λ n. n ≤ LAYER_LIMIT) (sym c.from-2.ensures) c.requires.number)

pub overflow_add-reach : goal.overflow_add-reach
overflow_add-reach c = odd-fits c.from-2.result (subst (λ n. n ≤ LAYER_LIMIT) (sym c.from-2.ensures) c.requires.number)

pub overflow_mul-reach-2 : goal.overflow_mul-reach-2
overflow_mul-reach-2 c = reach-fits c.from.result c.from-2.result (subst (λ n. n ≤ STEP_LIMIT) (sym c.from.ensures) c.requires.step) (subst (λ n. n ≤ LAYER_LIMIT) (sym c.from-2.ensures) c.requires.number)

pub overflow_cast-result : goal.overflow_cast-result
overflow_cast-result c = reach-signed c.from.result c.from-2.result (subst (λ n. n ≤ STEP_LIMIT) (sym c.from.ensures) c.requires.step) (subst (λ n. n ≤ LAYER_LIMIT) (sym c.from-2.ensures) c.requires.number)

pub overflow_mul-result : goal.overflow_mul-result
overflow_mul-result c =
    let start : c.from-3.result ≡ c.args.start = c.from-3.ensures ∙ to_z-of_z w32 c.args.start c.ranges.start in
    twice-fits c.from-3.result (subst (IsAtMost COORDINATE_LIMIT) (sym start) c.requires.start)

pub overflow_add-result : goal.overflow_add-result
overflow_add-result c =
    let start : c.from-3.result ≡ c.args.start = c.from-3.ensures ∙ to_z-of_z w32 c.args.start c.ranges.start in
    middle-fits c.from-3.result c.from.result c.from-2.result (subst (IsAtMost COORDINATE_LIMIT) (sym start) c.requires.start) (subst (λ n. n ≤ STEP_LIMIT) (sym c.from.ensures) c.requires.step) (subst (λ n. n ≤ LAYER_LIMIT) (sym c.from-2.ensures) c.requires.number)

pub returns : goal.returns
returns c =
    let start : c.from-3.result ≡ c.args.start = c.from-3.ensures ∙ to_z-of_z w32 c.args.start c.ranges.start in
    middle-read c.args.start c.from-3.result c.args.step c.args.number c.from.result c.from-2.result start c.from.ensures c.from-2.ensures
    (subst (IsAtMost COORDINATE_LIMIT) (sym start) c.requires.start) (subst (λ n. n ≤ STEP_LIMIT) (sym c.from.ensures) c.requires.step) (subst (λ n. n ≤ LAYER_LIMIT) (sym c.from-2.ensures) c.requires.number)
