use Rattle.std.proofs.Common.{[], ◌∷◌, refl}
use mir.Syntax.{w128}
use Rattle.exact_int.proofs.lemmas.Sizes.{sizes, fits, is_at_most}
use Rattle.exact_cut.specs.Bounds.{denominator_limit, numerator_limit}
use Rattle.exact_int.proofs.lemmas.Identity.{reads, identity}
use Rattle.exact_cut.proofs.scanline.section.meet.Goals as goal

pub overflow_mul-result : goal.overflow_mul-result
overflow_mul-result c =
    let a = c.args.near.now in
    let b = c.args.far.now in
    fits w128 (search (sizes, a.x_in, b.y_in) depth 40) refl

pub overflow_mul-result-2 : goal.overflow_mul-result-2
overflow_mul-result-2 c =
    let a = c.args.near.now in
    let b = c.args.far.now in
    fits w128 (search (sizes, a.y_in, b.x_in) depth 40) refl

pub overflow_mul-result-3 : goal.overflow_mul-result-3
overflow_mul-result-3 c =
    let a = c.args.near.now in
    let b = c.args.far.now in
    fits w128 (search (sizes, b.x_in, a.d_in) depth 40) refl

pub overflow_mul-result-4 : goal.overflow_mul-result-4
overflow_mul-result-4 c =
    let a = c.args.near.now in
    let b = c.args.far.now in
    fits w128 (search (sizes, a.x_in, b.d_in) depth 40) refl

pub overflow_sub-result : goal.overflow_sub-result
overflow_sub-result c =
    let a = c.args.near.now in
    let b = c.args.far.now in
    fits w128 (search (sizes, a.x_in, a.y_in, b.x_in, b.y_in) depth 40) refl

pub overflow_sub-result-2 : goal.overflow_sub-result-2
overflow_sub-result-2 c =
    let a = c.args.near.now in
    let b = c.args.far.now in
    fits w128 (search (sizes, a.x_in, a.d_in, b.x_in, b.d_in) depth 40) refl

pub overflow_mul-result-5 : goal.overflow_mul-result-5
overflow_mul-result-5 c =
    let a = c.args.near.now in
    let b = c.args.far.now in
    fits w128 (search (sizes, c.requires, a.x_in, a.d_in, b.x_in, b.d_in) depth 40) refl

pub overflow_add-result : goal.overflow_add-result
overflow_add-result c =
    let a = c.args.near.now in
    let b = c.args.far.now in
    fits w128 (search (sizes, c.requires, a.x_in, a.y_in, a.d_in, b.x_in, b.y_in, b.d_in) depth 40) refl

pub overflow_sub-result-3 : goal.overflow_sub-result-3
overflow_sub-result-3 c =
    let a = c.args.near.now in
    let b = c.args.far.now in
    fits w128 (search (sizes, a.y_in, a.d_in, b.y_in, b.d_in) depth 40) refl

pub returns-clause-num : goal.returns-clause-num
returns-clause-num c =
    let a = c.args.near.now in
    let b = c.args.far.now in
    identity (c.args.y2 ∷ a.x ∷ a.y ∷ a.d ∷ b.x ∷ b.y ∷ b.d ∷ []) (search (reads, sizes, c.requires, a.x_in, a.y_in, a.d_in, b.x_in, b.y_in, b.d_in) depth 40 fits 5000) refl

pub returns-clause-den : goal.returns-clause-den
returns-clause-den c =
    let a = c.args.near.now in
    let b = c.args.far.now in
    identity (c.args.y2 ∷ a.x ∷ a.y ∷ a.d ∷ b.x ∷ b.y ∷ b.d ∷ []) (search (reads, sizes, a.y_in, a.d_in, b.y_in, b.d_in) depth 40 fits 5000) refl

pub returns-clause-num_in : goal.returns-clause-num_in
returns-clause-num_in c =
    let a = c.args.near.now in
    let b = c.args.far.now in
    is_at_most numerator_limit (search (sizes, c.requires, a.x_in, a.y_in, a.d_in, b.x_in, b.y_in, b.d_in) depth 40) refl

pub returns-clause-den_in : goal.returns-clause-den_in
returns-clause-den_in c =
    let a = c.args.near.now in
    let b = c.args.far.now in
    is_at_most denominator_limit (search (sizes, a.y_in, a.d_in, b.y_in, b.d_in) depth 40) refl
