use Rattle.std.proofs.Common.{[], ◌∷◌, refl}
use mir.Syntax.{w128}
use Rattle.exact_int.proofs.lemmas.Sizes.{sizes, fits, is_at_most}
use Rattle.exact_cut.specs.Bounds.{denominator_limit}
use Rattle.exact_int.proofs.lemmas.Identity.{reads, identity}
use Rattle.exact_cut.proofs.scanline.section.slope.Goals as goal

pub overflow_sub-result : goal.overflow_sub-result
overflow_sub-result c =
    let p = c.args.near.now in
    let q = c.args.far.now in
    fits w128 (search (sizes, p.x_in, p.d_in, q.x_in, q.d_in) depth 40) refl

pub returns-clause-value : goal.returns-clause-value
returns-clause-value c =
    let p = c.args.near.now in
    let q = c.args.far.now in
    identity (p.x ∷ p.d ∷ q.x ∷ q.d ∷ []) (search (reads, sizes, p.x_in, p.d_in, q.x_in, q.d_in) depth 40 fits 5000) refl

pub returns-clause-within : goal.returns-clause-within
returns-clause-within c =
    let p = c.args.near.now in
    let q = c.args.far.now in
    is_at_most denominator_limit (search (sizes, p.x_in, p.d_in, q.x_in, q.d_in) depth 40) refl
