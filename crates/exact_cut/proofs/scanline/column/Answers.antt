use Rattle.std.proofs.Common.{rules, ◌≡◌, pos, ◌*ℤ◌, [], ◌∷◌, FitsSigned, to_z, refl, subst, sym, arith}
use Rattle.std.proofs.lemmas.Int.{to_z_pos, to_z-of_z}
use mir.Syntax.{w128}
use Rattle.exact_int.proofs.lemmas.Sizes.{sizes, fits, cast_in}
use Rattle.exact_int.proofs.lemmas.Identity.{reads, identity}
use Rattle.exact_cut.specs.Column.{IsLeastColumn, clamp}
use Rattle.exact_cut.proofs.lemmas.Least.{ceiling_by, ceiling_step, positive_by, unit_positive, least_clamp}
use Rattle.exact_cut.proofs.scanline.column.Goals as goal
use Rattle.geometry.specs.declared.limits.TheConstants.{STEP_LIMIT}

pub overflow_mul-gap : goal.overflow_mul-gap
overflow_mul-gap c = fits w128 (search (sizes, c.requires.first_in, c.den-den.ensures.within) depth 40) refl

pub overflow_sub-gap : goal.overflow_sub-gap
overflow_sub-gap c =
    fits w128 (search (sizes, c.requires.first_in, c.num.ensures.within, c.den-den.ensures.within) depth 40) refl

pub overflow_mul-unit : goal.overflow_mul-unit
overflow_mul-unit c =
    let s_in = cast_in w128 c.args.step STEP_LIMIT c.requires.step_in in
    fits w128 (search (sizes, s_in) depth 40) refl

pub overflow_mul-unit-2 : goal.overflow_mul-unit-2
overflow_mul-unit-2 c =
    let s_in = cast_in w128 c.args.step STEP_LIMIT c.requires.step_in in
    fits w128 (search (sizes, s_in, c.den-den.ensures.within) depth 40) refl

pub ceil_div-requires : goal.ceil_div-requires
ceil_div-requires c =
    let den = c.den-den in
    let s = to_z w128 c.args.step in
    let s_in = cast_in w128 c.args.step STEP_LIMIT c.requires.step_in in
    positive_by (pos 2 *ℤ s *ℤ den.result)
    (identity (s ∷ den.result ∷ []) (search (reads, sizes, s_in, den.ensures.within) depth 40 fits 5000) refl)
    (unit_positive s den.result c.args.step (to_z_pos w128 c.args.step (omega arith)) c.requires.step_above den.ensures.positive)

pub returns : goal.returns
returns c =
    let p = c.args.c.now in
    let num = c.num in
    let den = c.den-den in
    let i = c.ceil_div.result in
    let first = c.args.first2 in
    let s = to_z w128 c.args.step in
    let s_in = cast_in w128 c.args.step STEP_LIMIT c.requires.step_in in
    let k = ceiling_by num.result den.result first s c.ceil_div.ensures
    (identity (num.result ∷ den.result ∷ first ∷ []) (search (reads, sizes, c.requires.first_in, num.ensures.within, den.ensures.within) depth 40 fits 5000) refl)
    (identity (s ∷ den.result ∷ []) (search (reads, sizes, s_in, den.ensures.within) depth 40 fits 5000) refl) in
    let h = ceiling_step i num.result den.result first s c.args.step (to_z_pos w128 c.args.step (omega arith)) k in
    let f1 : FitsSigned w128 i = search rules in
    let clamped_is : c.clamped.result ≡ clamp i c.args.columns = simp to_z-of_z at c.clamped.ensures in
    let l = least_clamp i num.result den.result first c.args.step c.args.columns h in
    let m = subst (λ n. IsLeastColumn n den.result first c.args.step c.args.columns (clamp i c.args.columns)) num.ensures.value l in
    let n = subst (λ d. IsLeastColumn p.num d first c.args.step c.args.columns (clamp i c.args.columns)) den.ensures.value m in
    subst (IsLeastColumn p.num p.den first c.args.step c.args.columns) (sym clamped_is) n
