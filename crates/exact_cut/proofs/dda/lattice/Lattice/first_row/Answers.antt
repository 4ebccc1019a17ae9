use Rattle.std.proofs.Common.{rules, ◌≡◌, pos, ◌*ℤ◌, [], ◌∷◌, FitsSigned, to_z, refl, subst, sym, arith}
use Rattle.std.proofs.lemmas.Int.{to_z_pos, to_z-of_z}
use mir.Syntax.{w64, w128}
use Rattle.exact_int.proofs.lemmas.Sizes.{sizes, fits, cast_in}
use Rattle.exact_int.proofs.lemmas.Identity.{reads, identity}
use Rattle.exact_cut.specs.Column.{IsLeastColumn, clamp}
use Rattle.exact_cut.proofs.lemmas.Least.{ceiling_by, ceiling_step, positive_by, unit_positive, least_clamp}
use Rattle.exact_cut.proofs.dda.lattice.Lattice.first_row.Goals as goal
use Rattle.geometry.specs.declared.limits.TheConstants.{STEP_LIMIT}

pub overflow_mul-gap : goal.overflow_mul-gap
overflow_mul-gap c = fits w64 (search (sizes, c.args.p.now.d_in, c.args.self.now.y_in) depth 40) refl

pub overflow_sub-gap : goal.overflow_sub-gap
overflow_sub-gap c = fits w64 (search (sizes, c.args.p.now.y_in, c.args.p.now.d_in, c.args.self.now.y_in) depth 40) refl

pub overflow_mul-unit : goal.overflow_mul-unit
overflow_mul-unit c =
    let s_in = cast_in w64 c.args.self.now.step STEP_LIMIT c.args.self.now.step_in in
    fits w64 (search (sizes, s_in) depth 40) refl

pub overflow_mul-unit-2 : goal.overflow_mul-unit-2
overflow_mul-unit-2 c =
    let s_in = cast_in w64 c.args.self.now.step STEP_LIMIT c.args.self.now.step_in in
    fits w64 (search (sizes, s_in, c.args.p.now.d_in) depth 40) refl

pub ceil_div_64-requires : goal.ceil_div_64-requires
ceil_div_64-requires c =
    let p = c.args.p.now in
    let l = c.args.self.now in
    let s = to_z w64 l.step in
    let s_in = cast_in w64 l.step STEP_LIMIT l.step_in in
    positive_by (pos 2 *ℤ s *ℤ p.d)
    (identity (s ∷ p.d ∷ []) (search (reads, sizes, s_in, p.d_in) depth 40 fits 5000) refl)
    (unit_positive s p.d l.step (to_z_pos w64 l.step (let h = l.step_in in omega arith)) l.step_above p.d_positive)

pub returns : goal.returns
returns c =
    let p = c.args.p.now in
    let l = c.args.self.now in
    let i = c.ceil_div_64.result in
    let s = to_z w64 l.step in
    let s_in = cast_in w64 l.step STEP_LIMIT l.step_in in
    let k = ceiling_by p.y p.d l.y2 s c.ceil_div_64.ensures
    (identity (p.y ∷ p.d ∷ l.y2 ∷ []) (search (reads, sizes, l.y_in, p.y_in, p.d_in) depth 40 fits 5000) refl)
    (identity (s ∷ p.d ∷ []) (search (reads, sizes, s_in, p.d_in) depth 40 fits 5000) refl) in
    let h = ceiling_step i p.y p.d l.y2 s l.step (to_z_pos w64 l.step (let h = l.step_in in omega arith)) k in
    let f0 : FitsSigned w64 i = search rules in
    let f1 : FitsSigned w128 i = search rules in
    let clamped_is : c.clamped.result ≡ clamp i l.rows = simp to_z-of_z at c.clamped.ensures in
    subst (IsLeastColumn p.y p.d l.y2 l.step l.rows) (sym clamped_is) (least_clamp i p.y p.d l.y2 l.step l.rows h)
