use Rattle.std.proofs.Common.{[], ◌∷◌, ◌+ℤ◌, ◌*ℤ◌, pos, to_z, refl, ◌∙◌, arith}
use Rattle.std.proofs.lemmas.Int.{to_z_pos}
use mir.Syntax.{w64}
use Rattle.exact_int.proofs.lemmas.Sizes.{sizes, fits, cast_in, at_most_by}
use Rattle.exact_int.proofs.lemmas.Identity.{reads, identity}
use Rattle.exact_cut.specs.Column.{centre_x}
use Rattle.exact_cut.proofs.lemmas.Scanlines.{scanline_in}
use Rattle.exact_cut.proofs.dda.lattice.Lattice.scanline.Goals as goal
use Rattle.geometry.specs.declared.limits.TheConstants.{COLUMN_LIMIT, STEP_LIMIT}

pub overflow_mul-result : goal.overflow_mul-result
overflow_mul-result c =
    let l = c.args.self.now in
    let s_in = cast_in w64 l.step STEP_LIMIT l.step_in in
    fits w64 (search (sizes, s_in) depth 40) refl

pub overflow_mul-result-2 : goal.overflow_mul-result-2
overflow_mul-result-2 c =
    let l = c.args.self.now in
    let s_in = cast_in w64 l.step STEP_LIMIT l.step_in in
    let r_in = cast_in w64 c.args.row COLUMN_LIMIT (let h = l.rows_in in let k = c.requires in omega arith) in
    fits w64 (search (sizes, s_in, r_in) depth 40) refl

pub overflow_add-result : goal.overflow_add-result
overflow_add-result c =
    let l = c.args.self.now in
    let s_in = cast_in w64 l.step STEP_LIMIT l.step_in in
    let r_in = cast_in w64 c.args.row COLUMN_LIMIT (let h = l.rows_in in let k = c.requires in omega arith) in
    fits w64 (search (sizes, l.y_in, s_in, r_in) depth 40) refl

pub returns-clause-value : goal.returns-clause-value
returns-clause-value c =
    let l = c.args.self.now in
    let s = to_z w64 l.step in
    let r = to_z w64 c.args.row in
    let s_in = cast_in w64 l.step STEP_LIMIT l.step_in in
    let r_in = cast_in w64 c.args.row COLUMN_LIMIT (let h = l.rows_in in let k = c.requires in omega arith) in
    let e = to_z_pos w64 l.step (let h = l.step_in in omega arith) in
    let f = to_z_pos w64 c.args.row (let h = l.rows_in in let k = c.requires in omega arith) in
    identity (l.y2 ∷ s ∷ r ∷ []) (search (reads, sizes, l.y_in, s_in, r_in) depth 40 fits 5000) refl ∙ (λ i. l.y2 +ℤ pos 2 *ℤ e i *ℤ f i)

pub returns-clause-within : goal.returns-clause-within
returns-clause-within c =
    let l = c.args.self.now in
    at_most_by (centre_x l.y2 l.step c.args.row) (returns-clause-value c) (scanline_in l.y2 l.step l.rows c.args.row l.y_in l.last_in c.requires)
