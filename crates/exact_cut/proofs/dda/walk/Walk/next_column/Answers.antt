use Rattle.std.proofs.Common.{◌≡◌, ℕ, ◌+◌, ◌<◌, ◌≤◌, ◌∷◌, Fits, of_z, to_z, refl, sym, ◌∙◌, ap, arith}
use Rattle.std.proofs.lemmas.Int.{to_z-of_z}
use mir.Syntax.{w32, w128}
use Rattle.exact_int.proofs.lemmas.Sizes.{fits, size_known}
use Rattle.exact_cut.specs.Column.{clamp}
use Rattle.exact_cut.proofs.lemmas.DdaSteps.{IsOnRows-followed, columns_along-first, columns_along-followed, some_left, whole_left}
use Rattle.geometry.specs.declared.limits.TheConstants.{COLUMN_LIMIT}
use Rattle.exact_cut.proofs.dda.walk.Walk.next_column.Goals as goal

row_fits : (row left : ℕ) → row + left ≤ COLUMN_LIMIT → Fits w32 (row + 1)
row_fits row left h = omega (arith, h)

pub followed-self-inside-requires-clause-dda : goal.followed-self-inside-requires-clause-dda
followed-self-inside-requires-clause-dda c = c.self.invariant.dda

pub followed-self-inside-requires-clause-whole_in : goal.followed-self-inside-requires-clause-whole_in
followed-self-inside-requires-clause-whole_in c = whole_left c.self.inside.row c.self.inside.left c.self.inside.sign c.self.inside.dda c.self.invariant

pub overflow_add-self : goal.overflow_add-self
overflow_add-self c = row_fits c.self.inside.row c.self.inside.left c.self.invariant.rows_in

pub overflow_sub-self : goal.overflow_sub-self
overflow_sub-self c = let w = c.self.inside in some_left w.left w.columns w.dda (ap (λ v. v.columns) c.self.view_is) c.requires

pub invariant_of-self : goal.invariant_of-self
invariant_of-self c =
    let w = c.self.inside in
    let some : 0 < w.left = some_left w.left w.columns w.dda (ap (λ v. v.columns) c.self.view_is) c.requires in
    IsOnRows-followed w.left w.dda _ c.followed-self-inside.ensures.next w.row w.sign some c.followed-self-inside.ensures.last c.self.invariant

pub returns-clause-column : goal.returns-clause-column
returns-clause-column c =
    let w = c.self.inside in
    let some : 0 < w.left = some_left w.left w.columns w.dda (ap (λ v. v.columns) c.self.view_is) c.requires in
    let whole = whole_left w.row w.left w.sign w.dda c.self.invariant in
    let kept : to_z w128 (of_z w128 w.dda.whole) ≡ w.dda.whole = to_z-of_z w128 w.dda.whole (fits w128 (size_known whole) refl) in
    let first : c.clamped-column.result ≡ clamp w.dda.whole w.columns = c.clamped-column.ensures ∙ ap (λ i. clamp i w.columns) kept in
    sym (ap (λ v. v.columns) c.self.view_is) ∙ columns_along-first w.left w.columns w.dda some
    ∙ (λ i. sym first i ∷ columns_along-followed w.left w.dda _ c.followed-self-inside.ensures.next w.columns i)

pub returns-clause-row : goal.returns-clause-row
returns-clause-row c = ap (λ v. v.row + 1) c.self.view_is

pub returns-clause-sign : goal.returns-clause-sign
returns-clause-sign c = ap (λ v. v.sign) c.self.view_is
