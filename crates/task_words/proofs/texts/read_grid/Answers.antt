use Rattle.std.proofs.Common.{◌≡◌, ◌∙◌, ap, refl, sym, None, Option, Some}
use Rattle.std.proofs.Common.{arith, of_z, subst, to_z, w32}
use Rattle.std.proofs.lemmas.Int.{ints, to_z-of_z}
use Rattle.std.specs.Prelude.{ℤ, option_and_then}
use Rattle.geometry.specs.Point.{IsMeshPoint, Point}
use Rattle.task_words.specs.Texts.{given_at, left_of}
use Rattle.task_words.specs.declared.task.Given.{Given}
use Rattle.task_words.proofs.TextLemmas.{grid_cut, grid_read, no_point, none_left, point_is, some_left}
use Rattle.task_words.proofs.texts.read_grid.Goals as goal

abbrev at : ℤ → ℤ → ℤ → Point
at x y z = record { x = x; y = y; z = z }

pub returns-in_err-y : goal.returns-in_err-y
returns-in_err-y c = c.from_residual-in_err-y.ensures ∙ sym (grid_cut c.args.text.now (left_of c.count.new.self) (left_of c.count-2.new.self) (left_of c.count-3.new.self)
    (left_of c.coordinate.new.self) (left_of c.coordinate-2.new.self) c.in_ok-columns.columns c.in_ok-rows.rows c.in_ok-layers.layers c.in_ok-x.x
    c.in_ok-columns.ensures c.in_ok-rows.ensures c.in_ok-layers.ensures c.in_ok-x.ensures c.in_err-y.ensures)

pub returns-in_err-z : goal.returns-in_err-z
returns-in_err-z c = c.from_residual-in_err-z.ensures ∙ sym (grid_read c.args.text.now (left_of c.count.new.self) (left_of c.count-2.new.self) (left_of c.count-3.new.self)
    (left_of c.coordinate.new.self) (left_of c.coordinate-2.new.self) (left_of c.coordinate-3.new.self)
    c.in_ok-columns.columns c.in_ok-rows.rows c.in_ok-layers.layers c.in_ok-x.x c.in_ok-y.y None
    c.in_ok-columns.ensures c.in_ok-rows.ensures c.in_ok-layers.ensures c.in_ok-x.ensures c.in_ok-y.ensures c.in_err-z.ensures)

pub returns-then-is_some : goal.returns-then-is_some
returns-then-is_some c = sym (grid_read c.args.text.now (left_of c.count.new.self) (left_of c.count-2.new.self) (left_of c.count-3.new.self)
    (left_of c.coordinate.new.self) (left_of c.coordinate-2.new.self) (left_of c.coordinate-3.new.self)
    c.in_ok-columns.columns c.in_ok-rows.rows c.in_ok-layers.layers c.in_ok-x.x c.in_ok-y.y (Some c.in_ok-z.z)
    c.in_ok-columns.ensures c.in_ok-rows.ensures c.in_ok-layers.ensures c.in_ok-x.ensures c.in_ok-y.ensures c.in_ok-z.ensures
    ∙ some_left c.coordinate-3.new.self.rest _ (sym c.is_some.ensures ∙ c.if-is_some.true))

pub returns-in_err-origin : goal.returns-in_err-origin
returns-in_err-origin c =
    let x : to_z w32 (of_z w32 c.in_ok-x.x) ≡ c.in_ok-x.x = search (arith, ints, to_z-of_z) in
    let y : to_z w32 (of_z w32 c.in_ok-y.y) ≡ c.in_ok-y.y = search (arith, ints, to_z-of_z) in
    let z : to_z w32 (of_z w32 c.in_ok-z.z) ≡ c.in_ok-z.z = search (arith, ints, to_z-of_z) in
    let passed : at (to_z w32 (of_z w32 c.in_ok-x.x)) (to_z w32 (of_z w32 c.in_ok-y.y)) (to_z w32 (of_z w32 c.in_ok-z.z)) ≡ at c.in_ok-x.x c.in_ok-y.y c.in_ok-z.z =
    λ i. record { x = x i; y = y i; z = z i } in
    let made : Option Point → Option Given = option_and_then (λ origin. Some (given_at c.in_ok-columns.columns c.in_ok-rows.rows c.in_ok-layers.layers origin)) in
    c.from_residual-in_err-origin.ensures ∙ sym (grid_read c.args.text.now (left_of c.count.new.self) (left_of c.count-2.new.self) (left_of c.count-3.new.self)
    (left_of c.coordinate.new.self) (left_of c.coordinate-2.new.self) (left_of c.coordinate-3.new.self)
    c.in_ok-columns.columns c.in_ok-rows.rows c.in_ok-layers.layers c.in_ok-x.x c.in_ok-y.y (Some c.in_ok-z.z)
    c.in_ok-columns.ensures c.in_ok-rows.ensures c.in_ok-layers.ensures c.in_ok-x.ensures c.in_ok-y.ensures c.in_ok-z.ensures
    ∙ none_left c.coordinate-3.new.self.rest _ (sym c.is_some.ensures ∙ c.if-is_some.false)
    ∙ ap made (no_point c.in_ok-x.x c.in_ok-y.y c.in_ok-z.z (λ h. let bad = c.in_err-origin.ensures.some.1 (subst IsMeshPoint (sym passed) h) in cc)))

pub returns : goal.returns
returns c =
    let made : Option Point → Option Given = option_and_then (λ origin. Some (given_at c.in_ok-columns.columns c.in_ok-rows.rows c.in_ok-layers.layers origin)) in
    let x : to_z w32 (of_z w32 c.in_ok-x.x) ≡ c.in_ok-x.x = search (arith, ints, to_z-of_z) in
    let y : to_z w32 (of_z w32 c.in_ok-y.y) ≡ c.in_ok-y.y = search (arith, ints, to_z-of_z) in
    let z : to_z w32 (of_z w32 c.in_ok-z.z) ≡ c.in_ok-z.z = search (arith, ints, to_z-of_z) in
    let passed : at (to_z w32 (of_z w32 c.in_ok-x.x)) (to_z w32 (of_z w32 c.in_ok-y.y)) (to_z w32 (of_z w32 c.in_ok-z.z)) ≡ at c.in_ok-x.x c.in_ok-y.y c.in_ok-z.z =
    λ i. record { x = x i; y = y i; z = z i } in
    ap (λ origin. Some (given_at c.in_ok-columns.columns c.in_ok-rows.rows c.in_ok-layers.layers origin)) (c.in_ok-origin.ensures.value ∙ passed)
    ∙ sym (grid_read c.args.text.now (left_of c.count.new.self) (left_of c.count-2.new.self) (left_of c.count-3.new.self)
    (left_of c.coordinate.new.self) (left_of c.coordinate-2.new.self) (left_of c.coordinate-3.new.self)
    c.in_ok-columns.columns c.in_ok-rows.rows c.in_ok-layers.layers c.in_ok-x.x c.in_ok-y.y (Some c.in_ok-z.z)
    c.in_ok-columns.ensures c.in_ok-rows.ensures c.in_ok-layers.ensures c.in_ok-x.ensures c.in_ok-y.ensures c.in_ok-z.ensures
    ∙ none_left c.coordinate-3.new.self.rest _ (sym c.is_some.ensures ∙ c.if-is_some.false)
    ∙ ap made (point_is c.in_ok-x.x c.in_ok-y.y c.in_ok-z.z (subst IsMeshPoint passed (c.in_ok-origin.ensures.some.0 refl))))
