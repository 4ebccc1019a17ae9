use Rattle.std.proofs.Common.{rules, ◌≡◌, ◌∙◌, FitsSigned, refl, sym, ap, subst, to_z, of_z}
use Rattle.std.proofs.lemmas.Bool.{false≢true}
use Rattle.std.proofs.lemmas.Int.{to_z-of_z}
use mir.Syntax.{w32}
use Rattle.exact_int.proofs.lemmas.Sizes.{at_most_by}
use Rattle.raster.proofs.lemmas.Middles.{coordinate}
use Rattle.part_on_screen.specs.Screen.{Screen}
use Rattle.geometry.specs.Point.{IsMeshPoint, Point}
use Rattle.part_on_screen.specs.Stretched.{on_screen}
use Rattle.part_on_screen.specs.Turned.{turned}
use Rattle.part_on_screen.proofs.lemmas.Stretches.{product, turned-x, turned-y, turned-z}
use Rattle.part_on_screen.proofs.lemmas.Places.{of-some, point-by, point_at}
use Rattle.part_on_screen.proofs.screen.Screen.point.Goals as goal

pub returns-in_err-multiplied-clause-some : goal.returns-in_err-multiplied-clause-some
returns-in_err-multiplied-clause-some c =
    let s = c.self.inside in
    let small : FitsSigned w32 c.turned-x.result.0 = search rules in
    let x = to_z-of_z w32 c.turned-x.result.0 small
    ∙ turned-x s.turn c.args.p c.turned-x.result.0 _ _ c.turned-x.ensures.x (coordinate c.x.result c.x.ensures.within ∙ c.x.ensures.value) (coordinate c.y.result c.y.ensures.within ∙ c.y.ensures.value)
    ∙ ap (λ (r : Screen). (turned r.turn c.args.p).x) c.self.view_is in
    rw c.from_residual.ensures (
      λ h. absurd (false≢true h),
      λ h. absurd (c.in_err-multiplied.ensures.none refl (at_most_by _ (product _ _ _ _ x (ap (λ (r : Screen). r.times_x) c.self.view_is)) h.0)),
    )

pub returns-in_err-multiplied-2-clause-some : goal.returns-in_err-multiplied-2-clause-some
returns-in_err-multiplied-2-clause-some c =
    let s = c.self.inside in
    let small : FitsSigned w32 c.turned-x.result.1 = search rules in
    let y = to_z-of_z w32 c.turned-x.result.1 small
    ∙ turned-y s.turn c.args.p c.turned-x.result.1 _ _ c.turned-x.ensures.y (coordinate c.x.result c.x.ensures.within ∙ c.x.ensures.value) (coordinate c.y.result c.y.ensures.within ∙ c.y.ensures.value)
    ∙ ap (λ (r : Screen). (turned r.turn c.args.p).y) c.self.view_is in
    rw c.from_residual-in_err-multiplied-2.ensures (
      λ h. absurd (false≢true h),
      λ h. absurd (c.in_err-multiplied-2.ensures.none refl (at_most_by _ (product _ _ _ _ y (ap (λ (r : Screen). r.times_y) c.self.view_is)) h.1)),
    )

pub returns-clause-some : goal.returns-clause-some
returns-clause-some c =
    let s = c.self.inside in
    let small_x : FitsSigned w32 c.turned-x.result.0 = search rules in
    let small_y : FitsSigned w32 c.turned-x.result.1 = search rules in
    let at_x = coordinate c.x.result c.x.ensures.within ∙ c.x.ensures.value in
    let at_y = coordinate c.y.result c.y.ensures.within ∙ c.y.ensures.value in
    let x = to_z-of_z w32 c.turned-x.result.0 small_x ∙ turned-x s.turn c.args.p c.turned-x.result.0 _ _ c.turned-x.ensures.x at_x at_y
    ∙ ap (λ (r : Screen). (turned r.turn c.args.p).x) c.self.view_is in
    let y = to_z-of_z w32 c.turned-x.result.1 small_y ∙ turned-y s.turn c.args.p c.turned-x.result.1 _ _ c.turned-x.ensures.y at_x at_y
    ∙ ap (λ (r : Screen). (turned r.turn c.args.p).y) c.self.view_is in
    let fits_x : FitsSigned w32 c.in_ok-multiplied.field-0 = search rules in
    let fits_y : FitsSigned w32 c.in_ok-multiplied-2.field-0 = search rules in
    let same : point_at (to_z w32 (of_z w32 c.in_ok-multiplied.field-0)) (to_z w32 (of_z w32 c.in_ok-multiplied-2.field-0)) (to_z w32 (of_z w32 c.z.result)) ≡ on_screen c.args.self.now c.args.p =
    point-by _ _
    (to_z-of_z w32 c.in_ok-multiplied.field-0 fits_x ∙ c.in_ok-multiplied.ensures.value ∙ product _ _ _ _ x (ap (λ (r : Screen). r.times_x) c.self.view_is))
    (to_z-of_z w32 c.in_ok-multiplied-2.field-0 fits_y ∙ c.in_ok-multiplied-2.ensures.value ∙ product _ _ _ _ y (ap (λ (r : Screen). r.times_y) c.self.view_is))
    (coordinate c.z.result c.z.ensures.within ∙ c.z.ensures.value ∙ sym (turned-z c.args.self.now.turn c.args.p)) in
    (λ h. subst IsMeshPoint same (c.new.ensures.some.0 h), λ h. c.new.ensures.some.1 (subst IsMeshPoint (sym same) h))

pub returns-clause-value : goal.returns-clause-value
returns-clause-value c =
    let s = c.self.inside in
    let small_x : FitsSigned w32 c.turned-x.result.0 = search rules in
    let small_y : FitsSigned w32 c.turned-x.result.1 = search rules in
    let at_x = coordinate c.x.result c.x.ensures.within ∙ c.x.ensures.value in
    let at_y = coordinate c.y.result c.y.ensures.within ∙ c.y.ensures.value in
    let x = to_z-of_z w32 c.turned-x.result.0 small_x ∙ turned-x s.turn c.args.p c.turned-x.result.0 _ _ c.turned-x.ensures.x at_x at_y
    ∙ ap (λ (r : Screen). (turned r.turn c.args.p).x) c.self.view_is in
    let y = to_z-of_z w32 c.turned-x.result.1 small_y ∙ turned-y s.turn c.args.p c.turned-x.result.1 _ _ c.turned-x.ensures.y at_x at_y
    ∙ ap (λ (r : Screen). (turned r.turn c.args.p).y) c.self.view_is in
    let fits_x : FitsSigned w32 c.in_ok-multiplied.field-0 = search rules in
    let fits_y : FitsSigned w32 c.in_ok-multiplied-2.field-0 = search rules in
    let same : point_at (to_z w32 (of_z w32 c.in_ok-multiplied.field-0)) (to_z w32 (of_z w32 c.in_ok-multiplied-2.field-0)) (to_z w32 (of_z w32 c.z.result)) ≡ on_screen c.args.self.now c.args.p =
    point-by _ _
    (to_z-of_z w32 c.in_ok-multiplied.field-0 fits_x ∙ c.in_ok-multiplied.ensures.value ∙ product _ _ _ _ x (ap (λ (r : Screen). r.times_x) c.self.view_is))
    (to_z-of_z w32 c.in_ok-multiplied-2.field-0 fits_y ∙ c.in_ok-multiplied-2.ensures.value ∙ product _ _ _ _ y (ap (λ (r : Screen). r.times_y) c.self.view_is))
    (coordinate c.z.result c.z.ensures.within ∙ c.z.ensures.value ∙ sym (turned-z c.args.self.now.turn c.args.p)) in
    of-some c.new.result (λ (q : Point). q ≡ point_at (to_z w32 (of_z w32 c.in_ok-multiplied.field-0)) (to_z w32 (of_z w32 c.in_ok-multiplied-2.field-0)) (to_z w32 (of_z w32 c.z.result)))
    (λ (q : Point). q ≡ on_screen c.args.self.now c.args.p) (λ q h. h ∙ same) c.new.ensures.value
