use Rattle.std.proofs.Common.{◌≡◌, ◌∙◌, ap, subst, sym}
use Rattle.std.specs.Prelude.{IsSome, Option, pos, ◌*ℤ◌}
use Rattle.std.proofs.lemmas.Bool.{false≢true}
use Rattle.exact_int.specs.Bounds.{IsAtMost}
use Rattle.geometry.specs.Point.{IsMeshPoint, Point}
use Rattle.geometry.specs.declared.limits.TheConstants.{COORDINATE_LIMIT}
use Rattle.raster.proofs.lemmas.Middles.{coordinate}
use Rattle.part_on_screen.specs.Screen.{Screen}
use Rattle.part_on_screen.specs.Turned.{turned}
use Rattle.part_on_screen.proofs.lemmas.Places.{point-by, point_at}
use Rattle.part_on_screen.proofs.lemmas.Stretches.{stood, turned-in-range, turned-x, turned-y}
use Rattle.part_on_screen.proofs.screen.Screen.point_at.Goals as goal

pub unreachable-requires : goal.unreachable-requires
unreachable-requires c =
    let u = point_at c.quotient-x.result c.quotient-y.result c.z.result in
    let t = c.back.result in
    let at_x = coordinate c.quotient-x.result c.quotient-x.ensures.range in
    let at_y = coordinate c.quotient-y.result c.quotient-y.ensures.range in
    let mesh : IsMeshPoint (turned t u) = turned-in-range t u (c.quotient-x.ensures.range, c.quotient-y.ensures.range, c.z.ensures.within) in
    let x : c.turned-x.result.0 ≡ (turned t u).x = turned-x t u c.turned-x.result.0 _ _ c.turned-x.ensures.x at_x at_y in
    let y : c.turned-x.result.1 ≡ (turned t u).y = turned-y t u c.turned-x.result.1 _ _ c.turned-x.ensures.y at_x at_y in
    let near_x : IsAtMost COORDINATE_LIMIT c.turned-x.result.0 = subst (IsAtMost COORDINATE_LIMIT) (sym x) mesh.0 in
    let near_y : IsAtMost COORDINATE_LIMIT c.turned-x.result.1 = subst (IsAtMost COORDINATE_LIMIT) (sym y) mesh.1 in
    let some : IsSome c.new.result =
    c.new.ensures.some.1 (
      subst (IsAtMost COORDINATE_LIMIT) (sym (coordinate c.turned-x.result.0 near_x)) near_x,
      subst (IsAtMost COORDINATE_LIMIT) (sym (coordinate c.turned-x.result.1 near_y)) near_y,
      subst (IsAtMost COORDINATE_LIMIT) (sym (coordinate c.z.result c.z.ensures.within)) c.z.ensures.within,
    ) in
    false≢true (subst (λ (o : Option Point). IsSome o) c.in_default.is some)

pub returns : goal.returns
returns c =
    let u = point_at c.quotient-x.result c.quotient-y.result c.z.result in
    let t = c.back.result in
    let at_x = coordinate c.quotient-x.result c.quotient-x.ensures.range in
    let at_y = coordinate c.quotient-y.result c.quotient-y.ensures.range in
    let mesh : IsMeshPoint (turned t u) = turned-in-range t u (c.quotient-x.ensures.range, c.quotient-y.ensures.range, c.z.ensures.within) in
    let x : c.turned-x.result.0 ≡ (turned t u).x = turned-x t u c.turned-x.result.0 _ _ c.turned-x.ensures.x at_x at_y in
    let y : c.turned-x.result.1 ≡ (turned t u).y = turned-y t u c.turned-x.result.1 _ _ c.turned-x.ensures.y at_x at_y in
    let near_x : IsAtMost COORDINATE_LIMIT c.turned-x.result.0 = subst (IsAtMost COORDINATE_LIMIT) (sym x) mesh.0 in
    let near_y : IsAtMost COORDINATE_LIMIT c.turned-x.result.1 = subst (IsAtMost COORDINATE_LIMIT) (sym y) mesh.1 in
    let read : c.in-Some.p ≡ point_at c.turned-x.result.0 c.turned-x.result.1 c.z.result =
    c.in-Some.ensures.value
    ∙ point-by _ _ (coordinate c.turned-x.result.0 near_x) (coordinate c.turned-x.result.1 near_y) (coordinate c.z.result c.z.ensures.within) in
    let turn = ap (λ (r : Screen). r.turn) c.self.view_is in
    let times_x = ap (λ (r : Screen). r.times_x) c.self.view_is in
    let times_y = ap (λ (r : Screen). r.times_y) c.self.view_is in
    stood c.args.self.now t c.quotient-x.result c.quotient-y.result c.turned-x.result.0 c.turned-x.result.1 c.z.result c.in-Some.p c.args.placed
    (λ (q : Point). ap (λ r. turned r (turned t q)) (sym turn) ∙ c.back.ensures q) x y c.z.ensures.value read
    (ap (λ n. c.quotient-x.result *ℤ pos n) (sym times_x) ∙ c.quotient-x.ensures.value ∙ coordinate c.x.result c.x.ensures.within ∙ c.x.ensures.value)
    (ap (λ n. c.quotient-y.result *ℤ pos n) (sym times_y) ∙ c.quotient-y.ensures.value ∙ coordinate c.y.result c.y.ensures.within ∙ c.y.ensures.value)
