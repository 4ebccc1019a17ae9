use Rattle.std.proofs.Common.{◌≡◌, ◌∙◌, ap, nat_abs, sym, subst, to_z, of_z, w32, ◌-ℤ◌, ◌≤◌}
use Rattle.std.proofs.lemmas.Bool.{true≢false}
use Rattle.raster.proofs.lemmas.Middles.{coordinate}
use Rattle.part_on_screen.specs.Middle.{extent, screen_depth, screen_width}
use Rattle.part_on_screen.specs.Screen.{Screen}
use Rattle.part_on_screen.proofs.lemmas.Places.{quotient}
use Rattle.part_on_screen.proofs.screen.Screen.misfit.Goals as goal

pub returns : goal.returns
returns c =
    let wide : c.abs_diff-wide.result ≡ extent c.args.low.x c.args.high.x =
    c.abs_diff-wide.ensures ∙ ap (λ z. nat_abs (z -ℤ to_z w32 (of_z w32 c.x-2.result))) (coordinate c.x.result c.x.ensures.within ∙ c.x.ensures.value)
    ∙ ap (λ z. nat_abs (c.args.high.x -ℤ z)) (coordinate c.x-2.result c.x-2.ensures.within ∙ c.x-2.ensures.value) in
    let deep : c.abs_diff-deep.result ≡ extent c.args.low.y c.args.high.y =
    c.abs_diff-deep.ensures ∙ ap (λ z. nat_abs (z -ℤ to_z w32 (of_z w32 c.y-2.result))) (coordinate c.y.result c.y.ensures.within ∙ c.y.ensures.value)
    ∙ ap (λ z. nat_abs (c.args.high.y -ℤ z)) (coordinate c.y-2.result c.y-2.ensures.within ∙ c.y-2.ensures.value) in
    let times_x = ap (λ (r : Screen). r.times_x) c.self.view_is in
    let times_y = ap (λ (r : Screen). r.times_y) c.self.view_is in
    λ layer_height. (
      λ h. true≢false
          (sym (c.holds.ensures.1 (subst (λ n. n ≤ screen_width c.args.self.now) (sym wide) h.along_x, subst (λ n. n ≤ screen_depth c.args.self.now) (sym deep) h.along_y)) ∙ c.if-holds.false),
      record {
        width_is = quotient c.from.result _ c.self.inside.times_x _ (c.from.ensures ∙ wide) times_x;
        depth_is = quotient c.from-2.result _ c.self.inside.times_y _ (c.from-2.ensures ∙ deep) times_y;
        screen_width_is = quotient c.from-3.result _ c.self.inside.times_x _ (c.from-3.ensures ∙ c.width.ensures.value) times_x;
        screen_depth_is = quotient c.from-4.result _ c.self.inside.times_y _ (c.from-4.ensures ∙ c.depth.ensures.value) times_y;
      },
      c.are_within-fits_turned.ensures,
    )
