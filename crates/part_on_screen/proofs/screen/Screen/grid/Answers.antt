use Rattle.std.proofs.Common.{◌∙◌, refl, sym}
use Rattle.raster.proofs.lemmas.Middles.{coordinate}
use Rattle.part_on_screen.specs.Middle.{screen_depth, screen_width}
use Rattle.part_on_screen.proofs.lemmas.Places.{all-by, all-in-range, at-most-limit, grid-on, layers-by, middle-by, point-by, point_at, range-by}
use Rattle.part_on_screen.proofs.screen.Screen.grid.Goals as goal

pub returns-in_default-start-clause-fault : goal.returns-in_default-start-clause-fault
returns-in_default-start-clause-fault c = (
  c.in_default.ensures,
  λ r. c.in_default-start.ensures.none refl
      (all-by _ _ c.args.low.x c.args.high.x _ (screen_width c.args.self.now) (coordinate c.x.result c.x.ensures.within ∙ c.x.ensures.value)
      (coordinate c.x-2.result c.x-2.ensures.within ∙ c.x-2.ensures.value) c.width.ensures.value r.along_x),
)

pub returns-in_default-start-2-clause-fault : goal.returns-in_default-start-2-clause-fault
returns-in_default-start-2-clause-fault c = (
  c.in_default.ensures,
  λ r. c.in_default-start-2.ensures.none refl
      (all-by _ _ c.args.low.y c.args.high.y _ (screen_depth c.args.self.now) (coordinate c.y.result c.y.ensures.within ∙ c.y.ensures.value)
      (coordinate c.y-2.result c.y-2.ensures.within ∙ c.y-2.ensures.value) c.depth.ensures.value r.along_y),
)

pub returns-then-layers-gt-LAYER_LIMIT-clause-fault : goal.returns-then-layers-gt-LAYER_LIMIT-clause-fault
returns-then-layers-gt-LAYER_LIMIT-clause-fault c =
    let s = c.args.self.now in
    let low_x = coordinate c.x.result c.x.ensures.within ∙ c.x.ensures.value in
    let high_x = coordinate c.x-2.result c.x-2.ensures.within ∙ c.x-2.ensures.value in
    let low_y = coordinate c.y.result c.y.ensures.within ∙ c.y.ensures.value in
    let high_y = coordinate c.y-2.result c.y-2.ensures.within ∙ c.y-2.ensures.value in (
      c.in_default.ensures,
      record {
        along_x = all-in-range c.args.low.x c.args.high.x (screen_width s) c.in-Some-start.x
            (middle-by _ _ c.args.low.x c.args.high.x _ (screen_width s) c.in-Some-start.x low_x high_x c.width.ensures.value c.in-Some-start.ensures.value)
            (range-by _ (screen_width s) c.in-Some-start.x c.width.ensures.value c.in-Some-start.ensures.range);
        along_y = all-in-range c.args.low.y c.args.high.y (screen_depth s) c.in-Some-start-2.y
            (middle-by _ _ c.args.low.y c.args.high.y _ (screen_depth s) c.in-Some-start-2.y low_y high_y c.depth.ensures.value c.in-Some-start-2.ensures.value)
            (range-by _ (screen_depth s) c.in-Some-start-2.y c.depth.ensures.value c.in-Some-start-2.ensures.range);
      },
      layers-by _ _ c.args.low.z c.args.high.z c.args.layer_height c.layer_count-layers.result (coordinate c.z.result c.z.ensures.within ∙ c.z.ensures.value)
          (coordinate c.z-2.result c.z-2.ensures.within ∙ c.z-2.ensures.value) c.layer_count-layers.ensures,
      c.if-layers-gt-LAYER_LIMIT.true,
    )

pub grid_at-requires-clause-layers : goal.grid_at-requires-clause-layers
grid_at-requires-clause-layers c = (
  c.args.high.z,
  at-most-limit c.z-2.result c.args.high.z c.z-2.ensures.value c.z-2.ensures.within,
  layers-by _ _ _ c.args.high.z c.args.layer_height c.layer_count-layers.result
      (coordinate c.z.result c.z.ensures.within ∙ c.z.ensures.value ∙ sym (coordinate c.z-3.result c.z-3.ensures.within ∙ c.z-3.ensures.value))
      (coordinate c.z-2.result c.z-2.ensures.within ∙ c.z-2.ensures.value) c.layer_count-layers.ensures,
)

pub returns-clause-found : goal.returns-clause-found
returns-clause-found c =
    let s = c.args.self.now in
    let low_x = coordinate c.x.result c.x.ensures.within ∙ c.x.ensures.value in
    let high_x = coordinate c.x-2.result c.x-2.ensures.within ∙ c.x-2.ensures.value in
    let low_y = coordinate c.y.result c.y.ensures.within ∙ c.y.ensures.value in
    let high_y = coordinate c.y-2.result c.y-2.ensures.within ∙ c.y-2.ensures.value in
    let in_x = range-by _ (screen_width s) c.in-Some-start.x c.width.ensures.value c.in-Some-start.ensures.range in
    let in_y = range-by _ (screen_depth s) c.in-Some-start-2.y c.depth.ensures.value c.in-Some-start-2.ensures.range in
    grid-on s c.args.low c.args.high c.args.layer_height c.in-Some-start.x c.in-Some-start-2.y c.layer_count-layers.result c.grid_at.result _ c.grid_at.ensures
    (point-by _ (point_at c.in-Some-start.x c.in-Some-start-2.y c.args.low.z) (coordinate c.in-Some-start.x in_x.first) (coordinate c.in-Some-start-2.y in_y.first)
    (coordinate c.z-3.result c.z-3.ensures.within ∙ c.z-3.ensures.value))
    c.in_default.ensures
    (middle-by _ _ c.args.low.x c.args.high.x _ (screen_width s) c.in-Some-start.x low_x high_x c.width.ensures.value c.in-Some-start.ensures.value)
    (middle-by _ _ c.args.low.y c.args.high.y _ (screen_depth s) c.in-Some-start-2.y low_y high_y c.depth.ensures.value c.in-Some-start-2.ensures.value)
    in_x in_y
    (layers-by _ _ c.args.low.z c.args.high.z c.args.layer_height c.layer_count-layers.result (coordinate c.z.result c.z.ensures.within ∙ c.z.ensures.value)
    (coordinate c.z-2.result c.z-2.ensures.within ∙ c.z-2.ensures.value) c.layer_count-layers.ensures)
    c.if-layers-gt-LAYER_LIMIT.false
