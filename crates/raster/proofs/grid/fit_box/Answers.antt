use Rattle.std.proofs.Common.{◌∙◌, to_z, of_z, w32}
use Rattle.raster.specs.Grid.{cell_count}
use Rattle.raster.proofs.lemmas.Middles.{coordinate, coordinate-in, coordinates-up, count-from, given-limits, last-from, limits-from}
use Rattle.raster.proofs.grid.fit_box.Goals as goal

pub cell_count-columns-requires-clause-low : goal.cell_count-columns-requires-clause-low
cell_count-columns-requires-clause-low c = coordinate-in c.x.result c.x.ensures.within

pub cell_count-columns-requires-clause-high : goal.cell_count-columns-requires-clause-high
cell_count-columns-requires-clause-high c = coordinate-in c.x-2.result c.x-2.ensures.within

pub cell_count-columns-requires-clause-order : goal.cell_count-columns-requires-clause-order
cell_count-columns-requires-clause-order c =
    coordinates-up (to_z w32 (of_z w32 c.x.result)) (to_z w32 (of_z w32 c.x-2.result)) c.args.low.x c.args.high.x
    (coordinate c.x.result c.x.ensures.within ∙ c.x.ensures.value) (coordinate c.x-2.result c.x-2.ensures.within ∙ c.x-2.ensures.value) c.requires.order.x

pub cell_count-rows-requires-clause-low : goal.cell_count-rows-requires-clause-low
cell_count-rows-requires-clause-low c = coordinate-in c.y.result c.y.ensures.within

pub cell_count-rows-requires-clause-high : goal.cell_count-rows-requires-clause-high
cell_count-rows-requires-clause-high c = coordinate-in c.y-2.result c.y-2.ensures.within

pub cell_count-rows-requires-clause-order : goal.cell_count-rows-requires-clause-order
cell_count-rows-requires-clause-order c =
    coordinates-up (to_z w32 (of_z w32 c.y.result)) (to_z w32 (of_z w32 c.y-2.result)) c.args.low.y c.args.high.y
    (coordinate c.y.result c.y.ensures.within ∙ c.y.ensures.value) (coordinate c.y-2.result c.y-2.ensures.within ∙ c.y-2.ensures.value) c.requires.order.y

pub cell_count-layers-requires-clause-low : goal.cell_count-layers-requires-clause-low
cell_count-layers-requires-clause-low c = coordinate-in c.z.result c.z.ensures.within

pub cell_count-layers-requires-clause-high : goal.cell_count-layers-requires-clause-high
cell_count-layers-requires-clause-high c = coordinate-in c.z-2.result c.z-2.ensures.within

pub cell_count-layers-requires-clause-order : goal.cell_count-layers-requires-clause-order
cell_count-layers-requires-clause-order c =
    coordinates-up (to_z w32 (of_z w32 c.z.result)) (to_z w32 (of_z w32 c.z-2.result)) c.args.low.z c.args.high.z
    (coordinate c.z.result c.z.ensures.within ∙ c.z.ensures.value) (coordinate c.z-2.result c.z-2.ensures.within ∙ c.z-2.ensures.value) c.requires.order.z

pub returns : goal.returns
returns c =
    c.given.ensures
    ∙ given-limits c.args.low c.args.pitch c.args.layer_height c.cell_count-columns.result c.cell_count-rows.result c.cell_count-layers.result
    c.cell_count-columns.ensures.low c.cell_count-rows.ensures.low c.cell_count-layers.ensures.low
    (last-from (to_z w32 (of_z w32 c.x.result)) c.args.low.x c.args.pitch c.cell_count-columns.result (coordinate c.x.result c.x.ensures.within ∙ c.x.ensures.value) c.cell_count-columns.ensures.last)
    (last-from (to_z w32 (of_z w32 c.y.result)) c.args.low.y c.args.pitch c.cell_count-rows.result (coordinate c.y.result c.y.ensures.within ∙ c.y.ensures.value) c.cell_count-rows.ensures.last)
    (last-from (to_z w32 (of_z w32 c.z.result)) c.args.low.z c.args.layer_height c.cell_count-layers.result (coordinate c.z.result c.z.ensures.within ∙ c.z.ensures.value) c.cell_count-layers.ensures.last)
    ∙ limits-from c.args.low c.args.pitch c.args.layer_height c.cell_count-columns.result c.cell_count-rows.result c.cell_count-layers.result
    (cell_count c.args.low.x c.args.high.x c.args.pitch) (cell_count c.args.low.y c.args.high.y c.args.pitch) (cell_count c.args.low.z c.args.high.z c.args.layer_height)
    (count-from c.cell_count-columns.result (to_z w32 (of_z w32 c.x.result)) (to_z w32 (of_z w32 c.x-2.result)) c.args.low.x c.args.high.x c.args.pitch c.cell_count-columns.ensures.value (coordinate c.x.result c.x.ensures.within ∙ c.x.ensures.value) (coordinate c.x-2.result c.x-2.ensures.within ∙ c.x-2.ensures.value))
    (count-from c.cell_count-rows.result (to_z w32 (of_z w32 c.y.result)) (to_z w32 (of_z w32 c.y-2.result)) c.args.low.y c.args.high.y c.args.pitch c.cell_count-rows.ensures.value (coordinate c.y.result c.y.ensures.within ∙ c.y.ensures.value) (coordinate c.y-2.result c.y-2.ensures.within ∙ c.y-2.ensures.value))
    (count-from c.cell_count-layers.result (to_z w32 (of_z w32 c.z.result)) (to_z w32 (of_z w32 c.z-2.result)) c.args.low.z c.args.high.z c.args.layer_height c.cell_count-layers.ensures.value (coordinate c.z.result c.z.ensures.within ∙ c.z.ensures.value) (coordinate c.z-2.result c.z-2.ensures.within ∙ c.z-2.ensures.value))
