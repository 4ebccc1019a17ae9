use Rattle.std.proofs.Common.{◌∙◌, ◌≤◌, sym, ap, subst}
use Rattle.raster.specs.Grid.{IsGrid}
use Rattle.build_book.specs.Layer.{layers_area}
use Rattle.build_book.specs.Build.{Build}
use Rattle.build_book.proofs.lemmas.Totals.{build_small}
use Rattle.build_book.proofs.build.Build.total_area.Goals as goal
use Rattle.build_book.specs.declared.limits.TheConstants.{VOXEL_LIMIT}

pub layers_area-requires : goal.layers_area-requires
layers_area-requires g c =
    let limits = subst IsGrid c.grid.ensures c.hold_limits.ensures in
    subst (λ layers. layers_area layers ≤ VOXEL_LIMIT) (sym c.as_slice.ensures.value)
    (build_small c.self.inside.job.now c.self.inside.layers.items c.self.invariant
    limits.layers_high limits.rows_high limits.columns_high)

pub returns : goal.returns
returns g c = c.layers_area.ensures ∙ ap layers_area (c.as_slice.ensures.value ∙ ap (λ (b : Build). b.layers) c.self.view_is)
