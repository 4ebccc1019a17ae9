use Rattle.std.proofs.Common.{◌∙◌, ◌≤◌, sym, ap, subst}
use Rattle.raster.specs.Grid.{IsGrid}
use Rattle.build_book.specs.Places.{total_area}
use Rattle.build_book.specs.Book.{Book}
use Rattle.build_book.proofs.lemmas.Totals.{book_small}
use Rattle.build_book.proofs.book.Book.total_area.Goals as goal
use Rattle.build_book.specs.declared.limits.TheConstants.{VOXEL_LIMIT}

pub total_area-requires : goal.total_area-requires
total_area-requires g c =
    let limits = subst IsGrid c.grid.ensures c.hold_limits.ensures in
    subst (λ ps. total_area ps ≤ VOXEL_LIMIT) (sym c.as_slice.ensures.value)
    (book_small c.self.inside.job.now c.self.inside.places.items c.self.invariant
    limits.layers_high limits.rows_high limits.columns_high)

pub returns : goal.returns
returns g c = c.total_area.ensures ∙ ap total_area (c.as_slice.ensures.value ∙ ap (λ (s : Book). s.places) c.self.view_is)
