use Rattle.std.proofs.Common.{◌∙◌, arith, ap, length, subst}
use Rattle.raster.specs.Grid.{IsGrid}
use Rattle.build_book.specs.Places.{filed_count}
use Rattle.build_book.specs.Book.{Book}
use Rattle.build_book.proofs.book.Book.filed.Goals as goal

pub filed_count-requires : goal.filed_count-requires
filed_count-requires g c =
    let limits = subst IsGrid c.grid.ensures c.hold_limits.ensures in
    omega (
      arith,
      ap length c.as_slice.ensures.value,
      c.self.invariant.one_each,
      limits.layers_high,
    )

pub returns-clause-count : goal.returns-clause-count
returns-clause-count g c = c.filed_count.ensures ∙ ap filed_count (c.as_slice.ensures.value ∙ ap (λ (s : Book). s.places) c.self.view_is)
