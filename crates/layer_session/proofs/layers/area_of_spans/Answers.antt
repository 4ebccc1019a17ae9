use Rattle.std.proofs.Common.{◌∙◌, subst}
use Rattle.raster.specs.Grid.{IsGrid}
use Rattle.build_book.proofs.lemmas.Areas.{span_area-is}
use Rattle.layer_session.proofs.layers.area_of_spans.Goals as goal

pub area-requires : goal.area-requires
area-requires g c =
    let limits = subst IsGrid c.grid.ensures c.hold_limits.ensures in
    record {
      columns = c.args.job.now.grid.columns;
      rows = c.args.job.now.grid.rows;
      few_columns = limits.columns_high;
      few_rows = limits.rows_high;
      form = c.requires;
    }

pub returns : goal.returns
returns g c =
    λ rule k fill. c.area.ensures
    ∙ span_area-is c.args.job.now.grid rule c.args.job.now.solid.facets k c.args.spans.now c.requires fill.filled
