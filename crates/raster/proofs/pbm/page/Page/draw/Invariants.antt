use Rattle.std.proofs.Common.{◌≡◌, ◌≤◌, ◌++◌}
use Rattle.raster.specs.Image.{image_of_pixels}
use Rattle.raster.specs.Rows.{IsRowStart}
use Rattle.raster.specs.Span.{covers}
use Rattle.raster.proofs.lemmas.Written.{lower_rows}
use Rattle.raster.proofs.pbm.page.Page.draw.Given as goal

abbrev pub invariant-loop-row : goal.invariant-loop-row
invariant-loop-row g l =
    record {
      rows : l.row ≤ l.g.rows;
      split : IsRowStart l.spans l.end l.row;
      text : l.self.bytes ++ lower_rows l.g.columns (covers l.spans) l.row ≡ l.fn.self.bytes ++ image_of_pixels l.g.columns l.g.rows (covers l.spans);
      room : l.self.room ≡ l.fn.self.room;
    }

abbrev pub decreases-loop-row : goal.decreases-loop-row
decreases-loop-row g l = l.row
