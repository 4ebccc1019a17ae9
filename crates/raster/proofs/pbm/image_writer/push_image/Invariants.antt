use Rattle.std.proofs.Common.{◌≡◌, ◌≤◌}
use Rattle.std.specs.Int.{div_ceil}
use Rattle.raster.specs.Span.{covers}
use Rattle.raster.specs.ImageWriter.{pending}
use Rattle.raster.specs.Rows.{IsRowStart}
use Rattle.raster.proofs.lemmas.Written.{IsUnderWay, lower_rows}
use Rattle.raster.proofs.pbm.image_writer.push_image.Given as goal

abbrev pub invariant-loop-row : goal.invariant-loop-row
invariant-loop-row g l =
    record {
      needed : l.needed ≡ div_ceil l.g.columns 8;
      rows : l.row ≤ l.g.rows;
      split : IsRowStart l.spans l.end l.row;
      text : IsUnderWay (g.W.Sink.contents l.fn.w) (g.W.Sink.contents l.w) (pending l.fn.chunk l.g l.spans) l.before l.written l.chunk (lower_rows l.g.columns (covers l.spans) l.row);
      same : g.W.Failures.failure_count l.w ≡ g.W.Failures.failure_count l.fn.w;
    }

abbrev pub decreases-loop-row : goal.decreases-loop-row
decreases-loop-row g l = l.row
