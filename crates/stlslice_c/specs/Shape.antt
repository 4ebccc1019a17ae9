-- What C gets of a file's facets and of an open mesh.
use Rattle.std.specs.Prelude.{ℕ, Option, Some, None, pos}
use Rattle.geometry.specs.Point.{Point}
use Rattle.raster.specs.Grid.{Grid}
use Rattle.layer_session.specs.Session.{Session}
use Rattle.stlslice_c.specs.declared.shape.Cells.{Cells}
use Rattle.stlslice_c.specs.declared.shape.Corners.{Corners}
use Rattle.stlslice_c.specs.declared.shape.Shape.{Shape}

-- the number of facets and their box; zeros if there is none
abbrev pub corners_told : ℕ → Option (Point × Point) → Corners
corners_told n None = record {
  facets = n;
  low_x = pos 0;
  low_y = pos 0;
  low_z = pos 0;
  high_x = pos 0;
  high_y = pos 0;
  high_z = pos 0;
}
corners_told n (Some box) = record {
  facets = n;
  low_x = box.0.x;
  low_y = box.0.y;
  low_z = box.0.z;
  high_x = box.1.x;
  high_y = box.1.y;
  high_z = box.1.z;
}

abbrev pub cells_told : Grid → Cells
cells_told g = record {
  columns = g.columns;
  rows = g.rows;
  layers = g.layers;
  origin_x = g.origin.x;
  origin_y = g.origin.y;
  origin_z = g.origin.z;
}

abbrev pub shape_told : Session → Shape
shape_told s = record {
  corners = corners_told s.facet_count s.bounds;
  cells = cells_told s.job.grid;
  pitch = s.job.grid.pitch;
  layer = s.job.grid.layer_height;
  times_x = s.times.0;
  times_y = s.times.1;
}
