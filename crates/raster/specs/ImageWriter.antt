-- A writer of images, which come one after another.
use Rattle.std.specs.Prelude.{ℕ, List, ◌++◌}
use Rattle.raster.specs.declared.span.Span.{Span}
use Rattle.raster.specs.Grid.{Grid}
use Rattle.raster.specs.Image.{image_of_pixels}
use Rattle.raster.specs.Span.{covers}

-- the bytes that the writer holds, and the number of those that are out
pub record ImageWriter : Type 0 where
  pub held : List ℕ
  pub sent : ℕ

-- what is still to go out after the image of these spans is added: the bytes that are held, and then the image
abbrev pub pending : List ℕ → Grid → List Span → List ℕ
pending held g spans = held ++ image_of_pixels g.columns g.rows (covers spans)
