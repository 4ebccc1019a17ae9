-- The PNGs of a job's layers, and the memory that they are made in.
use Rattle.std.specs.Prelude.{ℕ, ◌≤◌, List, length}
use Rattle.std.specs.List.{All}
use Rattle.raster.specs.Grid.{Grid}
use Rattle.layer_png.specs.Depth.{bits}
use Rattle.layer_png.specs.Text.{most_png_bytes}
use Rattle.layer_png.specs.declared.depth.Depth.{Depth}
use Rattle.layer_png.specs.declared.mirrors.Mirrors.{Mirrors}
use Rattle.build_book.specs.Job.{Job}
use Rattle.build_book.specs.Layer.{Layer}
use Rattle.stlslice.specs.SlicedText.{pngs}

-- the PNGs of all layers
abbrev pub pngs_of : Job → Depth → Mirrors → List ℕ
pngs_of job depth mirrors = pngs job.grid job.rule job.solid.facets depth mirrors

-- `room` bytes are enough for the PNG of each layer
abbrev pub HasPngRoom : Grid → Depth → List Layer → ℕ → Type 0
HasPngRoom grid depth layers room = All (λ layer. most_png_bytes (bits depth) grid.columns grid.rows (length layer.spans) ≤ room) layers
