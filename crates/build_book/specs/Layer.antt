-- Layers, and when a layer is lawful: when it is what solid, grid and rule determine.
use Rattle.std.specs.Prelude.{◌≡◌, ℕ, ◌+◌, ◌<◌, List, [], ◌∷◌, sum_by}
use Rattle.raster.specs.declared.span.Span.{Span}
use Rattle.plane_segments.specs.declared.segment.Segment.{Segment}
use Rattle.raster.specs.Grid.{centre, plane}
use Rattle.plane_segments.specs.Segment.{segments}
use Rattle.contour.specs.Loops.{AreLoops, loops}
use Rattle.raster.specs.Span.{AreSpans, covers}
use Rattle.raster.specs.Filler.{is_filled, area_of}
use Rattle.build_book.specs.Job.{Job}

pub record Layer : Type 0 where
  pub number : ℕ
  pub loops : List (List Segment)
  pub spans : List Span
  pub area : ℕ

-- the segments in which the plane of layer k cuts a job's mesh
abbrev pub layer_segments : Job → ℕ → List Segment
layer_segments job k = segments job.solid.facets (plane job.grid k)

-- The layer is what the job makes at place k. Its loops are those of the plane, closed, with each segment in exactly one. A
-- pixel lies in a span exactly if its voxel is filled.
pub record IsLawful (job : Job) (k : ℕ) (layer : Layer) : Type 0 where
  pub number : layer.number ≡ k
  pub loops_are : layer.loops ≡ loops (layer_segments job k)
  pub closed : AreLoops (layer_segments job k) layer.loops
  pub spans : AreSpans job.grid.columns job.grid.rows layer.spans
  pub filled : (i j : ℕ) → i < job.grid.columns → j < job.grid.rows
      → covers layer.spans i j ≡ is_filled job.rule job.solid.facets (centre job.grid i j k)
  pub area : layer.area ≡ area_of job.grid job.rule job.solid.facets k

-- the first layer of the list is the lawful one of place k, the next that of k + 1, and so on
abbrev pub AreLawfulFrom : Job → ℕ → List Layer → Type 0
AreLawfulFrom job k [] = Unit {0}
AreLawfulFrom job k (layer ∷ layers) = IsLawful job k layer × AreLawfulFrom job (k + 1) layers

abbrev pub layers_area : List Layer → ℕ
layers_area layers = sum_by (λ layer. layer.area) layers
