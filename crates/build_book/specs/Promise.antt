-- What is promised of the layers of a mesh, in terms of all facets that were read, degenerate ones among them.
-- - `job_of`: the job of slicing the mesh of these facets
-- - `IsClosed`: a loop comes back to the node that it starts from
-- - `IsPromised`: what a layer of that job has: closed loops, exactly the filled pixels, and their number
use Rattle.std.specs.Prelude.{◌≡◌, ◌↔◌, ◌<◌, ℕ, Bool, IsTrue, List, [], ◌∷◌, count_by, sum_by}
use Rattle.std.specs.List.{AllByRecursion}
use Rattle.geometry.specs.Facet.{Facet}
use Rattle.geometry.specs.Winding.{ray}
use Rattle.mesh_weld.specs.Solid.{kept_facets, solid_of}
use Rattle.plane_segments.specs.Node.{Node}
use Rattle.plane_segments.specs.declared.segment.Segment.{Segment}
use Rattle.plane_segments.specs.Segment.{segments}
use Rattle.contour.specs.Loops.{AreLoops}
use Rattle.raster.specs.declared.rule.Rule.{Rule}
use Rattle.raster.specs.Rule.{IsInside}
use Rattle.raster.specs.Grid.{Grid, centre, plane}
use Rattle.raster.specs.Span.{AreSpans, covers}
use Rattle.raster.specs.Filler.{below}
use Rattle.build_book.specs.Job.{Job}
use Rattle.build_book.specs.Layer.{Layer}

-- the job of slicing the mesh of all these facets
abbrev pub job_of : List Facet → Grid → Rule → Job
job_of facets grid rule = record { solid = solid_of facets; grid = grid; rule = rule }

-- each segment ends at the node that the next one starts from, and the last one at this node
abbrev pub LeadsTo : Node → List Segment → Type 0
LeadsTo node [] = ⊥
LeadsTo node (s ∷ []) = s.to ≡ node
LeadsTo node (s ∷ t ∷ rest) = (s.to ≡ t.from) × LeadsTo node (t ∷ rest)

abbrev pub IsClosed : List Segment → Type 0
IsClosed [] = ⊥
IsClosed (s ∷ rest) = LeadsTo s.from (s ∷ rest)

-- the number of the grid's pixels, each by column and row, that are 1
abbrev pub pixel_count : Grid → (ℕ → ℕ → Bool) → ℕ
pixel_count grid pixel = sum_by (λ j. count_by (λ i. pixel i j) (below grid.columns)) (below grid.rows)

-- Layer k of the mesh of these facets, in a grid, by a rule.
pub record IsPromised (facets : List Facet) (grid : Grid) (rule : Rule) (k : ℕ) (layer : Layer) : Type 0 where
  pub number : layer.number ≡ k
  -- its loops are closed
  pub closed : AllByRecursion IsClosed layer.loops
  -- they are those of its plane: each segment where the plane cuts the mesh is in exactly one, from its least facet on
  pub loops : AreLoops (segments (kept_facets facets) (plane grid k)) layer.loops
  -- its spans are not empty, in order and in the grid, and no two touch
  pub spans : AreSpans grid.columns grid.rows layer.spans
  -- a pixel lies in a span exactly if the signed crossings of all facets by the ray from its voxel's centre are inside
  pub filled : (i j : ℕ) → i < grid.columns → j < grid.rows
      → IsTrue (covers layer.spans i j) ↔ IsInside rule (ray facets (centre grid i j k))
  -- its area is the number of its filled pixels
  pub area : layer.area ≡ pixel_count grid (covers layer.spans)
