-- What slicing writes, in terms of all facets that were read, degenerate ones among them.
-- - `text_of_pixels`: the images of all layers, the report on them, or their PNGs, by their loops and pixels
-- - `ArePngs`: what a reader finds in these PNGs
-- - `IsSlicedFrom`: how a text follows from the input: by the loops of its planes and the rays of its facets
use Rattle.std.specs.Prelude.{◌≡◌, ◌↔◌, ◌<◌, ℕ, Bool, IsTrue, List, ◌++◌, Ok, Option, flat_map, length, sum_by}
use Rattle.std.specs.List.{AllByRecursion}
use Rattle.micro_num.specs.declared.unit.Unit.{Unit as LengthUnit}
use Rattle.stl_text.specs.Text.{Reads}
use Rattle.geometry.specs.Facet.{Facet}
use Rattle.geometry.specs.Winding.{ray}
use Rattle.geometry.specs.declared.limits.TheConstants.{FACET_LIMIT}
use Rattle.mesh_weld.specs.Balance.{IsBalanced}
use Rattle.mesh_weld.specs.Solid.{kept_facets}
use Rattle.plane_segments.specs.declared.segment.Segment.{Segment}
use Rattle.plane_segments.specs.Segment.{segments}
use Rattle.contour.specs.Loops.{AreLoops}
use Rattle.raster.specs.Filler.{below}
use Rattle.raster.specs.Grid.{Grid, centre, plane}
use Rattle.raster.specs.Image.{image_of_pixels}
use Rattle.raster.specs.Rule.{IsInside}
use Rattle.raster.specs.declared.rule.Rule.{Rule}
use Rattle.layer_png.specs.Depth.{bits}
use Rattle.layer_png.specs.Layer.{column_at, grey, row_at}
use Rattle.layer_png.specs.Png.{IsPng}
use Rattle.layer_png.specs.Text.{png_of_pixels}
use Rattle.build_book.specs.Promise.{IsClosed, pixel_count}
use Rattle.task_words.specs.declared.task.Given.{Given}
use Rattle.stlslice.specs.Outcome.{grid_for}
use Rattle.stlslice.specs.SlicedText.{line_of_layer, total_line}
use Rattle.stlslice.specs.declared.write.Output.{Output}
use Rattle.stlslice.specs.declared.write.Output.TheVariants as output

-- `loops k` are the loops of layer k, and `pixel k i j` says whether its pixel of column i and row j is 1.
abbrev pub text_of_pixels : Output → Grid → (ℕ → List (List Segment)) → (ℕ → ℕ → ℕ → Bool) → List ℕ
text_of_pixels output.Images grid loops pixel = flat_map (λ k. image_of_pixels grid.columns grid.rows (pixel k)) (below grid.layers)
text_of_pixels output.Report grid loops pixel =
    flat_map (λ k. line_of_layer k (length (loops k)) (pixel_count grid (pixel k))) (below grid.layers)
    ++ total_line (sum_by (λ k. pixel_count grid (pixel k)) (below grid.layers))
text_of_pixels (output.Pngs depth mirrors) grid loops pixel =
    flat_map (λ k. png_of_pixels grid depth mirrors (pixel k)) (below grid.layers)

-- A reader (ISO 15948) finds in each PNG an image of the grid's columns and rows. Its pixels are white or black. Column x
-- of row y, from the left and from the top, shows the pixel of the layer that the mirrors put there: white if that is 1.
abbrev pub ArePngs : Output → Grid → (ℕ → ℕ → ℕ → Bool) → Type 0
ArePngs output.Images grid pixel = Unit {0}
ArePngs output.Report grid pixel = Unit {0}
ArePngs (output.Pngs depth mirrors) grid pixel =
    (k : ℕ) → k < grid.layers → IsPng (png_of_pixels grid depth mirrors (pixel k)) grid.columns grid.rows (bits depth)
    (λ x y. grey (bits depth) (pixel k (column_at mirrors grid.columns x) (row_at mirrors grid.rows y)))

pub record IsSlicedFrom (unit : LengthUnit) (pitch layer : ℕ) (rule : Rule) (out : Output) (given : Option Given)
    (input text : List ℕ) : Type 0 where
  pub facets : List Facet
  pub grid : Grid
  pub loops : ℕ → List (List Segment)
  pub pixel : ℕ → ℕ → ℕ → Bool
  -- the input reads as these facets, and they are closed
  pub reads : Reads FACET_LIMIT unit input facets
  pub closed : IsBalanced facets
  -- the grid is the given one, or else fits the facets that are not degenerate
  pub placed : grid_for given pitch layer (kept_facets facets) ≡ Ok grid
  -- the loops of each layer are closed, and each segment where its plane cuts the facets that are not degenerate is in
  -- exactly one of them
  pub closed_loops : (k : ℕ) → AllByRecursion IsClosed (loops k)
  pub all_segments : (k : ℕ) → AreLoops (segments (kept_facets facets) (plane grid k)) (loops k)
  -- a pixel is 1 exactly if the signed crossings of all facets by the ray from its voxel's centre are inside by the rule
  pub filled : (i j k : ℕ) → IsTrue (pixel k i j) ↔ IsInside rule (ray facets (centre grid i j k))
  -- the text is the images of the pixels, the report that counts them and the loops, or the PNGs of the pixels
  pub written : text ≡ text_of_pixels out grid loops pixel
  pub pngs : ArePngs out grid pixel
