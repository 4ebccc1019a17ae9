-- The pixels that spans show in a PNG are those of the layer that they fill.
use Rattle.std.proofs.Common.{◌≡◌, ◌∙◌, ℕ, ◌-◌, ◌<◌, Bool, true, false, List, ap, arith}
use Rattle.std.specs.Prelude.{if◌then◌else◌}
use Rattle.raster.specs.Filler.{is_filled}
use Rattle.raster.specs.Grid.{centre}
use Rattle.raster.specs.Span.{covers}
use Rattle.raster.specs.declared.span.Span.{Span}
use Rattle.layer_png.specs.Depth.{bits}
use Rattle.layer_png.specs.Layer.{column_at, grey, row_at, shown}
use Rattle.layer_png.specs.Png.{IsPng}
use Rattle.layer_png.specs.Text.{png_text}
use Rattle.layer_png.specs.declared.depth.Depth.{Depth}
use Rattle.layer_png.specs.declared.mirrors.Mirrors.{Mirrors}
use Rattle.layer_png.proofs.lemmas.Pixels.{same-file}
use Rattle.build_book.specs.Job.{Job}
use Rattle.layer_session.specs.Answers.{is_white_pixel, png_of_layer}

-- a column or a row of an image, mirrored or not, is one of the layer
in-layer : (mirrored : Bool) (count at : ℕ) → at < count → (if mirrored then count - 1 - at else at) < count
in-layer true count at inside = omega (arith, inside)
in-layer false count at inside = inside

in-layer-back : (mirrored : Bool) (count at : ℕ) → at < count → (if mirrored then at else count - 1 - at) < count
in-layer-back true count at inside = inside
in-layer-back false count at inside = omega (arith, inside)

module _ (job : Job) (k : ℕ) (mirrors : Mirrors) (spans : List Span) (filled : (i j : ℕ) → i < job.grid.columns → j < job.grid.rows → covers spans i j ≡ is_filled job.rule job.solid.facets (centre job.grid i j k)) where
  same-pixels : (x y : ℕ) → x < job.grid.columns → y < job.grid.rows
      → shown mirrors job.grid.columns job.grid.rows spans x y ≡ is_white_pixel job k mirrors x y
  same-pixels x y wide high =
      filled (column_at mirrors job.grid.columns x) (row_at mirrors job.grid.rows y)
      (in-layer mirrors.x job.grid.columns x wide) (in-layer-back mirrors.y job.grid.rows y high)

  pub same-png : (depth : Depth)
      → png_text (bits depth) job.grid.columns job.grid.rows (shown mirrors job.grid.columns job.grid.rows spans) ≡ png_of_layer job k depth mirrors
  same-png depth =
      same-file (bits depth) job.grid.columns job.grid.rows (shown mirrors job.grid.columns job.grid.rows spans) (is_white_pixel job k mirrors) same-pixels

  pub layer-pixels : (depth : Depth) (bytes : List ℕ)
      → IsPng bytes job.grid.columns job.grid.rows (bits depth) (λ x y. grey (bits depth) (shown mirrors job.grid.columns job.grid.rows spans x y))
      → IsPng bytes job.grid.columns job.grid.rows (bits depth) (λ x y. grey (bits depth) (is_white_pixel job k mirrors x y))
  layer-pixels depth bytes is =
      record {
        lines = is.lines;
        read = is.read;
        samples = λ x y wide high. is.samples x y wide high ∙ ap (λ (filled : Bool). grey (bits depth) filled) (same-pixels x y wide high);
      }
