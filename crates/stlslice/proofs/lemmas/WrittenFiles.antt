-- What slicing writes is cut into the files of the layers.
use Rattle.std.proofs.Common.{◌≡◌, ◌∙◌, ℕ, zero, suc, ◌+◌, ◌<◌, ◌≤◌, Bool, List, Option, Some, ap, arith, refl, sym}
use Rattle.std.specs.Prelude.{flat_map, map}
use Rattle.std.specs.List.{All, AllByRecursion, concat, range_with_len}
use Rattle.std.proofs.lemmas.List.Concat.{concat_is}
use Rattle.std.proofs.lemmas.List.Elements.{All-from_recursion}
use Rattle.std.proofs.lemmas.List.Folds.{flat_map-map}
use Rattle.micro_num.specs.declared.unit.Unit.{Unit as LengthUnit}
use Rattle.geometry.specs.declared.limits.TheConstants.{COLUMN_LIMIT}
use Rattle.mesh_weld.specs.Solid.{kept_facets}
use Rattle.raster.specs.Filler.{below}
use Rattle.raster.specs.Image.{image_of_pixels}
use Rattle.raster.specs.Stream.{IsImage, behind_image, cut}
use Rattle.raster.specs.declared.rule.Rule.{Rule}
use Rattle.raster.proofs.lemmas.Images.{length-rows}
use Rattle.raster.proofs.lemmas.Streams.{images-cut}
use Rattle.raster.proofs.lemmas.Written.{lower_rows}
use Rattle.layer_png.specs.Depth.{bits}
use Rattle.layer_png.specs.Layer.{column_at, grey, row_at}
use Rattle.layer_png.specs.Stream.{IsSomePng, cut_pngs}
use Rattle.layer_png.specs.Text.{png_of_pixels}
use Rattle.layer_png.specs.declared.depth.Depth.{Depth}
use Rattle.layer_png.specs.declared.mirrors.Mirrors.{Mirrors}
use Rattle.layer_png.proofs.lemmas.Streams.{pngs-cut}
use Rattle.task_words.specs.declared.task.Given.{Given}
use Rattle.stlslice.specs.WrittenPixels.{IsSlicedFrom}
use Rattle.stlslice.specs.declared.write.Output.TheVariants as output
use Rattle.stlslice.proofs.lemmas.Pngs.{IsImageSize, placed_size}

-- each file of a range of layers
each_mapped : (P : List ℕ → Type 0) (file : ℕ → List ℕ) (a n : ℕ) → ((k : ℕ) → a ≤ k → k < a + n → P (file k)) → AllByRecursion P (map file (range_with_len a n))
each_mapped P file a zero h = tt
each_mapped P file a (suc n) h = (h a (omega arith) (omega arith), each_mapped P file (a + 1) n (λ k low high. h k (omega (arith, low)) (omega (arith, high))))

all_mapped : (P : List ℕ → Type 0) (file : ℕ → List ℕ) (n : ℕ) → ((k : ℕ) → k < n → P (file k)) → All P (map file (below n))
all_mapped P file n h = All-from_recursion P (map file (below n)) (each_mapped P file 0 n (λ k low high. h k (omega (arith, high))))

-- the files of layers, one behind another
joined : (file : ℕ → List ℕ) (numbers : List ℕ) → flat_map file numbers ≡ concat (map file numbers)
joined file numbers = sym (concat_is (map file numbers) ∙ flat_map-map (λ (bytes : List ℕ). bytes) file numbers)

is_image : (width height : ℕ) (pixel : ℕ → ℕ → Bool) → width ≤ COLUMN_LIMIT → height ≤ COLUMN_LIMIT → IsImage (image_of_pixels width height pixel)
is_image width height pixel wide high = record {
  width = width;
  height = height;
  rows = lower_rows width pixel height;
  wide = omega (arith, wide);
  high = omega (arith, high);
  size = length-rows width height pixel;
  text = refl;
}

pub images_cut : (unit : LengthUnit) (pitch layer : ℕ) (rule : Rule) (given : Option Given) (input text : List ℕ)
    → (from : IsSlicedFrom unit pitch layer rule output.Images given input text)
    → cut behind_image text ≡ Some (map (λ k. image_of_pixels from.grid.columns from.grid.rows (from.pixel k)) (below from.grid.layers))
images_cut unit pitch layer rule given input text from =
    let size : IsImageSize from.grid = placed_size given pitch layer (kept_facets from.facets) from.grid from.placed in
    let image : ℕ → List ℕ = λ k. image_of_pixels from.grid.columns from.grid.rows (from.pixel k) in
    ap (λ (l : List ℕ). cut behind_image l) (from.written ∙ joined image (below from.grid.layers))
    ∙ images-cut (map image (below from.grid.layers))
    (all_mapped IsImage image from.grid.layers (λ k h. is_image from.grid.columns from.grid.rows (from.pixel k) size.narrow size.low))

pub pngs_cut : (unit : LengthUnit) (pitch layer : ℕ) (rule : Rule) (given : Option Given) (depth : Depth) (mirrors : Mirrors) (input text : List ℕ)
    → (from : IsSlicedFrom unit pitch layer rule (output.Pngs depth mirrors) given input text)
    → cut_pngs text ≡ Some (map (λ k. png_of_pixels from.grid depth mirrors (from.pixel k)) (below from.grid.layers))
pngs_cut unit pitch layer rule given depth mirrors input text from =
    let png : ℕ → List ℕ = λ k. png_of_pixels from.grid depth mirrors (from.pixel k) in
    ap (λ (l : List ℕ). cut_pngs l) (from.written ∙ joined png (below from.grid.layers))
    ∙ pngs-cut (map png (below from.grid.layers)) (all_mapped IsSomePng png from.grid.layers (λ k h. record {
      width = from.grid.columns;
      height = from.grid.rows;
      depth = bits depth;
      pixel = λ x y. grey (bits depth) (from.pixel k (column_at mirrors from.grid.columns x) (row_at mirrors from.grid.rows y));
      png = from.pngs k h;
    }))
