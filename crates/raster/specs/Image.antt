-- Images in raw PBM ("P4", pbm(5)): a header in plain decimal, then the rows from the greatest to the least. Each row has eight
-- pixels a byte, the leftmost in the highest bit, and is filled up with 0 bits.
use Rattle.std.specs.Prelude.{ℕ, ◌+◌, ◌*◌, ◌-◌, ◌/◌, ◌^◌, Bool, ◌&&◌, List, ◌++◌, nat_lt, if◌then◌else◌, codes, decimal, flat_map, map, reverse, sum_by}
use Rattle.std.specs.Int.{div_ceil}
use Rattle.raster.specs.declared.rule.Rule.{Rule}
use Rattle.geometry.specs.Facet.{Facet}
use Rattle.geometry.specs.declared.limits.TheConstants.{COLUMN_LIMIT, LAYER_LIMIT}
use Rattle.raster.specs.Grid.{Grid, centre}
use Rattle.raster.specs.Filler.{below, is_filled}

-- the byte of eight pixels, from the m-th byte of a row on
abbrev pub packed_byte : (ℕ → Bool) → ℕ → ℕ
packed_byte pixel m = sum_by (λ b. if pixel (8 * m + b) then 2 ^ (7 - b) else 0) (below 8)

-- a row of this width, in whole bytes
abbrev pub row_bytes : ℕ → (ℕ → Bool) → List ℕ
row_bytes width pixel = map (packed_byte (λ i. nat_lt i width && pixel i)) (below (div_ceil width 8))

-- the header of a P4 image: its width and height in pixels
abbrev pub header : ℕ → ℕ → List ℕ
header width height = codes "P4\n" ++ decimal width ++ codes " " ++ decimal height ++ codes "\n"

-- the image of the pixels, each by column and row
abbrev pub image_of_pixels : ℕ → ℕ → (ℕ → ℕ → Bool) → List ℕ
image_of_pixels width height pixel =
    header width height ++ flat_map (λ j. row_bytes width (λ i. pixel i j)) (reverse (below height))

-- More bytes than an image has: twice those of the pixels in the greatest number of columns and rows. The header takes fewer
-- than those pixels.
abbrev pub image_limit : ℕ
image_limit = 2 * (COLUMN_LIMIT * (COLUMN_LIMIT / 8))

-- more bytes than the images of all layers have
abbrev pub images_limit : ℕ
images_limit = LAYER_LIMIT * image_limit

-- the image of a layer: its filled voxels
abbrev pub layer_image : Grid → Rule → List Facet → ℕ → List ℕ
layer_image g rule facets k = image_of_pixels g.columns g.rows (λ i j. is_filled rule facets (centre g i j k))

-- the images of all layers, from 0 up
abbrev pub images : Grid → Rule → List Facet → List ℕ
images g rule facets = flat_map (layer_image g rule facets) (below g.layers)
