-- Images and areas of two meshes whose filled voxels are the same.
use Rattle.std.proofs.Common.{◌≡◌, ℕ, List}
use Rattle.std.specs.Prelude.{count_by, flat_map, sum_by}
use Rattle.geometry.specs.Facet.{Facet}
use Rattle.geometry.specs.Point.{Point}
use Rattle.raster.specs.declared.rule.Rule.{Rule}
use Rattle.raster.specs.Grid.{Grid, centre}
use Rattle.raster.specs.Filler.{area_of, below, is_filled}
use Rattle.raster.specs.Image.{image_of_pixels, images}

pub same_images : (g : Grid) (rule : Rule) (a b : List Facet) → ((c : Point) → is_filled rule a c ≡ is_filled rule b c)
    → images g rule a ≡ images g rule b
same_images g rule a b e =
    λ n. flat_map (λ k. image_of_pixels g.columns g.rows (λ i j. e (centre g i j k) n)) (below g.layers)

pub same_areas : (g : Grid) (rule : Rule) (a b : List Facet) (k : ℕ) → ((c : Point) → is_filled rule a c ≡ is_filled rule b c)
    → area_of g rule a k ≡ area_of g rule b k
same_areas g rule a b k e = λ n. sum_by (λ j. count_by (λ i. e (centre g i j k) n) (below g.columns)) (below g.rows)
