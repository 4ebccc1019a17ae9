-- The images of layers that are drawn into pages before they are written.
use Rattle.std.specs.Prelude.{ℕ, ◌≡◌, ◌≤◌, ◌*◌, ◌-◌, [], false, All, List, flat_map, length}
use Rattle.std.specs.List.{range_with_len}
use Rattle.raster.specs.Filler.{below}
use Rattle.raster.specs.Grid.{Grid}
use Rattle.raster.specs.Image.{image_of_pixels, images}
use Rattle.build_book.specs.Job.{Job}

-- the images of all layers, as raw PBM
abbrev pub images_of : Job → List ℕ
images_of job = images job.grid job.rule job.solid.facets

-- the images of the layers below a number, one after the other; `image` has that of each layer
abbrev pub all_images : (ℕ → List ℕ) → ℕ → List ℕ
all_images image layers = flat_map image (below layers)

-- the images of the layers from a number up to, but not including, another
abbrev pub images_between : (ℕ → List ℕ) → ℕ → ℕ → List ℕ
images_between image from to = flat_map image (range_with_len from (to - from))

-- the length of a raw PBM, which is the same for all pixels
unfoldable pub image_size : Grid → ℕ
image_size g = length (image_of_pixels g.columns g.rows (λ i j. false))

-- a page has room for the images of `per` layers, which take `size` bytes at most
abbrev pub Holds : {P : Type 0} → (P → ℕ) → ℕ → ℕ → P → Type 0
Holds capacity per size page = per * size ≤ capacity page

-- two sets of pages that fit what is drawn into them: those of the first set have no image
pub record ArePageSets {P : Type 0} (bytes : P → List ℕ) (fits : P → Type 0) (drawn free : List P) : Type 0 where
  pub blank : All (λ page. bytes page ≡ []) drawn
  pub drawn_fit : All fits drawn
  pub free_fit : All fits free
