-- What the calls of a session return, and when they return a fault.
use Rattle.std.specs.Prelude.{◌≡◌, ◌⊎◌, ◌<◌, ◌≤◌, ◌+◌, ◌-◌, ℕ, ℤ, List, Bool, Result, Ok, Err, flat_map, if◌then◌else◌, map}
use Rattle.std.specs.List.{range_with_len}
use Rattle.geometry.specs.Winding.{ray, ray_y}
use Rattle.raster.specs.Filler.{area_of, is_filled}
use Rattle.raster.specs.Grid.{Grid, centre, is_voxel}
use Rattle.raster.specs.Image.{layer_image}
use Rattle.raster.specs.declared.rule.Rule.{Rule}
use Rattle.layer_png.specs.Layer.{column_at, row_at}
use Rattle.layer_png.specs.Text.{layer_png}
use Rattle.layer_png.specs.declared.depth.Depth.{Depth}
use Rattle.layer_png.specs.declared.mirrors.Mirrors.{Mirrors}
use Rattle.build_book.specs.Job.{Job, stripe_count, stripe_length, stripe_start}
use Rattle.layer_session.specs.declared.session_fault.SessionFault.{SessionFault}
use Rattle.layer_session.specs.declared.session_fault.SessionFault.TheVariants as fault

-- the image of layer k of a job
abbrev pub image_of : Job → ℕ → List ℕ
image_of job k = layer_image job.grid job.rule job.solid.facets k

-- the images of the layers from a number up to, but not including, another
abbrev pub images_between : Job → ℕ → ℕ → List ℕ
images_between job from to = flat_map (image_of job) (range_with_len from (to - from))

-- the numbers of the filled pixels of so many layers by a rule, from layer `first` on
abbrev pub areas_of : Job → Rule → ℕ → ℕ → List ℕ
areas_of job rule first count = map (area_of job.grid rule job.solid.facets) (range_with_len first count)

-- the pixel of column x and row y of the PNG of layer k, from the left and from the top, is white: its voxel is filled
abbrev pub is_white_pixel : Job → ℕ → Mirrors → ℕ → ℕ → Bool
is_white_pixel job k mirrors x y =
    is_filled job.rule job.solid.facets
    (centre job.grid (column_at mirrors job.grid.columns x) (row_at mirrors job.grid.rows y) k)

-- the PNG of layer k of a job
abbrev pub png_of_layer : Job → ℕ → Depth → Mirrors → List ℕ
png_of_layer job k depth mirrors = layer_png job.grid job.rule job.solid.facets depth mirrors k

-- the images of the layers of stripe s, from the lowest up
abbrev pub stripe_images : Job → ℕ → List ℕ
stripe_images job s = flat_map (image_of job) (range_with_len (stripe_start s) (stripe_length job.grid s))

abbrev pub outside : Grid → SessionFault
outside g = fault.Outside g.columns g.rows g.layers

-- the rays along x and y from the centre of a voxel
abbrev pub probed : Job → ℕ → ℕ → ℕ → Result (ℤ × ℤ) SessionFault
probed job i j k =
    if is_voxel job.grid i j k
    then Ok (ray job.solid.facets (centre job.grid i j k), ray_y job.solid.facets (centre job.grid i j k))
    else Err (outside job.grid)

-- there is no memory for what has this index, or the grid has not so many
abbrev pub IsIndexFault : Grid → ℕ → ℕ → SessionFault → Type 0
IsIndexFault g count index f = ((f ≡ fault.Memory) × (index < count)) ⊎ ((f ≡ outside g) × (count ≤ index))

-- no memory for layer k, or no such layer in the grid
abbrev pub IsLayerFault : Grid → ℕ → SessionFault → Type 0
IsLayerFault g k f = IsIndexFault g g.layers k f

-- no memory for the areas of so many layers from layer `first` on, or the grid has not all of them
abbrev pub IsRangeFault : Grid → ℕ → ℕ → SessionFault → Type 0
IsRangeFault g first count f =
    ((f ≡ fault.Memory) × (first + count ≤ g.layers)) ⊎ ((f ≡ outside g) × (g.layers < first + count))

-- no memory for stripe s, or no such stripe in the grid
abbrev pub IsStripeFault : Grid → ℕ → SessionFault → Type 0
IsStripeFault g s f = IsIndexFault g (stripe_count g) s f
