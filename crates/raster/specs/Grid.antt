-- The voxels of a grid: their counts, and their centres in half-micrometres.
-- - `IsGrid`: what every grid keeps: counts within their limits, and centres within the limit of centres
-- - `fitted_grid`: the grid that a mesh fits in
-- - `given_grid`: the grid with given parts, or why there is none
use Rattle.std.specs.Prelude.{◌≤◌, ◌≤ℤ◌, ℕ, ◌+◌, ◌*◌, ◌-◌, max, Bool, ◌&&◌, ◌||◌, Option, Some, None, Result, Ok, Err, ℤ, pos, ◌+ℤ◌, ◌-ℤ◌, ◌*ℤ◌, nat_abs, nat_lt, ◌==◌, int_lt, if◌then◌else◌, List}
use Rattle.std.specs.Int.{div_ceil}
use Rattle.raster.specs.declared.grid.GridFault.{GridFault}
use Rattle.raster.specs.declared.grid.GridFault.TheVariants.{EmptyMesh, TooLarge, NoCells, FarCentre}
use Rattle.geometry.specs.Point.{Point, IsMeshPoint}
use Rattle.geometry.specs.Facet.{Facet}
use Rattle.geometry.specs.BoundingBox.{Bounds, bounds}
use Rattle.geometry.specs.declared.limits.TheConstants.{CENTRE_LIMIT, COLUMN_LIMIT, LAYER_LIMIT}
use Rattle.geometry.specs.Limits.{IsStep}

-- a grid: its least corner, the sizes of a cell, and how many cells there are along x, y and z
pub record Grid : Type 0 where
  pub origin : Point
  pub pitch : ℕ
  pub layer_height : ℕ
  pub columns : ℕ
  pub rows : ℕ
  pub layers : ℕ

abbrev pub grid_with : Point → ℕ → ℕ → ℕ → ℕ → ℕ → Grid
grid_with origin pitch layer_height columns rows layers =
    record { origin = origin; pitch = pitch; layer_height = layer_height; columns = columns; rows = rows; layers = layers }

-- the middle of the n-th cell from a start, in half-micrometres
abbrev pub middle : ℤ → ℕ → ℕ → ℤ
middle start step n = (pos 2 *ℤ start) +ℤ pos (step * (2 * n + 1))

-- the centre of the voxel of column i, row j and layer k
abbrev pub centre : Grid → ℕ → ℕ → ℕ → Point
centre g i j k =
    record {
      x = middle g.origin.x g.pitch i;
      y = middle g.origin.y g.pitch j;
      z = middle g.origin.z g.layer_height k;
    }

-- the grid has the voxel of column i, row j and layer k
abbrev pub is_voxel : Grid → ℕ → ℕ → ℕ → Bool
is_voxel g i j k = nat_lt i g.columns && nat_lt j g.rows && nat_lt k g.layers

-- the height of layer k's plane
abbrev pub plane : Grid → ℕ → ℤ
plane g k = middle g.origin.z g.layer_height k

pub record IsGrid (g : Grid) : Type 0 where
  pub origin : IsMeshPoint g.origin
  pub pitch : IsStep g.pitch
  pub layer_height : IsStep g.layer_height
  pub columns_low : 1 ≤ g.columns
  pub columns_high : g.columns ≤ COLUMN_LIMIT
  pub rows_low : 1 ≤ g.rows
  pub rows_high : g.rows ≤ COLUMN_LIMIT
  pub layers_low : 1 ≤ g.layers
  pub layers_high : g.layers ≤ LAYER_LIMIT
  pub last_x : middle g.origin.x g.pitch (g.columns - 1) ≤ℤ pos CENTRE_LIMIT
  pub last_y : middle g.origin.y g.pitch (g.rows - 1) ≤ℤ pos CENTRE_LIMIT
  pub last_z : middle g.origin.z g.layer_height (g.layers - 1) ≤ℤ pos CENTRE_LIMIT

-- a stretch in steps, rounded up, and 1 at least
abbrev pub cell_count : ℤ → ℤ → ℕ → ℕ
cell_count low high step = max 1 (div_ceil (nat_abs (high -ℤ low)) step)

-- a count passes its limit
abbrev pub exceeds : ℕ → ℕ → ℕ → Bool
exceeds columns rows layers = nat_lt COLUMN_LIMIT columns || nat_lt COLUMN_LIMIT rows || nat_lt LAYER_LIMIT layers

-- the grid has too many columns, rows or layers
abbrev pub is_too_large : Grid → Bool
is_too_large g = exceeds g.columns g.rows g.layers

-- the fault that tells its counts
abbrev pub too_large : Grid → GridFault
too_large g = TooLarge g.columns g.rows g.layers

-- the grid, unless it is too large
abbrev pub within_limits : Grid → Result Grid GridFault
within_limits g = if is_too_large g then Err (too_large g) else Ok g

-- the grid of this pitch and layer height that fits a box
abbrev pub grid_of_box : Option Bounds → ℕ → ℕ → Result Grid GridFault
grid_of_box None pitch layer_height = Err EmptyMesh
grid_of_box (Some b) pitch layer_height =
    within_limits
    (record {
      origin = b.low;
      pitch = pitch;
      layer_height = layer_height;
      columns = cell_count b.low.x b.high.x pitch;
      rows = cell_count b.low.y b.high.y pitch;
      layers = cell_count b.low.z b.high.z layer_height;
    })

-- the grid of this pitch and layer height that fits a mesh, or why there is none
abbrev pub fitted_grid : List Facet → ℕ → ℕ → Result Grid GridFault
fitted_grid facets pitch layer_height = grid_of_box (bounds facets) pitch layer_height

-- a count is 0
abbrev pub has_no_cells : Grid → Bool
has_no_cells g = g.columns == 0 || g.rows == 0 || g.layers == 0

-- the centre of its last cell is beyond CENTRE_LIMIT in x, y or z
abbrev pub reaches_too_far : Grid → Bool
reaches_too_far g =
    let last : Point = centre g (g.columns - 1) (g.rows - 1) (g.layers - 1) in
    int_lt (pos CENTRE_LIMIT) last.x || int_lt (pos CENTRE_LIMIT) last.y || int_lt (pos CENTRE_LIMIT) last.z

-- the grid with given parts, or why there is none
abbrev pub given_grid : Grid → Result Grid GridFault
given_grid g =
    if has_no_cells g then Err NoCells
    else (if is_too_large g then Err (too_large g) else (if reaches_too_far g then Err FarCentre else Ok g))
