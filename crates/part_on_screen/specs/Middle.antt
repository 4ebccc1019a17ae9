-- How a part stands on a screen, by the bounding box of its facets there: in the middle, its lowest point on the first layer.
-- - `IsGridOn`: the grid of the part
-- - `IsNoGrid`: why there is none
-- - `IsInReach`: facets with corners in range
-- - `IsGridOfPart`, `IsNoGridOfPart`: the grid of facets, or why there is none
use Rattle.std.specs.Prelude.{◌≡◌, ◌≤◌, ◌<◌, ◌≤ℤ◌, ◌<ℤ◌, ◌+ℤ◌, ◌-ℤ◌, ◌*ℤ◌, ◌*◌, ◌/◌, ◌↔◌, ◌⊎◌, All, IsTrue, List, Some, length, nat_abs, pos, ℕ, ℤ}
use Rattle.exact_int.specs.Bounds.{IsAtMost}
use Rattle.geometry.specs.BoundingBox.{Bounds, bounds}
use Rattle.geometry.specs.Facet.{Facet}
use Rattle.geometry.specs.Point.{Point, IsMeshPoint}
use Rattle.geometry.specs.declared.limits.TheConstants.{COORDINATE_LIMIT, LAYER_LIMIT}
use Rattle.raster.specs.Grid.{Grid, middle}
use Rattle.part_on_screen.specs.Screen.{Screen}
use Rattle.part_on_screen.specs.declared.screen_fault.ScreenFault.{ScreenFault}
use Rattle.part_on_screen.specs.declared.screen_fault.ScreenFault.TheVariants as fault
use Rattle.part_on_screen.specs.declared.screen_fault.ScreenFault.TheVariants.{NoFacets, OutOfRange}

-- the sides of a screen, once x and y are multiplied
abbrev pub screen_width : Screen → ℕ
screen_width s = s.columns * s.pitch

abbrev pub screen_depth : Screen → ℕ
screen_depth s = s.rows * s.pitch

-- the length of a range
abbrev pub extent : ℤ → ℤ → ℕ
extent low high = nat_abs (high -ℤ low)

-- the box is no wider and no deeper than the screen
pub record Fits (s : Screen) (low high : Point) : Type 0 where
  pub along_x : extent low.x high.x ≤ screen_width s
  pub along_y : extent low.y high.y ≤ screen_depth s

-- The middle of `length` from `start` on is that of the range from `low` to `high`, or half a unit below it. Both sides are
-- twice a middle.
pub record IsInMiddle (low high : ℤ) (length : ℕ) (start : ℤ) : Type 0 where
  pub not_above : (pos 2 *ℤ start +ℤ pos length) ≤ℤ (low +ℤ high)
  pub near : (low +ℤ high) ≤ℤ (pos 2 *ℤ start +ℤ pos length +ℤ pos 1)

-- both ends of `length` from `start` on are in the range of coordinates
pub record IsInRange (length : ℕ) (start : ℤ) : Type 0 where
  pub first : IsAtMost COORDINATE_LIMIT start
  pub last : IsAtMost COORDINATE_LIMIT (start +ℤ pos length)

-- wherever they are, the corners of the screen are in the range of coordinates
pub record ScreenIsInRange (s : Screen) (low high : Point) : Type 0 where
  pub along_x : (start : ℤ) → IsInMiddle low.x high.x (screen_width s) start → IsInRange (screen_width s) start
  pub along_y : (start : ℤ) → IsInMiddle low.y high.y (screen_depth s) start → IsInRange (screen_depth s) start

-- As many layers as have their middle below the top, and at least one. Nothing is cut at the top itself. Heights are in
-- half-micrometres, as middles are.
pub record IsLayerCount (low high : ℤ) (layer_height layers : ℕ) : Type 0 where
  pub some : 1 ≤ layers
  pub below_top : (k : ℕ) → 1 ≤ k → k < layers → middle low layer_height k <ℤ (pos 2 *ℤ high)
  pub no_more : (pos 2 *ℤ high) ≤ℤ middle low layer_height layers

-- the grid of a part on a screen, by the box of its facets there
pub record IsGridOn (s : Screen) (low high : Point) (layer_height : ℕ) (g : Grid) : Type 0 where
  pub columns : g.columns ≡ s.columns
  pub rows : g.rows ≡ s.rows
  pub pitch : g.pitch ≡ s.pitch
  pub layer_height_is : g.layer_height ≡ layer_height
  pub fits : Fits s low high
  pub middle_x : IsInMiddle low.x high.x (screen_width s) g.origin.x
  pub middle_y : IsInMiddle low.y high.y (screen_depth s) g.origin.y
  pub range_x : IsInRange (screen_width s) g.origin.x
  pub range_y : IsInRange (screen_depth s) g.origin.y
  pub first_layer : g.origin.z ≡ low.z
  pub layers : IsLayerCount low.z high.z layer_height g.layers
  pub few_layers : g.layers ≤ LAYER_LIMIT

-- The sizes of a box and of the screen in micrometres, not multiplied. The sides of a box of a part are whole multiples.
pub record AreSizes (s : Screen) (low high : Point) (width depth width_of_screen depth_of_screen : ℕ) : Type 0 where
  pub width_is : width ≡ extent low.x high.x / s.times_x
  pub depth_is : depth ≡ extent low.y high.y / s.times_y
  pub screen_width_is : width_of_screen ≡ screen_width s / s.times_x
  pub screen_depth_is : depth_of_screen ≡ screen_depth s / s.times_y

-- the one fault of a box that has no grid on the screen
abbrev pub IsNoGrid : Screen → Point → Point → ℕ → ScreenFault → Type 0
IsNoGrid s low high layer_height (fault.DoesNotFit width depth width_of_screen depth_of_screen fits_turned) =
    (Fits s low high → ⊥)
    × AreSizes s low high width depth width_of_screen depth_of_screen
    × (IsTrue fits_turned ↔ ((depth ≤ width_of_screen) × (width ≤ depth_of_screen)))
IsNoGrid s low high layer_height fault.ScreenOutOfRange = Fits s low high × (ScreenIsInRange s low high → ⊥)
IsNoGrid s low high layer_height (fault.TooHigh layers) =
    Fits s low high × ScreenIsInRange s low high × IsLayerCount low.z high.z layer_height layers × (LAYER_LIMIT < layers)
IsNoGrid s low high layer_height fault.NoPixels = ⊥
IsNoGrid s low high layer_height (fault.TooManyPixels columns rows) = ⊥
IsNoGrid s low high layer_height fault.NoSide = ⊥
IsNoGrid s low high layer_height fault.NoPitch = ⊥
IsNoGrid s low high layer_height fault.NoFacets = ⊥
IsNoGrid s low high layer_height fault.OutOfRange = ⊥

-- the corners of a facet are in the range of coordinates
abbrev pub HasMeshPoints : Facet → Type 0
HasMeshPoints t = IsMeshPoint t.a × IsMeshPoint t.b × IsMeshPoint t.c

-- those of all facets are
abbrev pub IsInReach : List Facet → Type 0
IsInReach facets = All HasMeshPoints facets

-- the grid of a part by its facets, which stand on the screen
abbrev pub IsGridOfPart : Screen → List Facet → ℕ → Grid → Type 0
IsGridOfPart s placed layer_height g = (b : Bounds) × (bounds placed ≡ Some b) × IsGridOn s b.low b.high layer_height g

-- why there is none: there are no facets, or their box has no grid
abbrev pub IsNoGridOfPart : Screen → List Facet → ℕ → ScreenFault → Type 0
IsNoGridOfPart s placed layer_height fault =
    ((fault ≡ NoFacets) × (length placed ≡ 0))
    ⊎ ((b : Bounds) × (bounds placed ≡ Some b) × IsNoGrid s b.low b.high layer_height fault)
