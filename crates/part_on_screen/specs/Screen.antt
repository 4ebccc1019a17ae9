-- A printer's screen: its pixels, the turn of its parts, and by what x and y are multiplied so that pixels become squares.
-- - `IsScreenOf`: the screen with given pixels and a turn
-- - `IsNoScreen`: why there is no such screen
use Rattle.std.specs.Prelude.{◌≡◌, ◌≤◌, ◌<◌, ◌⊎◌, ℕ}
use Rattle.geometry.specs.Limits.{IsStep}
use Rattle.geometry.specs.declared.limits.TheConstants.{COLUMN_LIMIT, STEP_LIMIT}
use Rattle.part_on_screen.specs.Pitch.{IsMultiple, IsPitch, IsSide, IsTimes}
use Rattle.part_on_screen.specs.declared.pixel_side.PixelSide.{PixelSide}
use Rattle.part_on_screen.specs.declared.quarters.Quarters.{Quarters}
use Rattle.part_on_screen.specs.declared.screen_fault.ScreenFault.{ScreenFault}
use Rattle.part_on_screen.specs.declared.screen_fault.ScreenFault.TheVariants as fault

pub record Screen : Type 0 where
  pub columns : ℕ
  pub rows : ℕ
  -- the side of a pixel once x and y are multiplied
  pub pitch : ℕ
  pub times_x : ℕ
  pub times_y : ℕ
  pub turn : Quarters

-- a number of columns or rows
abbrev pub IsCount : ℕ → Type 0
IsCount n = (1 ≤ n) × (n ≤ COLUMN_LIMIT)

pub record IsScreen (s : Screen) : Type 0 where
  pub columns : IsCount s.columns
  pub rows : IsCount s.rows
  pub pitch : IsStep s.pitch
  pub times_x : 1 ≤ s.times_x
  pub times_y : 1 ≤ s.times_y

-- The screen with these pixels, for parts that are turned so. None is within its limits if `IsNoScreen` has a fault.
pub record IsScreenOf (columns rows : ℕ) (width depth : PixelSide) (turn : Quarters) (s : Screen) : Type 0 where
  pub columns_are : s.columns ≡ columns
  pub rows_are : s.rows ≡ rows
  pub width_is : IsSide width
  pub depth_is : IsSide depth
  pub pitch_is : IsPitch s.pitch width depth
  pub times_x_is : IsTimes s.pitch width s.times_x
  pub times_y_is : IsTimes s.pitch depth s.times_y
  pub turn_is : s.turn ≡ turn

-- the one fault of pixels that are no screen's
abbrev pub IsNoScreen : ℕ → ℕ → PixelSide → PixelSide → ScreenFault → Type 0
IsNoScreen columns rows width depth fault.NoPixels = (columns ≡ 0) ⊎ (rows ≡ 0)
IsNoScreen columns rows width depth (fault.TooManyPixels c r) =
    (c ≡ columns) × (r ≡ rows) × (1 ≤ columns) × (1 ≤ rows) × ((COLUMN_LIMIT < columns) ⊎ (COLUMN_LIMIT < rows))
IsNoScreen columns rows width depth fault.NoSide = IsCount columns × IsCount rows × (IsSide width × IsSide depth → ⊥)
IsNoScreen columns rows width depth fault.NoPitch =
    IsCount columns × IsCount rows × IsSide width × IsSide depth
    × ((pitch : ℕ) → 1 ≤ pitch → IsMultiple pitch width → IsMultiple pitch depth → STEP_LIMIT < pitch)
IsNoScreen columns rows width depth fault.NoFacets = ⊥
IsNoScreen columns rows width depth fault.OutOfRange = ⊥
IsNoScreen columns rows width depth (fault.DoesNotFit w d sw sd fits_turned) = ⊥
IsNoScreen columns rows width depth fault.ScreenOutOfRange = ⊥
IsNoScreen columns rows width depth (fault.TooHigh layers) = ⊥
