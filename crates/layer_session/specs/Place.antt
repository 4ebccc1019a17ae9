-- The place of a mesh: in a grid, or on a printer's screen.
-- - `placed`, `point_placed`: facets and a point there
-- - `IsInReach`: no coordinate is out of range there
-- - `IsNoSolidAt`: why facets are no solid there
-- - `IsGridAt`, `IsNoGridAt`: the grid of facets that are there, or why there is none
use Rattle.std.specs.Prelude.{◌≡◌, ◌⊎◌, ℕ, List, Ok, Err}
use Rattle.geometry.specs.Facet.{Facet}
use Rattle.geometry.specs.Limits.{IsStep}
use Rattle.geometry.specs.Point.{Point}
use Rattle.mesh_weld.specs.Balance.{IsLeastOpen}
use Rattle.mesh_weld.specs.declared.weld_fault.WeldFault.TheVariants as weld
use Rattle.part_on_screen.specs.Middle.{IsGridOfPart, IsNoGridOfPart, IsInReach as IsPartInReach}
use Rattle.part_on_screen.specs.Screen.{IsScreen}
use Rattle.part_on_screen.specs.Stretched.{on_screen, part_on_screen}
use Rattle.part_on_screen.specs.declared.screen_fault.ScreenFault.{ScreenFault}
use Rattle.part_on_screen.specs.declared.screen_fault.ScreenFault.TheVariants.{OutOfRange}
use Rattle.raster.specs.Grid.{Grid}
use Rattle.raster.specs.Placing.{placed_grid}
use Rattle.raster.specs.declared.grid.GridFault.{GridFault}
use Rattle.layer_session.specs.declared.place.Place.{Place}
use Rattle.layer_session.specs.declared.place.Place.TheVariants as place
use Rattle.layer_session.specs.declared.session_fault.SessionFault.{SessionFault}
use Rattle.layer_session.specs.declared.session_fault.SessionFault.TheVariants as fault

-- the pitch is a step; a screen has one that is
abbrev pub HasPitch : Place → Type 0
HasPitch (place.Grid pitch placing) = IsStep pitch
HasPitch (place.Screen s) = IsScreen s

-- by what x and y are multiplied
abbrev pub times_of : Place → ℕ × ℕ
times_of (place.Grid pitch placing) = (1, 1)
times_of (place.Screen s) = (s.times_x, s.times_y)

abbrev pub placed : Place → List Facet → List Facet
placed (place.Grid pitch placing) facets = facets
placed (place.Screen s) facets = part_on_screen s facets

abbrev pub point_placed : Place → Point → Point
point_placed (place.Grid pitch placing) p = p
point_placed (place.Screen s) p = on_screen s p

-- no coordinate is out of range there: in a grid they are as they were read
abbrev pub IsInReach : Place → List Facet → Type 0
IsInReach (place.Grid pitch placing) facets = Unit {0}
IsInReach (place.Screen s) facets = IsPartInReach (part_on_screen s facets)

-- why facets are no solid there: a coordinate is out of range; or else there is an open edge, by its points before they were placed
abbrev pub IsNoSolidAt : Place → List Facet → SessionFault → Type 0
IsNoSolidAt p facets f =
    ((f ≡ fault.Screen OutOfRange) × (IsInReach p facets → ⊥))
    ⊎ (IsInReach p facets
    × ((from : Point) × (to : Point) × (there : ℕ) × (back : ℕ) × (f ≡ fault.Weld (weld.Open from to there back))
    × IsLeastOpen (placed p facets) (point_placed p from) (point_placed p to) there back))

-- the grid of facets that are there, with a layer height
abbrev pub IsGridAt : Place → ℕ → List Facet → Grid → Type 0
IsGridAt (place.Grid pitch placing) layer facets g = placed_grid placing facets pitch layer ≡ Ok g
IsGridAt (place.Screen s) layer facets g = IsGridOfPart s facets layer g

-- why there is none
abbrev pub IsNoGridAt : Place → ℕ → List Facet → SessionFault → Type 0
IsNoGridAt (place.Grid pitch placing) layer facets f = (cause : GridFault) × (f ≡ fault.Grid cause) × (placed_grid placing facets pitch layer ≡ Err cause)
IsNoGridAt (place.Screen s) layer facets f = (cause : ScreenFault) × (f ≡ fault.Screen cause) × IsNoGridOfPart s facets layer cause
