-- What the numbers stand for with which C opens a file or arrays, and asks for a PNG or for areas.
use Rattle.std.specs.Prelude.{◌≡◌, ◌⊎◌, ℕ, true, false, Option, Some, None, if◌then◌else◌, nat_eq}
use Rattle.geometry.specs.Point.{IsMeshPoint}
use Rattle.micro_num.specs.declared.unit.Unit.{Unit as LengthUnit}
use Rattle.micro_num.specs.declared.unit.Unit.TheVariants as unit
use Rattle.raster.specs.declared.rule.Rule.{Rule}
use Rattle.raster.specs.declared.rule.Rule.TheVariants as rule
use Rattle.raster.specs.declared.placing.Placing.{Placing}
use Rattle.raster.specs.declared.placing.Placing.TheVariants as placing
use Rattle.layer_png.specs.declared.depth.Depth.{Depth}
use Rattle.layer_png.specs.declared.depth.Depth.TheVariants as depth
use Rattle.layer_png.specs.declared.mirrors.Mirrors.{Mirrors}
use Rattle.layer_session.specs.declared.place.Place.{Place}
use Rattle.layer_session.specs.declared.place.Place.TheVariants as place
use Rattle.layer_session.specs.declared.setup.Setup.{Setup}
use Rattle.part_on_screen.specs.Screen.{IsNoScreen, IsScreen, IsScreenOf, Screen}
use Rattle.part_on_screen.specs.Turned.{quarters}
use Rattle.part_on_screen.specs.declared.pixel_side.PixelSide.{PixelSide}
use Rattle.part_on_screen.specs.declared.quarters.Quarters.{Quarters}
use Rattle.part_on_screen.specs.declared.screen_fault.ScreenFault.{ScreenFault}
use Rattle.stlslice_c.specs.declared.options.NoSetup.{NoSetup}
use Rattle.stlslice_c.specs.declared.options.NoSetup.TheVariants as none
use Rattle.stlslice_c.specs.declared.options.Options.{Options}
use Rattle.stlslice_c.specs.declared.options.Side.{Side}

abbrev pub unit_numbered : ℕ → Option LengthUnit
unit_numbered n =
    if nat_eq n 0 then Some unit.Millimetre
    else if nat_eq n 1 then Some unit.Inch
    else if nat_eq n 2 then Some unit.Centimetre
    else if nat_eq n 3 then Some unit.Metre else None

abbrev pub rule_numbered : ℕ → Option Rule
rule_numbered n =
    if nat_eq n 0 then Some rule.EvenOdd
    else if nat_eq n 1 then Some rule.NonZero
    else if nat_eq n 2 then Some rule.Positive else None

-- a number of bits
abbrev pub depth_numbered : ℕ → Option Depth
depth_numbered n = if nat_eq n 1 then Some depth.One else if nat_eq n 8 then Some depth.Eight else None

-- 1 mirrors x, 2 mirrors y, and 3 both
abbrev pub mirrors_numbered : ℕ → Option Mirrors
mirrors_numbered n =
    if nat_eq n 0 then Some (record { x = false; y = false })
    else if nat_eq n 1 then Some (record { x = true; y = false })
    else if nat_eq n 2 then Some (record { x = false; y = true })
    else if nat_eq n 3 then Some (record { x = true; y = true }) else None

-- 0 is a fitted grid, 1 a given one, whose origin is in the range of coordinates
abbrev pub IsPlaced : Options → Placing → Type 0
IsPlaced o placing.Fitted = o.placing ≡ 0
IsPlaced o (placing.Given columns rows layers origin) =
    (o.placing ≡ 1) × (columns ≡ o.cells.columns) × (rows ≡ o.cells.rows) × (layers ≡ o.cells.layers)
    × (origin ≡ record { x = o.cells.origin_x; y = o.cells.origin_y; z = o.cells.origin_z }) × IsMeshPoint origin

abbrev pub side_of : Side → PixelSide
side_of side = record { numerator = side.numerator; denominator = side.denominator }

-- the screen with the pixels of the options, and with parts turned by as many quarters
abbrev pub IsScreenAsked : Options → Screen → Type 0
IsScreenAsked o s = (turn : Quarters) × (quarters turn ≡ o.turn)
    × IsScreenOf o.cells.columns o.cells.rows (side_of o.width) (side_of o.depth) turn s × IsScreen s

-- no turn has this number; or one has it, and there is no screen with these pixels
abbrev pub IsNoScreenAsked : Options → NoSetup → Type 0
IsNoScreenAsked o none.Number = (turn : Quarters) → quarters turn ≡ o.turn → ⊥
IsNoScreenAsked o (none.Screen cause) = (turn : Quarters) × (quarters turn ≡ o.turn)
    × IsNoScreen o.cells.columns o.cells.rows (side_of o.width) (side_of o.depth) cause

-- the place of the mesh: 2 is a screen, which has a pitch of its own
abbrev pub IsPlace : Options → Place → Type 0
IsPlace o (place.Grid pitch placing) = (pitch ≡ o.pitch) × IsPlaced o placing
IsPlace o (place.Screen s) = (o.placing ≡ 2) × IsScreenAsked o s

-- no grid has these numbers, and if it is a screen, no turn has its number; or the cause is of the screen's pixels alone
abbrev pub IsNoPlace : Options → NoSetup → Type 0
IsNoPlace o none.Number = ((placing : Placing) → IsPlaced o placing → ⊥) × (o.placing ≡ 2 → IsNoScreenAsked o none.Number)
IsNoPlace o (none.Screen cause) = (o.placing ≡ 2) × IsNoScreenAsked o (none.Screen cause)

-- the setup that the options stand for
pub record IsSetup (o : Options) (s : Setup) : Type 0 where
  pub unit : unit_numbered o.unit ≡ Some s.unit
  pub layer : s.layer ≡ o.layer
  pub rule : rule_numbered o.rule ≡ Some s.rule
  pub place : IsPlace o s.place

-- the fault of the screen in options whose unit and rule stand for something
pub record IsScreenRefused (o : Options) (cause : ScreenFault) : Type 0 where
  pub unit : LengthUnit
  pub rule : Rule
  pub unit_is : unit_numbered o.unit ≡ Some unit
  pub rule_is : rule_numbered o.rule ≡ Some rule
  pub place : IsNoPlace o (none.Screen cause)

-- Why options stand for no setup, which has one reason: a number stands for nothing; or all do for something, and there is no
-- screen with these pixels.
abbrev pub IsNoSetup : Options → NoSetup → Type 0
IsNoSetup o none.Number = (unit_numbered o.unit ≡ None) ⊎ (rule_numbered o.rule ≡ None) ⊎ IsNoPlace o none.Number
IsNoSetup o (none.Screen cause) = IsScreenRefused o cause
