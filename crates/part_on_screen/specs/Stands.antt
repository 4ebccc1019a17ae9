-- How parts stand on a screen.
-- - `PartsAreOnScreen`: the part lies between the sides of its grid
-- - `PartsHaveOneOutcome`: facets on a screen have a grid or a fault, and just one
-- - `PointsStayApart`: different points of a part are different on the screen, so edges meet there exactly if they met before
-- - `RaysStretch`, `RaysAlongYStretch`: stretching keeps the crossings of each ray, if its start is stretched too
-- - `ray_at`: the ray from a point that need not be whole
-- - `RaysFromWholePoints`, `RaysFromEqualPoints`: it is that of a whole point, and the same for equal fractions
-- - `PixelsHaveTrueCentres`: the ray of a pixel on a screen is that of the turned part from the pixel's true centre
use Rattle.std.specs.Prelude.{◌≡◌, ◌⊎◌, ◌≤◌, ◌≤ℤ◌, ◌+ℤ◌, ◌*ℤ◌, pos, ℕ, ℤ, List, map}
use Rattle.geometry.specs.BoundingBox.{IsBox}
use Rattle.geometry.specs.Facet.{Facet, facet_with}
use Rattle.geometry.specs.Limits.{IsStep}
use Rattle.geometry.specs.Point.{Point}
use Rattle.geometry.specs.Winding.{ray, ray_y}
use Rattle.raster.specs.Grid.{Grid, centre}
use Rattle.part_on_screen.specs.Middle.{IsGridOfPart, IsGridOn, IsNoGridOfPart, screen_depth, screen_width}
use Rattle.part_on_screen.specs.Screen.{IsScreen, Screen}
use Rattle.part_on_screen.specs.Stretched.{on_screen, part_on_screen, stretched}
use Rattle.part_on_screen.specs.Turned.{turned}
use Rattle.part_on_screen.specs.declared.quarters.Quarters.{Quarters}
use Rattle.part_on_screen.specs.declared.screen_fault.ScreenFault.{ScreenFault}

-- the box of the part is between the least and the greatest x and y of the grid
pub record IsBetweenSides (s : Screen) (low high : Point) (g : Grid) : Type 0 where
  pub left : g.origin.x ≤ℤ low.x
  pub right : high.x ≤ℤ (g.origin.x +ℤ pos (screen_width s))
  pub front : g.origin.y ≤ℤ low.y
  pub back : high.y ≤ℤ (g.origin.y +ℤ pos (screen_depth s))

abbrev pub PartsAreOnScreen : Type 0
PartsAreOnScreen = (s : Screen) (low high : Point) (layer_height : ℕ) (g : Grid) → IsBox low high → IsGridOn s low high layer_height g
    → IsBetweenSides s low high g

-- facets on a screen have a grid or a fault, and not two of them
pub record HasOneOutcome (s : Screen) (facets : List Facet) (layer_height : ℕ) : Type 0 where
  pub some : ((g : Grid) × IsGridOfPart s facets layer_height g) ⊎ ((f : ScreenFault) × IsNoGridOfPart s facets layer_height f)
  pub one_grid : (g h : Grid) → IsGridOfPart s facets layer_height g → IsGridOfPart s facets layer_height h → g ≡ h
  pub one_fault : (e f : ScreenFault) → IsNoGridOfPart s facets layer_height e → IsNoGridOfPart s facets layer_height f → e ≡ f
  pub not_both : (g : Grid) (f : ScreenFault) → IsGridOfPart s facets layer_height g → IsNoGridOfPart s facets layer_height f → ⊥

abbrev pub PartsHaveOneOutcome : Type 0
PartsHaveOneOutcome = (s : Screen) (facets : List Facet) (layer_height : ℕ) → IsStep layer_height → HasOneOutcome s facets layer_height

abbrev pub PointsStayApart : Type 0
PointsStayApart = (s : Screen) (p q : Point) → IsScreen s → on_screen s p ≡ on_screen s q → p ≡ q

-- a facet and a part that are turned, and not stretched
abbrev pub turned_facet : Quarters → Facet → Facet
turned_facet turn t = facet_with (turned turn t.a) (turned turn t.b) (turned turn t.c)

abbrev pub turned_part : Quarters → List Facet → List Facet
turned_part turn facets = map (turned_facet turn) facets

abbrev pub RaysStretch : Type 0
RaysStretch = (s : Screen) (facets : List Facet) (c : Point) → IsScreen s
    → ray (part_on_screen s facets) (stretched s.times_x s.times_y c) ≡ ray (turned_part s.turn facets) c

abbrev pub RaysAlongYStretch : Type 0
RaysAlongYStretch = (s : Screen) (facets : List Facet) (c : Point) → IsScreen s
    → ray_y (part_on_screen s facets) (stretched s.times_x s.times_y c) ≡ ray_y (turned_part s.turn facets) c

-- facets with x and y multiplied
abbrev pub stretched_part : ℕ → ℕ → List Facet → List Facet
stretched_part m n facets = map (λ t. facet_with (stretched m n t.a) (stretched m n t.b) (stretched m n t.c)) facets

-- The ray along x from the point (x / m, y / n, z), in half-micrometres: that of the facets with x and y multiplied by m and n. So
-- nothing is rounded.
abbrev pub ray_at : List Facet → ℤ → ℕ → ℤ → ℕ → ℤ → ℤ
ray_at facets x m y n z = ray (stretched_part m n facets) (record { x = x; y = y; z = z })

abbrev pub RaysFromWholePoints : Type 0
RaysFromWholePoints = (facets : List Facet) (x y z : ℤ) (m n : ℕ) → 1 ≤ m → 1 ≤ n
    → ray_at facets (x *ℤ pos m) m (y *ℤ pos n) n z ≡ ray facets (record { x = x; y = y; z = z })

-- x / m = p / k, and y / n = q / l
abbrev pub RaysFromEqualPoints : Type 0
RaysFromEqualPoints = (facets : List Facet) (x y z p q : ℤ) (m n k l : ℕ) → 1 ≤ m → 1 ≤ n → 1 ≤ k → 1 ≤ l
    → x *ℤ pos k ≡ p *ℤ pos m → y *ℤ pos l ≡ q *ℤ pos n → ray_at facets x m y n z ≡ ray_at facets p k q l z

-- the true centre of a pixel is the grid's, with x and y divided by what they were multiplied by
abbrev pub PixelsHaveTrueCentres : Type 0
PixelsHaveTrueCentres = (s : Screen) (facets : List Facet) (g : Grid) (i j k : ℕ)
    → ray (part_on_screen s facets) (centre g i j k)
    ≡ ray_at (turned_part s.turn facets) (centre g i j k).x s.times_x (centre g i j k).y s.times_y (centre g i j k).z
