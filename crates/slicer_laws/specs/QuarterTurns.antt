-- The laws of a part that is turned by quarters, counterclockwise from above: rays, voxels and areas turn along.
-- - `MissesEdges`: the line of the ray along x from c meets no edge of a facet
-- - `turned_grid`: a grid after a quarter turn
use Rattle.std.specs.Prelude.{◌≡◌, ◌↔◌, ℕ, ◌+◌, ◌*◌, ◌<◌, Bool, false, ◌&&◌, ◌||◌, List, All, pos, neg_ℤ, ◌+ℤ◌}
use Rattle.std.specs.Ordering.{int_eq}
use Rattle.geometry.specs.TieRule.{rises_through}
use Rattle.geometry.specs.Point.{Point}
use Rattle.geometry.specs.Facet.{Facet, twice}
use Rattle.geometry.specs.Winding.{left, ray, ray_y}
use Rattle.mesh_weld.specs.Balance.{IsBalanced}
use Rattle.mesh_weld.specs.Probing.{NoneTouches}
use Rattle.raster.specs.declared.rule.Rule.{Rule}
use Rattle.raster.specs.Grid.{Grid, centre, grid_with}
use Rattle.raster.specs.Filler.{area_of, is_filled}
use Rattle.part_on_screen.specs.Screen.{IsScreen, Screen}
use Rattle.part_on_screen.specs.Stands.{turned_part}
use Rattle.part_on_screen.specs.Stretched.{on_screen, part_on_screen}
use Rattle.part_on_screen.specs.Turned.{quarter_turned, turned}
use Rattle.part_on_screen.specs.declared.quarters.Quarters.{Quarters}
use Rattle.part_on_screen.specs.declared.quarters.Quarters.TheVariants.{One}

-- the edge from u to v passes the height of c, up or down, and there the line along x through c meets it
abbrev pub is_met : Point → Point → Point → Bool
is_met c u v = (rises_through u.z v.z c.z || rises_through v.z u.z c.z) && int_eq (left u v c.y c.z) (pos 0)

-- that line meets no edge of the facet
pub record MissesEdges (t : Facet) (c : Point) : Type 0 where
  pub first : is_met c t.a t.b ≡ false
  pub second : is_met c t.b t.c ≡ false
  pub third : is_met c t.c t.a ≡ false

-- A quarter turn takes a ray along x to one along y, with the same crossings if its line meets no edge. The mesh may be open.
abbrev pub RaysAlongXBecomeY : Type 0
RaysAlongXBecomeY = (facets : List Facet) (c : Point) → All (λ t. MissesEdges (twice t) c) facets
    → ray_y (turned_part One facets) (quarter_turned c) ≡ ray facets c

abbrev pub TurnedPartsAreClosed : Type 0
TurnedPartsAreClosed = (turn : Quarters) (facets : List Facet) → IsBalanced (turned_part turn facets) ↔ IsBalanced facets

-- the ray along x from the turned point crosses the turned part as that from the point crosses the part
abbrev pub RaysTurn : Type 0
RaysTurn = (turn : Quarters) (facets : List Facet) (c : Point) → IsBalanced facets → NoneTouches facets c
    → ray (turned_part turn facets) (turned turn c) ≡ ray facets c

abbrev pub RaysAlongYTurn : Type 0
RaysAlongYTurn = (turn : Quarters) (facets : List Facet) (c : Point) → IsBalanced facets → NoneTouches facets c
    → ray_y (turned_part turn facets) (turned turn c) ≡ ray_y facets c

-- so a ray on a screen, where the part stands turned and stretched, crosses it as that from the part's own point does
abbrev pub RaysStandOnScreens : Type 0
RaysStandOnScreens = (s : Screen) (facets : List Facet) (c : Point) → IsScreen s → IsBalanced facets → NoneTouches facets c
    → ray (part_on_screen s facets) (on_screen s c) ≡ ray facets c

-- rows become columns, the last row first, and columns become rows
abbrev pub turned_grid : Grid → Grid
turned_grid g =
    grid_with
    (record { x = neg_ℤ (g.origin.y +ℤ pos (g.pitch * g.rows)); y = g.origin.x; z = g.origin.z })
    g.pitch g.layer_height g.rows g.columns g.layers

-- row j from one end is column m from the other
abbrev pub VoxelsTurn : Type 0
VoxelsTurn = (g : Grid) (rule : Rule) (facets : List Facet) (i j m k : ℕ) → IsBalanced facets
    → NoneTouches facets (centre g i j k) → j + m + 1 ≡ g.rows
    → is_filled rule (turned_part One facets) (centre (turned_grid g) m i k) ≡ is_filled rule facets (centre g i j k)

-- no facet touches a centre of layer k
abbrev pub IsLayerFree : Grid → ℕ → List Facet → Type 0
IsLayerFree g k facets = (i j : ℕ) → i < g.columns → j < g.rows → NoneTouches facets (centre g i j k)

abbrev pub AreasTurn : Type 0
AreasTurn = (g : Grid) (rule : Rule) (facets : List Facet) (k : ℕ) → IsBalanced facets → IsLayerFree g k facets
    → area_of (turned_grid g) rule (turned_part One facets) k ≡ area_of g rule facets k
