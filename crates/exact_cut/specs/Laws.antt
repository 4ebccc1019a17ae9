-- What holds of every facet: the laws that the crate's functions depend on.
use Rattle.std.specs.Prelude.{◌≡◌, ℕ, zero, suc, ◌<◌, ◌≤◌, ◌⊎◌, ◌↔◌, ℤ, pos, negsuc, ◌+ℤ◌, ◌-ℤ◌, ◌*ℤ◌, neg_ℤ, ◌<ℤ◌}
use Rattle.geometry.specs.Point.{Point}
use Rattle.geometry.specs.Facet.{Facet}
use Rattle.geometry.specs.Winding.{turn, turn_x, normal_x, normal_y, normal_z, wind, volume, hit, hit_y}
use Rattle.exact_cut.specs.Crossing.{Winding, Crosses}
use Rattle.exact_cut.specs.Column.{centre_x, IsLeastColumn}
use Rattle.exact_cut.specs.Lattice.{IsUncrossed, pixel}
use Rattle.exact_cut.specs.PlanePoint.{IsNearest, nearest}
use Rattle.exact_cut.specs.Walk.{IsWalkOf, Walk, walk_hit}
use Rattle.exact_cut.specs.declared.dda.lattice.Lattice.{Lattice}
use Rattle.geometry.specs.Touch.{Touches, Between}

-- the point (num / den, y, z) lies in the facet's plane
pub record Meets (t : Facet) (num den y z : ℤ) : Type 0 where
  pub in_plane : normal_x t *ℤ (num -ℤ t.a.x *ℤ den) +ℤ normal_y t *ℤ ((y -ℤ t.a.y) *ℤ den) +ℤ normal_z t *ℤ ((z -ℤ t.a.z) *ℤ den) ≡ pos 0

-- the first number if the second is not 0, else 0
abbrev pub where_not_zero : ℤ → ℤ → ℤ
where_not_zero a (pos zero) = pos 0
where_not_zero a (pos (suc n)) = a
where_not_zero a (negsuc n) = a

-- what an edge adds to the difference of the rays along x and y from p
abbrev pub corner_turn : Point → Point → Point → ℤ
corner_turn p u v = where_not_zero (turn u v p.y p.z) (turn_x u v p.x p.z)

-- an edge taken the other way turns the other way
abbrev pub TurnsAreOpposite : Type 0
TurnsAreOpposite = (u v : Point) (y z : ℤ) → turn v u y z ≡ neg_ℤ (turn u v y z)

-- a winding is 0, or it is 1 or -1 and has the sign of the normal's x part
abbrev pub WindsAreUnits : Type 0
WindsAreUnits = (t : Facet) (y z : ℤ) → (wind t y z ≡ pos 0) ⊎ Winding t (wind t y z)

-- if the winding is not 0, the line along x through (y, z) meets the facet's plane
abbrev pub CrossedLinesMeet : Type 0
CrossedLinesMeet = (t : Facet) (y z : ℤ) → Winding t (wind t y z) → (num den : ℤ) × (pos 0 <ℤ den) × Meets t num den y z

-- if the winding is not 0, the facet's plane meets the line along x ahead of x exactly if wind * volume is above 0
abbrev pub AheadIsAbove : Type 0
AheadIsAbove = (t : Facet) (num den x y z : ℤ) → Winding t (wind t y z) → pos 0 <ℤ den → Meets t num den y z
    → ((x *ℤ den) <ℤ num) ↔ (pos 0 <ℤ (wind t y z *ℤ volume t (record { x = x; y = y; z = z })))

-- the rays along x and y differ by an amount of edges that is opposite at opposite edges
abbrev pub RaysDifferByEdges : Type 0
RaysDifferByEdges = (t : Facet) (c : Point) → (Touches t c → ⊥) → hit t c -ℤ hit_y t c ≡ corner_turn c t.a t.b +ℤ corner_turn c t.b t.c +ℤ corner_turn c t.c t.a

abbrev pub CornerTurnsAreOpposite : Type 0
CornerTurnsAreOpposite = (c u v : Point) → corner_turn c v u ≡ neg_ℤ (corner_turn c u v)

-- a step along x, or along y, that passes no point of the facet keeps its hit of that ray
abbrev pub StepsAlongXKeepHits : Type 0
StepsAlongXKeepHits =
    (t : Facet) (x1 x2 y z : ℤ) → (Between t (record { x = x1; y = y; z = z }) (record { x = x2; y = y; z = z }) → ⊥)
    → hit t (record { x = x1; y = y; z = z }) ≡ hit t (record { x = x2; y = y; z = z })

abbrev pub StepsAlongYKeepHits : Type 0
StepsAlongYKeepHits =
    (t : Facet) (x y1 y2 z : ℤ) → (Between t (record { x = x; y = y1; z = z }) (record { x = x; y = y2; z = z }) → ⊥)
    → hit_y t (record { x = x; y = y1; z = z }) ≡ hit_y t (record { x = x; y = y2; z = z })

-- in a row of centres, the rays from those before a crossing's least column hit with the crossing's sign, and no others hit
abbrev pub CrossingsSplitRows : Type 0
CrossingsSplitRows =
    (t : Facet) (y z sign num den first : ℤ) (step columns column : ℕ) → Crosses t y z sign num den → IsLeastColumn num den first step columns column
    → ((i : ℕ) → i < column → hit t (record { x = centre_x first step i; y = y; z = z }) ≡ sign)
    × ((i : ℕ) → column ≤ i → i < columns → hit t (record { x = centre_x first step i; y = y; z = z }) ≡ pos 0)

-- a walk gives the hits of all rays from the lattice's pixels
abbrev pub WalksTellHits : Type 0
WalksTellHits =
    (t : Facet) (z : ℤ) (l : Lattice) (w : Walk) → IsWalkOf t z l w → (i j : ℕ) → i < l.columns → j < l.rows → hit t (pixel l z i j) ≡ walk_hit w i j

-- if no row is crossed, no ray hits
abbrev pub UncrossedRowsHaveNoHits : Type 0
UncrossedRowsHaveNoHits =
    (t : Facet) (z : ℤ) (l : Lattice) → IsUncrossed t z l → (i j : ℕ) → j < l.rows → hit t (pixel l z i j) ≡ pos 0

-- rounding gives the nearest whole number, and the greater of two that are equally near
abbrev pub NearestIsNear : Type 0
NearestIsNear = (num den n : ℤ) → pos 0 <ℤ den → IsNearest num den n ↔ (n ≡ nearest num den)
