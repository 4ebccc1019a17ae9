-- The signed crossings of a mesh by a ray. The fill rules (nonzero, even-odd, positive) judge the count for the ray from a
-- centre, as PostScript and SVG judge winding numbers. The tie rule (`TieRule`) says on which side of a ray a corner at the
-- ray's height counts. All coordinates are in half-micrometres, except those of a mesh.
-- - `left u v y z`: orient2d, twice the signed area of the triangle u, v, (y, z), seen along x
-- - `turn u v y z`: 1 if the edge rises through height z with (y, z) on its left, -1 if it falls through it with (y, z) on its
--   right, else 0
-- - `wind t y z`: the sum of turn over the three half-edges, which is how the line along x through (y, z) crosses the facet
-- - `volume t c`: orient3d, six times the signed volume of the tetrahedron of the facet and c
-- - `hit t c`: wind if the line crosses the facet ahead of c, else 0
-- - `ray facets c`: the signed crossings of the ray from c, which is the sum of hit over the facets of a mesh, in micrometres
--
-- The same along y: left_x, turn_x, wind_y, hit_y, ray_y.
use Rattle.std.specs.Prelude.{List, [], ◌∷◌, ◌&&◌, ℤ, pos, negsuc, ◌+ℤ◌, ◌-ℤ◌, ◌*ℤ◌, neg_ℤ, int_lt, if◌then◌else◌}
use Rattle.geometry.specs.TieRule.{rises_through}
use Rattle.geometry.specs.Point.{Point}
use Rattle.geometry.specs.Facet.{Facet, twice}

-- orient2d: the cross product of the edge from u to v and the vector from u to the point (y, z), seen along x
abbrev pub left : Point → Point → ℤ → ℤ → ℤ
left u v y z = (v.y -ℤ u.y) *ℤ (z -ℤ u.z) -ℤ (y -ℤ u.y) *ℤ (v.z -ℤ u.z)

-- The turn of an edge from height u to height v at height z, with l as `left`. It is 1 if the edge passes z upward and l is
-- above 0, -1 if it passes z downward and l is below 0, else 0.
unfoldable pub turn_of : ℤ → ℤ → ℤ → ℤ → ℤ
turn_of u v z l =
    if rises_through u v z && int_lt (pos 0) l then pos 1
    else (if rises_through v u z && int_lt l (pos 0) then negsuc 0 else pos 0)

abbrev pub turn : Point → Point → ℤ → ℤ → ℤ
turn u v y z = turn_of u.z v.z z (left u v y z)

-- the sum of turn over the three half-edges
unfoldable pub wind : Facet → ℤ → ℤ → ℤ
wind t y z = turn t.a t.b y z +ℤ turn t.b t.c y z +ℤ turn t.c t.a y z

-- the determinant of three rows
abbrev pub determinant : ℤ → ℤ → ℤ → ℤ → ℤ → ℤ → ℤ → ℤ → ℤ → ℤ
determinant a b c d e f g h i = a *ℤ (e *ℤ i -ℤ f *ℤ h) -ℤ b *ℤ (d *ℤ i -ℤ f *ℤ g) +ℤ c *ℤ (d *ℤ h -ℤ e *ℤ g)

-- orient3d: the determinant of the corners as seen from p
abbrev pub volume : Facet → Point → ℤ
volume t p = determinant (t.a.x -ℤ p.x) (t.a.y -ℤ p.y) (t.a.z -ℤ p.z) (t.b.x -ℤ p.x) (t.b.y -ℤ p.y) (t.b.z -ℤ p.z) (t.c.x -ℤ p.x) (t.c.y -ℤ p.y) (t.c.z -ℤ p.z)

-- the signed crossing of the facet by the ray from p along x
unfoldable pub hit : Facet → Point → ℤ
hit t p = if int_lt (pos 0) (wind t p.y p.z *ℤ volume t p) then wind t p.y p.z else pos 0

-- the x part of (b - a) × (c - a)
abbrev pub normal_x : Facet → ℤ
normal_x t = (t.b.y -ℤ t.a.y) *ℤ (t.c.z -ℤ t.a.z) -ℤ (t.b.z -ℤ t.a.z) *ℤ (t.c.y -ℤ t.a.y)

-- the y part of (b - a) × (c - a)
abbrev pub normal_y : Facet → ℤ
normal_y t = (t.b.z -ℤ t.a.z) *ℤ (t.c.x -ℤ t.a.x) -ℤ (t.b.x -ℤ t.a.x) *ℤ (t.c.z -ℤ t.a.z)

-- the z part of (b - a) × (c - a)
abbrev pub normal_z : Facet → ℤ
normal_z t = (t.b.x -ℤ t.a.x) *ℤ (t.c.y -ℤ t.a.y) -ℤ (t.b.y -ℤ t.a.y) *ℤ (t.c.x -ℤ t.a.x)

-- the sum of f over a list
abbrev pub total : {X : Type 0} → (X → ℤ) → List X → ℤ
total f [] = pos 0
total f (x ∷ xs) = f x +ℤ total f xs

-- the signed crossings of a mesh, in micrometres, by the ray along x from c, in half-micrometres
abbrev pub ray : List Facet → Point → ℤ
ray facets c = total (λ t. hit (twice t) c) facets

-- the signed crossings of the line through c along x that do not lie ahead of c
abbrev pub ray_back : List Facet → Point → ℤ
ray_back facets c = total (λ t. wind (twice t) c.y c.z -ℤ hit (twice t) c) facets

-- the negative of that: the crossings of a whole line with a closed mesh add up to 0, so this is the ray from c
abbrev pub neg_ray_back : List Facet → Point → ℤ
neg_ray_back facets c = neg_ℤ (ray_back facets c)

-- `left` and `turn` with x instead of y
abbrev pub left_x : Point → Point → ℤ → ℤ → ℤ
left_x u v x z = (v.x -ℤ u.x) *ℤ (z -ℤ u.z) -ℤ (x -ℤ u.x) *ℤ (v.z -ℤ u.z)

abbrev pub turn_x : Point → Point → ℤ → ℤ → ℤ
turn_x u v x z = turn_of u.z v.z z (left_x u v x z)

-- the sum of turn_x over the three half-edges, with the sign that the other axis gives
unfoldable pub wind_y : Facet → ℤ → ℤ → ℤ
wind_y t x z = neg_ℤ (turn_x t.a t.b x z +ℤ turn_x t.b t.c x z +ℤ turn_x t.c t.a x z)

-- the signed crossing of the facet by the ray from p along y
unfoldable pub hit_y : Facet → Point → ℤ
hit_y t p = if int_lt (pos 0) (wind_y t p.x p.z *ℤ volume t p) then wind_y t p.x p.z else pos 0

-- the signed crossings of a mesh, in micrometres, by the ray along y from c, in half-micrometres
abbrev pub ray_y : List Facet → Point → ℤ
ray_y facets c = total (λ t. hit_y (twice t) c) facets
