-- A part as it stands on a screen: turned, and then stretched along x and y, so that pixels are squares.
-- - `on_screen`, `facet_on_screen`, `part_on_screen`: a point, a facet and the facets of a part there
use Rattle.std.specs.Prelude.{ℕ, pos, ◌*ℤ◌, List, map}
use Rattle.geometry.specs.Facet.{Facet, facet_with}
use Rattle.geometry.specs.Point.{Point}
use Rattle.part_on_screen.specs.Screen.{Screen}
use Rattle.part_on_screen.specs.Turned.{turned}

-- x and y multiplied
abbrev pub stretched : ℕ → ℕ → Point → Point
stretched times_x times_y p = record { x = p.x *ℤ pos times_x; y = p.y *ℤ pos times_y; z = p.z }

abbrev pub on_screen : Screen → Point → Point
on_screen s p = stretched s.times_x s.times_y (turned s.turn p)

abbrev pub facet_on_screen : Screen → Facet → Facet
facet_on_screen s t = facet_with (on_screen s t.a) (on_screen s t.b) (on_screen s t.c)

abbrev pub part_on_screen : Screen → List Facet → List Facet
part_on_screen s facets = map (facet_on_screen s) facets
