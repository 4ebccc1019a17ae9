-- A facet relative to a point: its corners less that point, which is then the origin.
use Rattle.std.specs.Prelude.{◌-ℤ◌}
use Rattle.geometry.specs.Point.{Point}
use Rattle.geometry.specs.Facet.{Facet, facet_with}
use Rattle.exact_cut.specs.declared.hit.relative_facet.Offset.{Offset}
use Rattle.exact_cut.specs.declared.hit.relative_facet.RelativeFacet.{RelativeFacet}

abbrev pub minus : Point → Point → Point
minus p c = record { x = p.x -ℤ c.x; y = p.y -ℤ c.y; z = p.z -ℤ c.z }

abbrev pub relative_to : Facet → Point → Facet
relative_to t c = facet_with (minus t.a c) (minus t.b c) (minus t.c c)

-- the program's offsets and relative facets as points and facets
abbrev pub corner_of : Offset → Point
corner_of o = record { x = o.x; y = o.y; z = o.z }

abbrev pub facet_of : RelativeFacet → Facet
facet_of f = facet_with (corner_of f.a) (corner_of f.b) (corner_of f.c)
