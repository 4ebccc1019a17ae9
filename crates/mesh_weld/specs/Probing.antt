-- Centres that no facet touches, and steps from centre to centre that no facet meets. Centres are in half-micrometres.
use Rattle.std.specs.Prelude.{List, All}
use Rattle.geometry.specs.Point.{Point}
use Rattle.geometry.specs.Facet.{Facet, twice}
use Rattle.geometry.specs.Touch.{Touches, Between}

-- no facet touches the centre
abbrev pub NoneTouches : List Facet → Point → Type 0
NoneTouches facets c = All (λ t. ¬ Touches (twice t) c) facets

-- no point of a facet lies between the centres, ends included
abbrev pub NoneBetween : List Facet → Point → Point → Type 0
NoneBetween facets c d = All (λ t. ¬ Between (twice t) c d) facets
