-- The facets of a file, as C has them.
use Rattle.std.specs.Prelude.{◌≡◌, ◌⊎◌, ℕ, ℤ, List, [], ◌∷◌, map, Some}
use Rattle.geometry.specs.Point.{Point}
use Rattle.geometry.specs.Facet.{Facet}
use Rattle.micro_num.specs.declared.unit.Unit.{Unit as LengthUnit}
use Rattle.layer_session.specs.Session.{ReadsFile}
use Rattle.stlslice_c.specs.Answers.{IsPutInFront, IsUnread}
use Rattle.stlslice_c.specs.Options.{unit_numbered}
use Rattle.stlslice_c.specs.declared.facets.TheConstants.{MOST_FACETS}

abbrev pub coordinates : Point → List ℤ
coordinates p = p.x ∷ p.y ∷ p.z ∷ []

abbrev pub facet_told : Facet → List (List ℤ)
facet_told f = coordinates f.a ∷ coordinates f.b ∷ coordinates f.c ∷ []

-- The facets that a file reads as, in its order, and no line; or else the line, and no facets.
abbrev pub IsFacetsAnswer : ℕ → List ℕ → List (List (List ℤ)) → List (List (List ℤ)) → ℕ → ℕ → List ℕ → List ℕ → ℕ → Type 0
IsFacetsAnswer unit bytes old new told wanted before after status =
    ((meant : LengthUnit) × (facets : List Facet) × (unit_numbered unit ≡ Some meant) × ReadsFile MOST_FACETS meant bytes facets
    × IsPutInFront (map facet_told facets) old new wanted status × (after ≡ before))
    ⊎ ((new ≡ old) × (wanted ≡ told) × IsUnread MOST_FACETS unit bytes before after status)
