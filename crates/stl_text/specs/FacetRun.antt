-- A text that is read in parts: runs of facets, found anywhere in the text, over which its reader jumps.
-- - `IsRestOf`: the rest of a text from some byte on
-- - `StandsBefore`: a text is read up to this rest of it, among the facets of a solid
-- - `IsFacetRun`: facets that come one after another in a text
use Rattle.std.specs.Prelude.{◌≡◌, ◌+◌, ◌≤◌, ℕ, List, [], ◌∷◌, ◌++◌, drop, length}
use Rattle.micro_num.specs.declared.unit.Unit.{Unit as LengthUnit}
use Rattle.geometry.specs.Facet.{Facet}
use Rattle.stl_text.specs.declared.word.Word.TheVariants.{Solid}
use Rattle.stl_text.specs.Text.{Token, after_space, end_word, keyword_of, rest_of_line}
use Rattle.stl_text.specs.Stage.{Stands, in_facets}

-- the rest of a text from some byte on
pub record IsRestOf (text rest : List ℕ) : Type 0 where
  pub skipped : ℕ
  pub rest_is : rest ≡ drop skipped text

-- the end of a solid, and the beginning of the next
abbrev pub next_solid : List Token
next_solid = end_word ∷ rest_of_line ∷ keyword_of Solid ∷ rest_of_line ∷ []

-- the text is read up to this rest of it, and `facet` or `endsolid` is wanted there; these are the facets so far
pub record StandsBefore (limit : ℕ) (unit : LengthUnit) (facets : List Facet) (text rest : List ℕ) : Type 0 where
  pub after : List ℕ
  pub stands : Stands limit unit in_facets facets text after
  pub sees : after_space after ≡ after_space rest

-- After some byte of the text these facets come, one after another, in one solid or in several. The text from that byte on is
-- `from`, and the text after the facets is `to`. Suppose a reading is before `from`, `facet` or `endsolid` is wanted there, and
-- the limit allows these facets. Then it comes before `to` with these facets more, whatever follows. Nothing says that a
-- reading is ever before `from`.
pub record IsFacetRun (unit : LengthUnit) (text : List ℕ) (facets : List Facet) (from to : List ℕ) : Type 0 where
  pub begins : IsRestOf text from
  pub ends : IsRestOf from to
  pub leads : (limit : ℕ) (had : List Facet) (whole more : List ℕ) → StandsBefore limit unit had whole (from ++ more)
      → length had + length facets ≤ limit → StandsBefore limit unit (had ++ facets) whole (to ++ more)
