-- A text as it is read from the left: the rest of it, and the tokens that were read.
-- - `Reader`: the rest of a text, and its unit
-- - `Spells`: the text between two readers is these tokens
use Rattle.std.specs.Prelude.{◌≡◌, List, ◌∷◌, [], ◌++◌, Some, ℕ}
use Rattle.micro_num.specs.declared.unit.Unit.{Unit as LengthUnit}
use Rattle.stl_text.specs.declared.word.Word.TheVariants.{EndFacet}
use Rattle.geometry.specs.Facet.{Facet}
use Rattle.stl_text.specs.Text.{Token, keyword_of, loop_tokens, normal_tokens, rest_after}

pub record Reader : Type 0 where
  pub unit : LengthUnit
  pub rest : List ℕ

-- a reader at the start of a text
abbrev pub reader_at_start : LengthUnit → List ℕ → Reader
reader_at_start unit bytes = record { unit = unit; rest = bytes }

-- the text between two readers is these tokens
pub record Spells (tokens : List Token) (old new : Reader) : Type 0 where
  pub spelled : rest_after old.unit tokens old.rest ≡ Some new.rest
  pub same_unit : new.unit ≡ old.unit

-- the tokens of a facet after its word `facet`
abbrev pub facet_tail : Facet → List Token
facet_tail t = normal_tokens ++ loop_tokens t ++ keyword_of EndFacet ∷ []
