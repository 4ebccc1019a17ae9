-- The layout of facets: the keywords between their numbers, each as the bytes with which one file writes it.
-- - `Skips`: a reader goes on over tokens and the white space after them
-- - `IsSeparator`: bytes that stand for tokens whatever follows them
-- - `separator_tokens`: the keywords of each separator
-- - `IsLayout`: the bytes of each separator
use Rattle.std.specs.Prelude.{◌≡◌, ◌<◌, List, [], ◌∷◌, Some, drop, length, ℕ}
use Rattle.micro_num.specs.declared.unit.Unit.{Unit as LengthUnit}
use Rattle.stl_text.specs.Reader.{Reader}
use Rattle.stl_text.specs.Text.{Token, after_space, facet_word, keyword_of, rest_after}
use Rattle.stl_text.specs.declared.grammar.Separator.{Separator}
use Rattle.stl_text.specs.declared.grammar.Separator.TheVariants as separator
use Rattle.stl_text.specs.declared.word.Word.TheVariants.{EndFacet, EndLoop, Loop, Normal, Outer, Vertex}

-- the keywords before, between and after the numbers of a facet
abbrev pub separator_tokens : Separator → List Token
separator_tokens separator.Opening = facet_word ∷ keyword_of Normal ∷ []
separator_tokens separator.First = keyword_of Outer ∷ keyword_of Loop ∷ keyword_of Vertex ∷ []
separator_tokens separator.Next = keyword_of Vertex ∷ []
separator_tokens separator.Closing = keyword_of EndLoop ∷ keyword_of EndFacet ∷ []

-- the text between two readers is these tokens and white space
pub record Skips (tokens : List Token) (old new : Reader) : Type 0 where
  pub after : List ℕ
  pub spelled : rest_after old.unit tokens old.rest ≡ Some after
  pub space : after_space after ≡ after_space new.rest
  pub same_unit : new.unit ≡ old.unit

-- The bytes spell these tokens, and at least one byte of white space after them. So they spell the tokens whatever bytes
-- follow.
pub record IsSeparator (tokens : List Token) (bytes : List ℕ) : Type 0 where
  pub after : List ℕ
  pub spelled : (unit : LengthUnit) → rest_after unit tokens bytes ≡ Some after
  pub some : 0 < length after
  pub white : after_space after ≡ []

-- Bytes that begin with the last keywords of a facet and have something after them. `words_len` is the length of these
-- keywords with the white space before each.
pub record IsClosing (words_len : ℕ) (bytes : List ℕ) : Type 0 where
  pub some : words_len < length bytes
  pub spelled : (unit : LengthUnit) → rest_after unit (separator_tokens separator.Closing) bytes ≡ Some (drop words_len bytes)

pub record Layout : Type 0 where
  pub opening : List ℕ
  pub first : List ℕ
  pub next : List ℕ
  pub closing : List ℕ
  pub words_len : ℕ

pub record IsLayout (layout : Layout) : Type 0 where
  pub opening : IsSeparator (separator_tokens separator.Opening) layout.opening
  pub first : IsSeparator (separator_tokens separator.First) layout.first
  pub next : IsSeparator (separator_tokens separator.Next) layout.next
  pub closing : IsClosing layout.words_len layout.closing
