-- ASCII STL, as in 3D Systems' "StereoLithography Interface Specification": which facets a text reads as, and which
-- fault it has otherwise.
-- - `keywords`: the table of keywords
-- - `Token`, `solid_tokens`: what a solid is written with: keywords, words of normals, coordinates, rests of lines
-- - `rest_after`: the rest of a text after the tokens at its front
-- - `Reads`: the text is whole solids, and these are their facets
-- - `Wants`: up to a byte offset the text begins as solids do, and there it wants this token
-- - `IsFaultOf`: the one fault of a text
use Rattle.std.specs.Prelude.{◌≡◌, ◌≢◌, ℕ, ◌+◌, ◌<◌, ◌≤◌, Bool, true, false, ◌&&◌, ◌||◌, List, [], ◌∷◌, ◌++◌, drop, length, Option, Some, None, Ok, Err, ℤ, ◌==◌, nat_lt, nat_le, if◌then◌else◌, codes, flat_map, count_by}
use Rattle.std.specs.Ordering.{int_eq}
use Rattle.std.specs.Str.{bytes_eq, str_to_ascii_lowercase}
use Rattle.std.specs.List.{before_first, prefix_len}
use Rattle.micro_num.specs.declared.unit.Unit.{Unit as LengthUnit}
use Rattle.micro_num.specs.declared.num_fault.NumFault.{NumFault}
use Rattle.micro_num.specs.Numeral.{from_first}
use Rattle.micro_num.specs.Micrometres.{coordinate_of}
use Rattle.stl_text.specs.declared.word.Word.{Word}
use Rattle.stl_text.specs.declared.word.Word.TheVariants.{Solid, FacetOrEnd, Normal, Outer, Loop, Vertex, Number, EndLoop, EndFacet}
use Rattle.stl_text.specs.declared.stl_fault.StlFault.{StlFault}
use Rattle.stl_text.specs.declared.stl_fault.StlFault.TheVariants as fault
use Rattle.geometry.specs.Point.{Point}
use Rattle.geometry.specs.Facet.{Facet}

-- Words. White space is the bytes 9 to 13 and 32. A word is a stretch of other bytes, as long as possible.

abbrev pub is_white : ℕ → Bool
is_white byte = byte == 32 || (nat_le 9 byte && nat_le byte 13)

abbrev pub is_line_end : ℕ → Bool
is_line_end byte = byte == 10 || byte == 13

-- the text after the white space at the front
abbrev pub after_space : List ℕ → List ℕ
after_space bytes = drop (prefix_len is_white bytes) bytes

-- the first word, which is empty if only white space is left
abbrev pub first_word : List ℕ → List ℕ
first_word bytes = before_first is_white (after_space bytes)

-- the text after the first word
abbrev pub after_word : List ℕ → List ℕ
after_word bytes = from_first is_white (after_space bytes)

-- the text from the first LF or CR on, which is empty if there is none
abbrev pub after_line : List ℕ → List ℕ
after_line bytes = from_first is_line_end bytes

-- whether a word is this keyword, in any case
abbrev pub is_keyword : List ℕ → List ℕ → Bool
is_keyword text word = bytes_eq (str_to_ascii_lowercase word) text

-- The table of keywords, in lower case. Each kind of word has the keywords that fit when it is wanted.

abbrev pub facet_keyword : List ℕ
facet_keyword = codes "facet"

abbrev pub end_keyword : List ℕ
end_keyword = codes "endsolid"

abbrev pub keywords : Word → List (List ℕ)
keywords Solid = codes "solid" ∷ []
keywords FacetOrEnd = facet_keyword ∷ end_keyword ∷ []
keywords Normal = codes "normal" ∷ []
keywords Outer = codes "outer" ∷ []
keywords Loop = codes "loop" ∷ []
keywords Vertex = codes "vertex" ∷ []
keywords Number = []
keywords EndLoop = codes "endloop" ∷ []
keywords EndFacet = codes "endfacet" ∷ []

-- the text is in the list
abbrev pub is_one_of : List ℕ → List (List ℕ) → Bool
is_one_of text [] = false
is_one_of text (k ∷ []) = bytes_eq text k
is_one_of text (k ∷ l ∷ ks) = bytes_eq text k || is_one_of text (l ∷ ks)

-- the text of a list that has one
abbrev pub only_one : List (List ℕ) → List ℕ
only_one [] = []
only_one (k ∷ []) = k
only_one (k ∷ l ∷ ks) = []

-- the keyword of a kind that has exactly one
abbrev pub keyword_text : Word → List ℕ
keyword_text kind = only_one (keywords kind)

-- the kind has exactly one keyword
abbrev pub HasOneKeyword : Word → Type 0
HasOneKeyword kind = length (keywords kind) ≡ 1

-- Tokens of the grammar. A keyword has the kind of word that is wanted there, and its text.

-- what a text is made of: a keyword, any word (of a normal), a coordinate, and all up to the end of the line
pub data Token : Type 0 where
  keyword : Word → List ℕ → Token
  normal_word : Token
  coordinate : ℤ → Token
  rest_of_line : Token

-- the keyword of a kind that has exactly one
abbrev pub keyword_of : Word → Token
keyword_of kind = keyword kind (keyword_text kind)

abbrev pub facet_word : Token
facet_word = keyword FacetOrEnd facet_keyword

abbrev pub end_word : Token
end_word = keyword FacetOrEnd end_keyword

-- what a corner is written with
abbrev pub vertex_tokens : Point → List Token
vertex_tokens p = keyword_of Vertex ∷ coordinate p.x ∷ coordinate p.y ∷ coordinate p.z ∷ []

-- what a normal is written with: any three words
abbrev pub normal_tokens : List Token
normal_tokens = keyword_of Normal ∷ normal_word ∷ normal_word ∷ normal_word ∷ []

-- what the three corners are written with
abbrev pub loop_tokens : Facet → List Token
loop_tokens t =
    (keyword_of Outer ∷ keyword_of Loop ∷ [])
    ++ vertex_tokens t.a ++ vertex_tokens t.b ++ vertex_tokens t.c
    ++ keyword_of EndLoop ∷ []

-- what a facet is written with
abbrev pub facet_tokens : Facet → List Token
facet_tokens t = (facet_word ∷ normal_tokens) ++ loop_tokens t ++ keyword_of EndFacet ∷ []

-- what a solid is written with: its name and what follows `endsolid` are rests of lines
abbrev pub solid_tokens : List Facet → List Token
solid_tokens facets =
    (keyword_of Solid ∷ rest_of_line ∷ []) ++ flat_map facet_tokens facets ++ end_word ∷ rest_of_line ∷ []

-- whether a word stands for the coordinate
abbrev pub is_read_as : ℤ → List ℕ → LengthUnit → Bool
is_read_as z word unit = elim (coordinate_of unit word) [ Ok x ↦ int_eq x z | Err cause ↦ false ]

-- whether a text begins with the token
abbrev pub begins_with : LengthUnit → Token → List ℕ → Bool
begins_with unit (keyword wanted text) bytes = is_keyword text (first_word bytes)
begins_with unit normal_word bytes = nat_lt 0 (length (first_word bytes))
begins_with unit (coordinate z) bytes = is_read_as z (first_word bytes) unit
begins_with unit rest_of_line bytes = true

-- the text after a token
abbrev pub after_token : Token → List ℕ → List ℕ
after_token rest_of_line bytes = after_line bytes
after_token (keyword wanted text) bytes = after_word bytes
after_token normal_word bytes = after_word bytes
after_token (coordinate z) bytes = after_word bytes

-- the rest of the text after the tokens, if the text begins with them
abbrev pub rest_after : LengthUnit → List Token → List ℕ → Option (List ℕ)
rest_after unit [] bytes = Some bytes
rest_after unit (token ∷ tokens) bytes =
    if begins_with unit token bytes then rest_after unit tokens (after_token token bytes) else None

-- the facets of all solids
abbrev pub facets_of : List (List Facet) → List Facet
facets_of solids = flat_map (λ facets. facets) solids

-- The text is one or more solids, with only white space after the last; these are their facets, in order, at most
-- `limit` of them.
pub record Reads (limit : ℕ) (unit : LengthUnit) (bytes : List ℕ) (facets : List Facet) : Type 0 where
  pub solids : List (List Facet)
  pub some : 0 < length solids
  pub each : facets ≡ facets_of solids
  pub few : length facets ≤ limit
  pub rest : List ℕ
  pub spelled : rest_after unit (flat_map solid_tokens solids) bytes ≡ Some rest
  pub whole : after_space rest ≡ []

-- What is wanted when a token must come, as a fault names it. A word of a normal counts as a number.
abbrev pub wanted : Token → Option Word
wanted (keyword word text) = Some word
wanted normal_word = Some Number
wanted (coordinate z) = Some Number
wanted rest_of_line = None

-- the token is the keyword `facet`
abbrev pub is_facet_word : Token → Bool
is_facet_word (keyword wanted text) = is_keyword text facet_keyword
is_facet_word normal_word = false
is_facet_word (coordinate z) = false
is_facet_word rest_of_line = false

-- the number of facets that begin in these tokens
abbrev pub facet_count : List Token → ℕ
facet_count tokens = count_by is_facet_word tokens

-- The text begins with the front of some solids, which is cut before a token. That token is wanted next. `facets_before` is the
-- number of facets that begin in the front. `word` is the next word, and `at` its byte offset. If the text ends, `word` is
-- empty and `at` is the length of the text.
pub record Wants (limit : ℕ) (unit : LengthUnit) (bytes : List ℕ) (at : ℕ) (token : Token) (facets_before : ℕ) (word : List ℕ) : Type 0 where
  pub solids : List (List Facet)
  pub front : List Token
  pub more : List Token
  pub cut : flat_map solid_tokens solids ≡ front ++ token ∷ more
  pub count : facets_before ≡ facet_count front
  pub few : facets_before ≤ limit
  pub rest : List ℕ
  pub spelled : rest_after unit front bytes ≡ Some rest
  pub offset : at + length (after_space rest) ≡ length bytes
  pub stands : word ≡ first_word rest

-- whether a text in lower case is a keyword of this kind
abbrev pub is_text_of : Word → List ℕ → Bool
is_text_of kind text = is_one_of text (keywords kind)

-- whether a word is a keyword of this kind, in any case
abbrev pub is_wanted : Word → List ℕ → Bool
is_wanted kind word = is_text_of kind (str_to_ascii_lowercase word)

-- a keyword is wanted, and the word there is another one
pub record IsUnexpected (limit : ℕ) (unit : LengthUnit) (bytes : List ℕ) (kind : Word) (at : ℕ) : Type 0 where
  pub token : Token
  pub facets_before : ℕ
  pub word : List ℕ
  pub wants : Wants limit unit bytes at token facets_before word
  pub kind_is : wanted token ≡ Some kind
  pub keyword_wanted : kind ≢ Number
  pub stands : 0 < length word
  pub other : is_wanted kind word ≡ false

-- a coordinate is wanted, and the word there stands for none
pub record IsBadNumber (limit : ℕ) (unit : LengthUnit) (bytes : List ℕ) (cause : NumFault) (at : ℕ) : Type 0 where
  pub z : ℤ
  pub facets_before : ℕ
  pub word : List ℕ
  pub wants : Wants limit unit bytes at (coordinate z) facets_before word
  pub stands : 0 < length word
  pub refused : coordinate_of unit word ≡ Err cause

-- one facet more than the limit begins
pub record IsTooMany (limit : ℕ) (unit : LengthUnit) (bytes : List ℕ) (at : ℕ) : Type 0 where
  pub word : List ℕ
  pub wants : Wants limit unit bytes at facet_word limit word
  pub facet : is_keyword facet_keyword word ≡ true

-- The text ends when a word is wanted. `solid` is wanted only in a text of white space: after a whole solid, a text may end.
pub record IsEndedBefore (limit : ℕ) (unit : LengthUnit) (bytes : List ℕ) (kind : Word) : Type 0 where
  pub token : Token
  pub facets_before : ℕ
  pub wants : Wants limit unit bytes (length bytes) token facets_before []
  pub kind_is : wanted token ≡ Some kind
  pub no_solid : kind ≡ Solid → after_space bytes ≡ []

-- the one fault of a text that reads as no facets
abbrev pub IsFaultOf : ℕ → LengthUnit → List ℕ → StlFault → Type 0
IsFaultOf limit unit bytes (fault.Expected word at) = IsUnexpected limit unit bytes word at
IsFaultOf limit unit bytes (fault.Ended word) = IsEndedBefore limit unit bytes word
IsFaultOf limit unit bytes (fault.Number cause at) = IsBadNumber limit unit bytes cause at
IsFaultOf limit unit bytes (fault.TooMany at) = IsTooMany limit unit bytes at
IsFaultOf limit unit bytes fault.Memory = ⊥
