-- How facets may be written: in solids, with any white space between words, keywords in any case, any words for
-- normals, any names, and anything after `endsolid` on its line.
-- - `Spaced`: a stretch of a text, and the white space after it
-- - `AreWordsOf`: these stretches are words that stand for these tokens, with white space after each
-- - `IsRemark`: what may follow a word up to the end of its line: a name, or what is skipped
-- - `IsLineBreak`: the end of a line, and more white space
-- - `IsAfterSolids`: a line break, or nothing
-- - `WrittenSolid`: a solid of these facets, up to the end of the line of `endsolid`
-- - `AreWrittenSolids`: these stretches are solids of these facets, with a line break after each
-- - `Written`: a text of these facets
use Rattle.std.specs.Prelude.{◌≡◌, ℕ, Bool, true, ◌&&◌, not, List, [], ◌∷◌, ◌++◌, length, Ok, nat_lt, flat_map}
use Rattle.std.specs.Str.{str_to_ascii_lowercase}
use Rattle.std.specs.List.{list_all}
use Rattle.micro_num.specs.declared.unit.Unit.{Unit as LengthUnit}
use Rattle.micro_num.specs.Micrometres.{coordinate_of}
use Rattle.geometry.specs.Facet.{Facet}
use Rattle.stl_text.specs.declared.word.Word.TheVariants.{Solid}
use Rattle.stl_text.specs.Text.{Token, keyword, keyword_text, end_keyword, normal_word, coordinate, rest_of_line, facet_tokens, facets_of, is_white, is_line_end}

abbrev pub are_white : List ℕ → Bool
are_white bytes = list_all is_white bytes

-- one byte at least, and none of them white
abbrev pub is_word : List ℕ → Bool
is_word bytes = nat_lt 0 (length bytes) && list_all (λ byte. not (is_white byte)) bytes

-- a stretch of a text, and the white space after it
pub record Spaced : Type 0 where
  pub text : List ℕ
  pub space : List ℕ

-- one stretch after the other
abbrev pub laid_out : List Spaced → List ℕ
laid_out stretches = flat_map (λ s. s.text ++ s.space) stretches

abbrev pub is_spaced_word : Spaced → Bool
is_spaced_word s = is_word s.text && (nat_lt 0 (length s.space) && are_white s.space)

-- the word stands for the token: a keyword in any case
abbrev pub IsWordOf : LengthUnit → Token → List ℕ → Type 0
IsWordOf unit (keyword wanted text) word = str_to_ascii_lowercase word ≡ text
IsWordOf unit normal_word word = Unit {0}
IsWordOf unit (coordinate z) word = coordinate_of unit word ≡ Ok z
IsWordOf unit rest_of_line word = ⊥

abbrev pub AreWordsOf : LengthUnit → List Token → List Spaced → Type 0
AreWordsOf unit [] [] = Unit {0}
AreWordsOf unit [] (s ∷ words) = ⊥
AreWordsOf unit (p ∷ tokens) [] = ⊥
AreWordsOf unit (p ∷ tokens) (s ∷ words) = (is_spaced_word s ≡ true) × IsWordOf unit p s.text × AreWordsOf unit tokens words

-- no bytes, or white space first
abbrev pub IsApart : List ℕ → Type 0
IsApart [] = Unit {0}
IsApart (byte ∷ bytes) = is_white byte ≡ true

-- what may follow a word up to the end of its line
pub record IsRemark (bytes : List ℕ) : Type 0 where
  pub apart : IsApart bytes
  pub one_line : list_all (λ byte. not (is_line_end byte)) bytes ≡ true

-- the end of a line, and more white space
abbrev pub IsLineBreak : List ℕ → Type 0
IsLineBreak [] = ⊥
IsLineBreak (byte ∷ bytes) = (is_line_end byte ≡ true) × (are_white bytes ≡ true)

-- what may follow the last solid: a line break, or nothing if the text ends with the line of `endsolid`
abbrev pub IsAfterSolids : List ℕ → Type 0
IsAfterSolids [] = Unit {0}
IsAfterSolids (byte ∷ bytes) = IsLineBreak (byte ∷ bytes)

-- a solid of these facets, up to the end of the line of `endsolid`
pub record WrittenSolid (unit : LengthUnit) (facets : List Facet) (text : List ℕ) : Type 0 where
  pub opening : List ℕ
  pub opening_is : str_to_ascii_lowercase opening ≡ keyword_text Solid
  pub name : List ℕ
  pub name_is : IsRemark name
  pub line_break : List ℕ
  pub line_break_is : IsLineBreak line_break
  pub body : List Spaced
  pub body_is : AreWordsOf unit (flat_map facet_tokens facets) body
  pub closing : List ℕ
  pub closing_is : str_to_ascii_lowercase closing ≡ end_keyword
  pub remark : List ℕ
  pub remark_is : IsRemark remark
  pub text_is : text ≡ opening ++ (name ++ (line_break ++ (laid_out body ++ (closing ++ remark))))

abbrev pub AreWrittenSolids : LengthUnit → List (List Facet) → List Spaced → Type 0
AreWrittenSolids unit [] [] = Unit {0}
AreWrittenSolids unit [] (s ∷ texts) = ⊥
AreWrittenSolids unit (facets ∷ solids) [] = ⊥
AreWrittenSolids unit (facets ∷ solids) (s ∷ texts) =
    WrittenSolid unit facets s.text × IsLineBreak s.space × AreWrittenSolids unit solids texts

-- a text of these facets: white space, solids, and a last solid
pub record Written (unit : LengthUnit) (facets : List Facet) (text : List ℕ) : Type 0 where
  pub lead : List ℕ
  pub lead_is : are_white lead ≡ true
  pub solids : List (List Facet)
  pub texts : List Spaced
  pub texts_are : AreWrittenSolids unit solids texts
  pub last : List Facet
  pub last_text : List ℕ
  pub last_is : WrittenSolid unit last last_text
  pub after : List ℕ
  pub after_is : IsAfterSolids after
  pub each : facets ≡ facets_of solids ++ last
  pub text_is : text ≡ lead ++ (laid_out texts ++ (last_text ++ after))
