-- Stages: how far the reading of a text has come in the grammar, between two words.
-- - `front`: the tokens that were read
-- - `Stands`: a text is read up to a stage
-- - `word_front`: the front of a word
-- - `AtWord`: a text is read up to a stage, and a word with the front of this one comes next
-- - `IsStop`: what a fault says of a text at its offset
-- - `StandsAfter`: a word leads to this step
use Rattle.std.specs.Prelude.{◌≡◌, ◌≢◌, Err, ℕ, ◌+◌, ◌<◌, ◌≤◌, Bool, true, false, List, [], ◌∷◌, ◌++◌, take, drop, length, Some, ℤ, flat_map}
use Rattle.micro_num.specs.declared.unit.Unit.{Unit as LengthUnit}
use Rattle.micro_num.specs.Micrometres.{coordinate_of}
use Rattle.geometry.specs.Point.{Point}
use Rattle.geometry.specs.Facet.{Facet, facet_with}
use Rattle.stl_text.specs.declared.word.Word.TheVariants.{Number, Solid}
use Rattle.stl_text.specs.declared.word.TheConstants.{WORD_FRONT}
use Rattle.stl_text.specs.declared.stl_fault.StlFault.{StlFault}
use Rattle.stl_text.specs.declared.stl_fault.StlFault.TheVariants as faults
use Rattle.stl_text.specs.declared.stage.Axis.{Axis}
use Rattle.stl_text.specs.declared.stage.Axis.TheVariants as axis
use Rattle.stl_text.specs.declared.stage.FacetCorner.{FacetCorner}
use Rattle.stl_text.specs.declared.stage.FacetCorner.TheVariants as corner
use Rattle.stl_text.specs.declared.stage.InnerWord.{InnerWord}
use Rattle.stl_text.specs.declared.stage.InnerWord.TheVariants as inner
use Rattle.stl_text.specs.declared.stage.Stage.{Stage}
use Rattle.stl_text.specs.declared.stage.Stage.TheVariants as stage
use Rattle.stl_text.specs.declared.stage.Step.{Step}
use Rattle.stl_text.specs.declared.stage.Step.TheVariants as step
use Rattle.stl_text.specs.declared.stage.TheConstants.{LAST_WORD}
use Rattle.stl_text.specs.Text.{wanted as wanted_at, is_keyword, is_wanted, facet_keyword, Token, keyword_of, normal_word, coordinate, rest_of_line, facet_word, facet_tokens, solid_tokens, HasOneKeyword, begins_with, after_token, rest_after, first_word, after_space, after_word, after_line, facets_of}
use Rattle.stl_text.specs.Reader.{facet_tail}

-- a point with another coordinate
abbrev pub with_axis : Axis → ℤ → Point → Point
with_axis axis.X value p = record { x = value; y = p.y; z = p.z }
with_axis axis.Y value p = record { x = p.x; y = value; z = p.z }
with_axis axis.Z value p = record { x = p.x; y = p.y; z = value }

-- a facet with another coordinate
abbrev pub with_number : FacetCorner → Axis → ℤ → Facet → Facet
with_number corner.A axis value t = facet_with (with_axis axis value t.a) t.b t.c
with_number corner.B axis value t = facet_with t.a (with_axis axis value t.b) t.c
with_number corner.C axis value t = facet_with t.a t.b (with_axis axis value t.c)

-- After this number of the words that follow `facet` of t, the token comes, and t becomes u.
pub record Goes (words : ℕ) (token : Token) (t u : Facet) : Type 0 where
  pub cut : facet_tail u ≡ take words (facet_tail t) ++ token ∷ drop (words + 1) (facet_tail u)
  pub on : take (words + 1) (facet_tail u) ≡ take words (facet_tail t) ++ token ∷ []

-- what is wanted after this number of the words that follow `facet`
abbrev pub IsWantedAt : ℕ → InnerWord → Type 0
IsWantedAt words (inner.Keyword kind) = (kind ≢ Solid) × ((t : Facet) → Goes words (keyword_of kind) t t)
IsWantedAt words inner.NormalWord = (t : Facet) → Goes words normal_word t t
IsWantedAt words (inner.Number corner axis) = (t : Facet) (value : ℤ) → Goes words (coordinate value) t (with_number corner axis value t)

-- a kind with one keyword, or no keyword
abbrev pub IsPlain : InnerWord → Type 0
IsPlain (inner.Keyword kind) = HasOneKeyword kind
IsPlain inner.NormalWord = Unit {0}
IsPlain (inner.Number corner axis) = Unit {0}

-- the text after t begins with the next token, and then the facet is u
pub record ReadInside (unit : LengthUnit) (words : ℕ) (t : Facet) (after : List ℕ) (u : Facet) : Type 0 where
  pub token : Token
  pub goes : Goes words token t u
  pub begins : begins_with unit token after ≡ true
  pub one_word : after_token token after ≡ after_word after

-- What a fault says of a text at its offset, with `rest` left. `token` is wanted there, and `facets_before` of the `room`
-- facets that may begin have begun.
abbrev pub IsStop : ℕ → LengthUnit → List ℕ → Token → ℕ → List ℕ → StlFault → Type 0
IsStop room unit text token facets_before rest (faults.Expected kind at) =
    (wanted_at token ≡ Some kind) × (kind ≢ Number) × (0 < length (first_word rest)) × (is_wanted kind (first_word rest) ≡ false)
    × (at + length (after_space rest) ≡ length text)
IsStop room unit text token facets_before rest (faults.Ended kind) = (wanted_at token ≡ Some kind) × (first_word rest ≡ [])
IsStop room unit text token facets_before rest (faults.Number cause at) =
    ((z : ℤ) × (token ≡ coordinate z)) × (0 < length (first_word rest)) × (coordinate_of unit (first_word rest) ≡ Err cause)
    × (at + length (after_space rest) ≡ length text)
IsStop room unit text token facets_before rest (faults.TooMany at) =
    (token ≡ facet_word) × (facets_before ≡ room) × (is_keyword facet_keyword (first_word rest) ≡ true)
    × (at + length (after_space rest) ≡ length text)
IsStop room unit text token facets_before rest faults.Memory = ⊥

-- the next word of the text after t does not fit
pub record StopsInside (unit : LengthUnit) (words : ℕ) (t : Facet) (after : List ℕ) (at : ℕ) (fault : StlFault) : Type 0 where
  pub token : Token
  pub u : Facet
  pub goes : Goes words token t u
  pub stop : (room before : ℕ) (text : List ℕ) → at + length (after_space after) ≡ length text
      → IsStop room unit text token before after fault
  pub other : fault ≢ faults.Ended Solid

-- a solid that is open after these facets
abbrev pub open_solid : List Facet → List Token
open_solid facets = keyword_of Solid ∷ rest_of_line ∷ flat_map facet_tokens facets

abbrev pub between_solids : Bool → Stage
between_solids some = stage.Between some

abbrev pub in_facets : Stage
in_facets = stage.Facets

abbrev pub inside : ℕ → Facet → Stage
inside words t = stage.Inside words t

-- the tokens that were read: whole solids, and the front of one more with the facets `added`
abbrev pub front : Stage → List (List Facet) → List Facet → List Token
front (stage.Between some) solids added = flat_map solid_tokens solids
front stage.Facets solids added = flat_map solid_tokens solids ++ open_solid added
front (stage.Inside words t) solids added = (flat_map solid_tokens solids ++ open_solid added) ++ facet_word ∷ take words (facet_tail t)

-- what a stage says of the solids, and of the number of facets so far
abbrev pub IsForm : ℕ → Stage → List (List Facet) → List Facet → ℕ → Type 0
IsForm limit (stage.Between true) solids added count = (added ≡ []) × (0 < length solids) × (count ≤ limit)
IsForm limit (stage.Between false) solids added count = (added ≡ []) × (solids ≡ []) × (count ≤ limit)
IsForm limit stage.Facets solids added count = count ≤ limit
IsForm limit (stage.Inside words t) solids added count = (words ≤ LAST_WORD) × (count < limit)

-- the text is read up to this stage, which leaves `after`; these are the whole facets
pub record Stands (limit : ℕ) (unit : LengthUnit) (stage : Stage) (facets : List Facet) (text after : List ℕ) : Type 0 where
  pub solids : List (List Facet)
  pub added : List Facet
  pub items : facets ≡ facets_of solids ++ added
  pub form : IsForm limit stage solids added (length facets)
  pub spelled : rest_after unit (front stage solids added) text ≡ Some after

-- the front of a word, or the whole of a short one
abbrev pub word_front : List ℕ → List ℕ
word_front word = take WORD_FRONT word

-- the text is read up to this stage, and the word that comes next, at this byte offset, has the same front as this one
pub record AtWord (limit : ℕ) (unit : LengthUnit) (stage : Stage) (facets : List Facet) (text after word : List ℕ) (at : ℕ) : Type 0 where
  pub stands : Stands limit unit stage facets text after
  pub word_is : word_front (first_word after) ≡ word_front word
  pub some : 0 < length word
  pub at_is : at + length (after_space after) ≡ length text

-- the stage after a word, to which this step leads
abbrev pub StandsAfter : ℕ → LengthUnit → List Facet → List ℕ → List ℕ → Step → Type 0
StandsAfter limit unit facets text after (step.To s) = Stands limit unit s facets text (after_word after)
StandsAfter limit unit facets text after (step.Line s) = Stands limit unit s facets text (after_line (after_word after))
StandsAfter limit unit facets text after (step.Whole t) = Stands limit unit stage.Facets (facets ++ t ∷ []) text (after_word after)
