-- The chunks of a text, which a `TextReader` is fed one after another: what it knows of the text so far, whatever follows.
-- - `TextReader`: what a reader of chunks keeps
-- - `whole`: the same, with the facets that were taken off the reader
-- - `IsReading`: the reader has read a text up to the bytes ahead, which are its last ones
-- - `ReadsOn`: the reader goes on to bytes further on
-- - `IsAfter`: the reader was fed these bytes
-- - `WhateverFed`: something holds of whatever the reader was fed
-- - `Feeds`: the reader was fed these bytes too
-- - `StandsAt`: the state of the reading of a text after a word
-- - `EndsAt`: the state at the end of the text
use Rattle.std.specs.Prelude.{◌≡◌, ◌≢◌, ℕ, ◌+◌, ◌<◌, Bool, true, false, not, List, [], ◌++◌, length}
use Rattle.std.specs.List.{list_all}
use Rattle.micro_num.specs.declared.unit.Unit.{Unit as LengthUnit}
use Rattle.geometry.specs.Facet.{Facet}
use Rattle.stl_text.specs.declared.stl_fault.StlFault.TheVariants as fault
use Rattle.stl_text.specs.declared.stage.Stage.{Stage}
use Rattle.stl_text.specs.declared.stage.ReaderState.{ReaderState}
use Rattle.stl_text.specs.declared.stage.ReaderState.TheVariants as state
use Rattle.stl_text.specs.Text.{after_space, after_word, after_line, is_white, IsFaultOf}
use Rattle.stl_text.specs.Stage.{Stands, word_front}
use Rattle.stl_text.specs.FacetRun.{IsRestOf}

pub record TextReader : Type 0 where
  pub limit : ℕ
  pub unit : LengthUnit
  pub count : ℕ
  pub state : ReaderState
  pub held : List ℕ
  pub held_at : ℕ
  pub facets : List Facet

-- what a reader would keep if these facets, the first of the text, had not been taken off it
abbrev pub whole : List Facet → TextReader → TextReader
whole taken p = record {
  limit = length taken + p.limit;
  unit = p.unit;
  count = p.count;
  state = p.state;
  held = p.held;
  held_at = p.held_at;
  facets = taken ++ p.facets;
}

-- what is left of a text, as a word or a rest of a line sees it
abbrev pub Sees : Bool → List ℕ → List ℕ → Type 0
Sees true after rest = after ≡ after_line rest
Sees false after rest = after_space after ≡ after_space rest

-- Whatever follows the text, the reader is at a stage of it before the bytes ahead, which are a rest of the text. The part so
-- far of a word that is not whole yet is `word`. The reader keeps the front and the offset of the word, and the length of the
-- text.
pub record Waits (limit : ℕ) (unit : LengthUnit) (p : TextReader) (stage : Stage) (in_line : Bool) (text ahead : List ℕ) : Type 0 where
  pub limit_is : p.limit ≡ limit
  pub unit_is : p.unit ≡ unit
  pub count_is : p.count ≡ length text
  pub is_rest : IsRestOf text ahead
  pub word : List ℕ
  pub held_is : p.held ≡ word_front word
  pub begins : 0 < length word → p.held_at + (length word + length ahead) ≡ length text
  pub clear : list_all (λ byte. not (is_white byte)) word ≡ true
  pub after : (more : List ℕ) → List ℕ
  pub stands : (more : List ℕ) → Stands limit unit stage p.facets (text ++ more) (after more)
  pub sees : (more : List ℕ) → Sees in_line (after more) (word ++ (ahead ++ more))

abbrev pub IsReadingAt : ℕ → LengthUnit → TextReader → ReaderState → List ℕ → List ℕ → Type 0
IsReadingAt limit unit p (state.Word stage) text ahead = Waits limit unit p stage false text ahead
IsReadingAt limit unit p (state.Line stage) text ahead = Waits limit unit p stage true text ahead × (p.held ≡ [])
IsReadingAt limit unit p (state.Stopped f) text ahead = f ≢ fault.Memory → (more : List ℕ) → IsFaultOf limit unit (text ++ more) f

-- The reader has read a text up to the bytes ahead, which are its last ones, and these facets were taken off it. If the reader
-- stopped at a fault, the fault is that of the text, whatever follows it.
abbrev pub IsReading : ℕ → LengthUnit → List Facet → TextReader → List ℕ → List ℕ → Type 0
IsReading limit unit taken p text ahead = IsReadingAt limit unit (whole taken p) p.state text ahead

-- the reader goes on in a text: what it had read up to the bytes ahead, it has read up to those that are left of them
abbrev pub ReadsOn : TextReader → List ℕ → TextReader → List ℕ → Type 0
ReadsOn old ahead new rest = (limit : ℕ) (unit : LengthUnit) (taken : List Facet) (text : List ℕ)
    → IsReading limit unit taken old text ahead → IsReading limit unit taken new text rest

-- the reader was fed these bytes, and these facets were taken off it
abbrev pub IsAfter : ℕ → LengthUnit → List Facet → TextReader → List ℕ → Type 0
IsAfter limit unit taken p fed = IsReading limit unit taken p fed []

-- This holds of each text that the reader may have been fed, by its limit and unit, and of the facets that were taken off it.
abbrev pub WhateverFed : TextReader → (ℕ → LengthUnit → List Facet → List ℕ → Type 0) → Type 0
WhateverFed p holds = (limit : ℕ) (unit : LengthUnit) (taken : List Facet) (fed : List ℕ) → IsAfter limit unit taken p fed → holds limit unit taken fed

-- whatever the reader was fed before, it was fed these bytes after that
abbrev pub Feeds : TextReader → TextReader → List ℕ → Type 0
Feeds old new chunk = WhateverFed old (λ limit unit taken fed. IsAfter limit unit taken new (fed ++ chunk))

abbrev pub at_line : Stage → ReaderState
at_line stage = state.Line stage

abbrev pub at_word : Stage → ReaderState
at_word stage = state.Word stage

-- the state of the reading of a text after a word
abbrev pub StandsAt : ℕ → LengthUnit → ReaderState → List Facet → List ℕ → List ℕ → Type 0
StandsAt limit unit (state.Word stage) facets text after = Stands limit unit stage facets text (after_word after)
StandsAt limit unit (state.Line stage) facets text after = Stands limit unit stage facets text (after_line (after_word after))
StandsAt limit unit (state.Stopped f) facets text after = f ≢ fault.Memory → IsFaultOf limit unit text f

-- the state of the reading of a text at its end
abbrev pub EndsAt : ℕ → LengthUnit → ReaderState → List Facet → List ℕ → Type 0
EndsAt limit unit (state.Word stage) facets text = (after : List ℕ) × Stands limit unit stage facets text after × (after_space after ≡ [])
EndsAt limit unit (state.Line stage) facets text = (after : List ℕ) × Stands limit unit stage facets text after × (after_space after ≡ [])
EndsAt limit unit (state.Stopped f) facets text = f ≢ fault.Memory → IsFaultOf limit unit text f
