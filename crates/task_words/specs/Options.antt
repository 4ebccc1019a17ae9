-- The options of the command, and what words say by them.
use Rattle.std.specs.Prelude.{◌==◌, ◌&&◌, ◌||◌, ℕ, Bool, true, false, not, List, [], ◌∷◌, length, Option, Some, None, is_some}
use Rattle.std.specs.Prelude.{codes, find, if◌then◌else◌, nat_le, nat_lt, option_and_then, slice_get}
use Rattle.std.specs.List.{list_all, list_any}
use Rattle.std.specs.Option.{option_map_or}
use Rattle.std.specs.Char.{digit_value}
use Rattle.std.specs.Str.{bytes_eq, chars}
use Rattle.std.specs.Str.Parse.{digits_value, without_leading_plus}
use Rattle.clap.specs.Lexer.{long_of, short_of}
use Rattle.clap.specs.declared.error.kind.ErrorKind.{ErrorKind}
use Rattle.clap.specs.declared.error.kind.ErrorKind.TheVariants as kind

-- a text by its bytes
abbrev pub Text : Type 0
Text = List ℕ

-- what an option takes: nothing, a text, or a whole number from 1 to a limit. The last two ask for the help and the version.
pub data Kind : Type 0 where
  flag : Kind
  any_text : Kind
  number : ℕ → Kind
  help : Kind
  version : Kind

-- an option, which is written `--NAME`, or `-` and its letter if it has one. An option that is not given has its default.
pub record Known : Type 0 where
  pub name : Text
  pub letter : Option ℕ
  pub kind : Kind
  pub default : Option Text

-- an option as it is given. The value of a flag is empty.
pub record Use : Type 0 where
  pub option : Known
  pub value : Text

-- what a refusal answers: the help, the version, or neither
pub data Asked : Type 0 where
  asks_for_help : Asked
  asks_for_version : Asked
  asks_nothing : Asked

-- what a kind of refusal of `clap` answers
abbrev pub asked_by : ErrorKind → Asked
asked_by kind.DisplayHelp = asks_for_help
asked_by kind.DisplayVersion = asks_for_version
asked_by _ = asks_nothing

-- what words say: uses of options, the latest first; that the help or the version is asked for; or nothing that the command takes
pub data Said : Type 0 where
  gives : List Use → Said
  asks_help : Said
  asks_version : Said
  wrong : Said

-- the option is among the uses
abbrev pub is_given : Text → List Use → Bool
is_given name uses = list_any (λ u. bytes_eq u.option.name name) uses

-- what is given, or else the default
abbrev pub value_or : Option Text → Option Text → Option Text
value_or (Some value) default = Some value
value_or None default = default

-- one decimal digit or more
abbrev pub is_numeral : Text → Bool
is_numeral text = nat_lt 0 (length text) && list_all (λ d. nat_lt (digit_value d) 10) text

-- a whole number from 1 to `most`. A plus may stand before its digits.
abbrev pub is_number : ℕ → Text → Bool
is_number most text = is_numeral (without_leading_plus text)
    && (nat_le 1 (digits_value 10 (without_leading_plus text)) && nat_le (digits_value 10 (without_leading_plus text)) most)

-- an option of this kind takes the value
abbrev pub passes : Kind → Text → Bool
passes flag value = true
passes any_text value = true
passes (number most) value = is_number most value
passes help value = true
passes version value = true

-- each option is given at most once, and takes its value
abbrev pub are_lawful : List Use → Bool
are_lawful [] = true
are_lawful (u ∷ before) = are_lawful before && (not (is_given u.option.name before) && passes u.option.kind u.value)

-- said, if what was given before is lawful
abbrev pub if_lawful : List Use → Said → Said
if_lawful before said = if are_lawful before then said else wrong

-- the option has a value
abbrev pub takes_value : Kind → Bool
takes_value flag = false
takes_value any_text = true
takes_value (number most) = true
takes_value help = false
takes_value version = false

-- one use more
abbrev pub used : Known → Text → List Use → List Use
used o value before = record { option = o; value = value } ∷ before

-- what the words that follow say, by the option whose value comes next, if there is one, and what was given before
abbrev pub Rest : Type 0
Rest = Option Known → List Use → Said

-- `--NAME`
abbrev pub alone_says : Known → Kind → List Use → Rest → Said
alone_says o flag before rest = rest None (used o [] before)
alone_says o any_text before rest = rest (Some o) before
alone_says o (number most) before rest = rest (Some o) before
alone_says o help before rest = if_lawful before asks_help
alone_says o version before rest = if_lawful before asks_version

-- `--NAME=VALUE`
abbrev pub joined_says : Known → Text → List Use → Rest → Said
joined_says o value before rest = if takes_value o.kind then rest None (used o value before) else wrong

-- a word that begins with two hyphens: the option of its name, if there is one, alone or with a value
abbrev pub long_says : Option Known → Option Text → List Use → Rest → Said
long_says None value before rest = wrong
long_says (Some o) None before rest = alone_says o o.kind before rest
long_says (Some o) (Some value) before rest = joined_says o value before rest

-- `-LETTER`; what follows the letter of a request is not read
abbrev pub letter_says : Option Known → List Use → Said
letter_says None before = wrong
letter_says (Some o) before = alone_says o o.kind before (λ _ _. wrong)

-- the letter of a word that begins with one hyphen
abbrev pub letter_of : Text → Option ℕ
letter_of word = option_and_then (λ letters. slice_get (chars letters) 0) (short_of word)

-- the word is no value of the option before it, but an option itself or `--`
abbrev pub is_option_word : Text → Bool
is_option_word word = bytes_eq word (codes "--") || (is_some (long_of word) || is_some (letter_of word))

-- no word follows
abbrev pub is_last : List Text → Bool
is_last [] = true
is_last (word ∷ rest) = false

module _ (options : List Known) where
  -- the option that is written `--NAME`
  abbrev pub option_named : Text → Option Known
  option_named name = find (λ o. bytes_eq o.name name) options

  -- the option that is also written `-` and this letter
  abbrev pub option_of_letter : ℕ → Option Known
  option_of_letter letter = find (λ o. option_map_or (λ l. l == letter) o.letter false) options

  -- a word with one hyphen, or none
  abbrev pub other_says : Option ℕ → List Use → Said
  other_says None before = wrong
  other_says (Some letter) before = letter_says (option_of_letter letter) before

  -- a word with two hyphens, by its name and the value behind an equals sign; or another word
  abbrev pub option_says : Text → Option (Text × Option Text) → List Use → Rest → Said
  option_says word None before rest = other_says (letter_of word) before
  option_says word (Some name) before rest = long_says (option_named name.0) name.1 before rest

  -- a word where no value is awaited. Nothing may follow a word `--`.
  abbrev pub word_says : Text → Bool → List Use → Rest → Said
  word_says word is_end before rest =
      if bytes_eq word (codes "--") then (if is_end then if_lawful before (gives before) else wrong)
      else option_says word (long_of word) before rest

  -- what the words say, by the option whose value comes first, if there is one, and what was given before
  unfoldable pub said_after : List Text → Option Known → List Use → Said
  said_after [] None before = if_lawful before (gives before)
  said_after [] (Some o) before = wrong
  said_after (word ∷ rest) None before = word_says word (is_last rest) before (said_after rest)
  said_after (word ∷ rest) (Some o) before = if is_option_word word then wrong else said_after rest None (used o word before)

  -- what words say
  abbrev pub said : List Text → Said
  said words = said_after words None []
