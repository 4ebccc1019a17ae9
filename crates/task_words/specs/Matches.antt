-- What the matches of the command hold, by what is given.
use Rattle.std.specs.Prelude.{◌≡◌, ℕ, Bool, true, List, Option, Some, IfSome, codes, if◌then◌else◌, option_and_then, option_map}
use Rattle.clap.specs.Lexer.{without_minus}
use Rattle.clap.specs.Matches.{first_value, found_of, matched_of, one_text}
use Rattle.clap.specs.declared.parser.matches.ArgMatches.{ArgMatches}
use Rattle.clap.specs.declared.parser.matches.ValueSource.{ValueSource}
use Rattle.clap.specs.declared.parser.matches.ValueSource.TheVariants.{CommandLine, DefaultValue}
use Rattle.geometry.specs.declared.limits.TheConstants.{STEP_LIMIT}
use Rattle.stripe_claims.specs.declared.limits.TheConstants.{PASS_LIMIT}
use Rattle.task_words.specs.Options.{Text, Use, is_given, is_number}
use Rattle.task_words.specs.Words.{value_of}

-- a text as it is given, or its default
abbrev pub HoldsText : ArgMatches → Text → List Use → Type 0
HoldsText m name uses = first_value (found_of m) name ≡ value_of name uses

-- a number up to `most`, if there is one
abbrev pub HoldsNumber : ArgMatches → Text → ℕ → Option Text → Type 0
HoldsNumber m name most value =
    (one_text (found_of m) name ≡ option_map without_minus value) × IfSome value (λ v. is_number most v ≡ true)

abbrev pub flag_text : Bool → Text
flag_text given = if given then codes "true" else codes "false"

-- whether a flag is given
abbrev pub HoldsFlag : ArgMatches → Text → List Use → Type 0
HoldsFlag m name uses = one_text (found_of m) name ≡ Some (flag_text (is_given name uses))

abbrev pub source_of : Bool → ValueSource
source_of given = if given then CommandLine else DefaultValue

pub record Holds (m : ArgMatches) (uses : List Use) : Type 0 where
  pub pitch : HoldsNumber m (codes "pitch") STEP_LIMIT (value_of (codes "pitch") uses)
  pub layer : HoldsNumber m (codes "layer") STEP_LIMIT (value_of (codes "layer") uses)
  pub workers : HoldsNumber m (codes "workers") PASS_LIMIT (value_of (codes "workers") uses)
  pub rule : HoldsText m (codes "rule") uses
  pub unit : HoldsText m (codes "unit") uses
  pub grid : HoldsText m (codes "grid") uses
  pub probe : HoldsText m (codes "probe") uses
  pub depth : HoldsText m (codes "depth") uses
  pub depth_source : option_and_then (λ a. a.source) (matched_of (found_of m) (codes "depth"))
      ≡ Some (source_of (is_given (codes "depth") uses))
  pub png : HoldsFlag m (codes "png") uses
  pub mirror_x : HoldsFlag m (codes "mirror-x") uses
  pub mirror_y : HoldsFlag m (codes "mirror-y") uses
  pub report : HoldsFlag m (codes "report") uses
  pub box : HoldsFlag m (codes "box") uses
