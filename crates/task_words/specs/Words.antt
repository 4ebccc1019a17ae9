-- What words stand for: the table of the command's options, and the task or the first fault by what is given.
use Rattle.std.specs.Prelude.{◌≡◌, ◌≢◌, ◌||◌, ◌++◌, ⊤, ℕ, Bool, true, false, not, List, [], ◌∷◌, Option, Some, None, codes}
use Rattle.std.specs.Prelude.{find}
use Rattle.std.specs.Prelude.{Err, Ok, Result, if◌then◌else◌, is_some, option_and_then, option_map}
use Rattle.std.specs.Str.{bytes_eq}
use Rattle.std.specs.Str.Parse.{digits_value, without_leading_plus}
use Rattle.clap.specs.Values.{kind_of}
use Rattle.clap.specs.declared.error.kind.ErrorKind.TheVariants.{OutOfMemory}
use Rattle.geometry.specs.declared.limits.TheConstants.{STEP_LIMIT}
use Rattle.stripe_claims.specs.declared.limits.TheConstants.{PASS_LIMIT}
use Rattle.layer_png.specs.declared.depth.Depth.{Depth}
use Rattle.micro_num.specs.declared.unit.Unit.{Unit as LengthUnit}
use Rattle.raster.specs.declared.rule.Rule.{Rule}
use Rattle.task_words.specs.Options.{Asked, Kind, Known, Said, Text, Use, any_text, asked_by, asks_for_help, asks_for_version}
use Rattle.task_words.specs.Options.{asks_help, asks_nothing}
use Rattle.task_words.specs.Options.{asks_version, flag, gives, help, is_given, number, option_named, said, value_or, version}
use Rattle.task_words.specs.Options.{wrong}
use Rattle.task_words.specs.Texts.{depth_named, grid_in, rule_named, unit_named, voxel_in}
use Rattle.task_words.specs.declared.task.Given.{Given}
use Rattle.task_words.specs.declared.task.Task.{Task}
use Rattle.task_words.specs.declared.task.Task.TheVariants as task
use Rattle.task_words.specs.declared.texts.Voxel.{Voxel}
use Rattle.task_words.specs.declared.word_fault.PngOption.{PngOption}
use Rattle.task_words.specs.declared.word_fault.PngOption.TheVariants as png_option
use Rattle.task_words.specs.declared.word_fault.Wanted.{Wanted}
use Rattle.task_words.specs.declared.word_fault.Wanted.TheVariants as wanted
use Rattle.task_words.specs.declared.word_fault.WordFault.{WordFault}
use Rattle.task_words.specs.declared.word_fault.WordFault.TheVariants as fault

-- ---- the options

-- an option without a letter
abbrev pub row : Text → Kind → Option Text → Known
row name kind default = record { name = name; letter = None; kind = kind; default = default }

-- the options that say what to do, with their defaults
abbrev pub settings : List Known
settings =
    row (codes "pitch") (number STEP_LIMIT) None
    ∷ row (codes "layer") (number STEP_LIMIT) None
    ∷ row (codes "rule") any_text (Some (codes "evenodd"))
    ∷ row (codes "unit") any_text (Some (codes "mm"))
    ∷ row (codes "grid") any_text None
    ∷ row (codes "workers") (number PASS_LIMIT) (Some (codes "1"))
    ∷ row (codes "png") flag None
    ∷ row (codes "depth") any_text (Some (codes "8"))
    ∷ row (codes "mirror-x") flag None
    ∷ row (codes "mirror-y") flag None
    ∷ row (codes "report") flag None
    ∷ row (codes "box") flag None
    ∷ row (codes "probe") any_text None
    ∷ row (codes "progress") flag None
    ∷ []

-- all options: `-h` is `--help`, and `-V` is `--version`
abbrev pub options : List Known
options = settings
    ++ record { name = codes "help"; letter = Some 104; kind = help; default = None }
    ∷ record { name = codes "version"; letter = Some 86; kind = version; default = None }
    ∷ []

-- ---- what is given

-- the value that is given for an option
abbrev pub given_value : Text → List Use → Option Text
given_value name uses = option_map (λ u. u.value) (find (λ u. bytes_eq u.option.name name) uses)

-- the value of an option, which is its default if it is not given
abbrev pub value_of : Text → List Use → Option Text
value_of name uses = value_or (given_value name uses) (option_and_then (λ o. o.default) (option_named options name))

-- a number's text as a number
abbrev pub number_of : Text → ℕ
number_of text = digits_value 10 (without_leading_plus text)

-- the number that is the value of an option
abbrev pub number_given : Text → List Use → Option ℕ
number_given name uses = option_map number_of (value_of name uses)

-- `None` if the text is wrong, and `Some None` if there is none
abbrev pub if_given : {T : Type 0} → (Text → Option T) → Option Text → Option (Option T)
if_given read None = Some None
if_given read (Some text) = option_map (λ t. Some t) (read text)

-- the rule, if its text names one
abbrev pub rule_given : List Use → Option Rule
rule_given uses = option_and_then rule_named (value_of (codes "rule") uses)

-- the unit, if its text names one
abbrev pub unit_given : List Use → Option LengthUnit
unit_given uses = option_and_then unit_named (value_of (codes "unit") uses)

-- the grid, if one is given, and if its text is one
abbrev pub grid_given : List Use → Option (Option Given)
grid_given uses = if_given grid_in (value_of (codes "grid") uses)

-- the voxel, if one is given, and if its text is one
abbrev pub voxel_given : List Use → Option (Option Voxel)
voxel_given uses = if_given voxel_in (value_of (codes "probe") uses)

-- the depth, if its text is one
abbrev pub depth_given : List Use → Option Depth
depth_given uses = option_and_then depth_named (value_of (codes "depth") uses)

-- ---- faults

-- this fault, unless what it is about is right
abbrev pub unless : Bool → WordFault → Option WordFault
unless right wrong_so = if right then None else Some wrong_so

-- the first option of PNGs that is given
abbrev pub png_option_given : List Use → Option PngOption
png_option_given uses =
    if is_given (codes "depth") uses then Some png_option.Depth
    else (if is_given (codes "mirror-x") uses then Some png_option.MirrorX
    else (if is_given (codes "mirror-y") uses then Some png_option.MirrorY else None))

-- an option of PNGs is given, and `--png` is not
abbrev pub without_png : List Use → Option WordFault
without_png uses = if is_given (codes "png") uses then None else option_map (λ o. fault.WithoutPng o) (png_option_given uses)

-- every task but the box needs the option
abbrev pub missing : Text → Wanted → List Use → Option WordFault
missing name option uses = unless (is_given (codes "box") uses || is_given name uses) (fault.Missing option)

-- the first fault of a list, if there is one
abbrev pub first_of : List (Option WordFault) → Option WordFault
first_of [] = None
first_of (None ∷ rest) = first_of rest
first_of (Some first ∷ rest) = Some first

-- the first fault of what is given, in the order in which faults are told
abbrev pub first_fault : List Use → Option WordFault
first_fault uses = first_of (unless (is_some (rule_given uses)) fault.BadRule
    ∷ unless (is_some (unit_given uses)) fault.BadUnit
    ∷ unless (is_some (grid_given uses)) fault.BadGrid
    ∷ unless (is_some (voxel_given uses)) fault.BadProbe
    ∷ unless (is_some (depth_given uses)) fault.BadDepth
    ∷ without_png uses
    ∷ missing (codes "pitch") wanted.Pitch uses
    ∷ missing (codes "layer") wanted.Layer uses
    ∷ [])

-- ---- tasks

-- pitch, layer height, unit and grid are those that are given
pub record HasGrid (uses : List Use) (unit : LengthUnit) (pitch layer : ℕ) (grid : Option Given) : Type 0 where
  pub unit_is : unit_given uses ≡ Some unit
  pub pitch_is : number_given (codes "pitch") uses ≡ Some pitch
  pub layer_is : number_given (codes "layer") uses ≡ Some layer
  pub grid_is : grid_given uses ≡ Some grid

-- all layers are sliced, since no box and no probe is asked for
pub record Slices (uses : List Use) (rule : Rule) (workers : ℕ) : Type 0 where
  pub no_box : is_given (codes "box") uses ≡ false
  pub no_probe : voxel_given uses ≡ Some None
  pub rule_is : rule_given uses ≡ Some rule
  pub workers_are : number_given (codes "workers") uses ≡ Some workers

-- the task that is given: the box goes before the probe, the probe before the report, and the report before PNGs
abbrev pub IsTaskOf : List Use → Task → Type 0
IsTaskOf uses (task.Box unit) = (is_given (codes "box") uses ≡ true) × (unit_given uses ≡ Some unit)
IsTaskOf uses (task.Probe unit pitch layer grid i j k) =
    (is_given (codes "box") uses ≡ false)
    × (voxel_given uses ≡ Some (Some (record { i = i; j = j; k = k })))
    × HasGrid uses unit pitch layer grid
IsTaskOf uses (task.Slice unit pitch layer rule workers report grid) =
    HasGrid uses unit pitch layer grid × Slices uses rule workers
    × (report ≡ is_given (codes "report") uses)
    × ((report || not (is_given (codes "png") uses)) ≡ true)
IsTaskOf uses (task.Png unit pitch layer rule workers grid depth mirrors) =
    HasGrid uses unit pitch layer grid × Slices uses rule workers
    × (is_given (codes "report") uses ≡ false)
    × (is_given (codes "png") uses ≡ true)
    × (depth_given uses ≡ Some depth)
    × (mirrors.x ≡ is_given (codes "mirror-x") uses)
    × (mirrors.y ≡ is_given (codes "mirror-y") uses)

-- the words give the task, and nothing in them is wrong
abbrev pub StandFor : List Text → Task → Type 0
StandFor words t = (uses : List Use) × (said options words ≡ gives uses) × (first_fault uses ≡ None) × IsTaskOf uses t

-- ---- what is told of words that stand for no task

-- what a refusal answers is what the words ask for
abbrev pub Answers : Said → Asked → Type 0
Answers (gives uses) asked = ⊥
Answers asks_help asked = asked ≡ asks_for_help
Answers asks_version asked = asked ≡ asks_for_version
Answers wrong asked = asked ≡ asks_nothing

-- the words are uses of options, and this is the first fault of what they give
abbrev pub IsFirstFault : List Text → WordFault → Type 0
IsFirstFault words first = (uses : List Use) × (said options words ≡ gives uses) × (first_fault uses ≡ Some first)

-- the fault is the one of the words; of `Memory` nothing is said
abbrev pub IsFaultOfWords : List Text → WordFault → Type 0
IsFaultOfWords words (fault.Refused refusal) =
    (kind_of refusal ≢ OutOfMemory) × Answers (said options words) (asked_by (kind_of refusal))
IsFaultOfWords words fault.Memory = ⊤
IsFaultOfWords words (fault.Missing option) = IsFirstFault words (fault.Missing option)
IsFaultOfWords words fault.BadRule = IsFirstFault words fault.BadRule
IsFaultOfWords words fault.BadUnit = IsFirstFault words fault.BadUnit
IsFaultOfWords words fault.BadGrid = IsFirstFault words fault.BadGrid
IsFaultOfWords words fault.BadProbe = IsFirstFault words fault.BadProbe
IsFaultOfWords words fault.BadDepth = IsFirstFault words fault.BadDepth
IsFaultOfWords words (fault.WithoutPng option) = IsFirstFault words (fault.WithoutPng option)

-- `--progress`, which is no part of the task
abbrev pub is_progress_word : Text → Bool
is_progress_word word = bytes_eq word (codes "--progress")

-- ---- steps of the reading

-- a value, or the fault if there is none
abbrev pub told : {T : Type 0} → Option T → WordFault → Result T WordFault
told (Some value) fault = Ok value
told None fault = Err fault

-- a fault of an option
abbrev pub IsOptionFault : WordFault → Type 0
IsOptionFault (fault.Refused refusal) = ⊥
IsOptionFault fault.Memory = ⊥
IsOptionFault (fault.Missing option) = ⊤
IsOptionFault fault.BadRule = ⊤
IsOptionFault fault.BadUnit = ⊤
IsOptionFault fault.BadGrid = ⊤
IsOptionFault fault.BadProbe = ⊤
IsOptionFault fault.BadDepth = ⊤
IsOptionFault (fault.WithoutPng option) = ⊤
