-- What a parse of the command comes to, by what the words say.
use Rattle.std.proofs.Common.{⊎_elim, ◌≡◌, ◌≢◌, ◌∙◌, ℕ, Bool, cond, true, false, refl, sym, ap, subst, List, [], ◌∷◌, map, Option, Some, None, Result, Ok, Err, codes}
use Rattle.std.specs.Prelude.{IfErr, IfOk, IfSome, find, fold, option_and_then, option_map}
use Rattle.std.specs.List.{list_all}
use Rattle.std.specs.Str.{bytes_eq}
use Rattle.clap.specs.Faults.{fault_of, is_simple_and_free}
use Rattle.clap.specs.Kinds.{HasKind, IsAmong, Kinds}
use Rattle.clap.specs.Matches.{first_value, found_of, matched_of}
use Rattle.clap.specs.Simple.{App, HasMatchesOf, Shape, app_of, built, is_simple, matches_of}
use Rattle.clap.specs.Walk.{Row, Text, first_of, one_of, row_of, rows_of, with_default}
use Rattle.clap.proofs.WalkLemmas.{first_value-rows, one_text-rows}
use Rattle.clap.specs.declared.parser.matches.ArgMatches.{ArgMatches}
use Rattle.clap.specs.declared.parser.matches.Found.{Found}
use Rattle.task_words.specs.Command.{command_with}
use Rattle.task_words.specs.Matches.{Holds, HoldsFlag, HoldsNumber}
use Rattle.task_words.specs.Options.{Said, Use, any_text, are_lawful, asked_by, asks_help, asks_version, flag, gives, is_number, number as number_kind, option_named, said, value_or, wrong}
use Rattle.task_words.specs.Words.{options, settings}
use Rattle.clap.specs.Facts.{Entry}
use Rattle.clap.specs.Walk.{idle}
use Rattle.clap.specs.declared.error.kind.ErrorKind.{ErrorKind}
use Rattle.clap.specs.declared.parser.matches.MatchedArg.{MatchedArg}
use Rattle.geometry.specs.declared.limits.TheConstants.{STEP_LIMIT}
use Rattle.stripe_claims.specs.declared.limits.TheConstants.{PASS_LIMIT}
use Rattle.clap.specs.Values.{kind_of}
use Rattle.clap.specs.declared.builder.command.Command.{Command}
use Rattle.clap.specs.declared.error.Error.{Error}
use Rattle.clap.specs.declared.error.kind.ErrorKind.TheVariants.{OutOfMemory}
use Rattle.task_words.specs.Words.{Answers, IsFaultOfWords, IsOptionFault, IsTaskOf, StandFor, first_fault}
use Rattle.task_words.specs.declared.task.Task.{Task}
use Rattle.task_words.specs.declared.word_fault.WordFault.{WordFault}
use Rattle.task_words.specs.declared.word_fault.WordFault.TheVariants as fault
use Rattle.task_words.proofs.Matching.{AreKnown, Told, at, defaults_by, fits_clap, has_fitting_default, known, parse_told, rest_rows, rule_for, table_app}
use Rattle.task_words.proofs.Rows.{default_at, end_rows, flag_held, number_held, number_right, row_at, rows_by_default, source_held, text_held, value_given}

-- the source of an id, by its row
source_at_row : (f : Found) (name : Text) → option_and_then (λ a. a.source) (matched_of f name) ≡ option_and_then (λ (r : Row). r.source) (row_at name (rows_of f))
source_at_row f name = go f.entries.items
  where
    one : (e : Entry) (b : Bool) (o : Option Entry) (r : Option Row) → option_and_then (λ (a : MatchedArg). a.source) (option_map (λ x. x.1) o) ≡ option_and_then (λ (x : Row). x.source) r
        → option_and_then (λ (a : MatchedArg). a.source) (option_map (λ x. x.1) (cond b (Some e) o)) ≡ option_and_then (λ (x : Row). x.source) (cond b (Some (row_of e)) r)
    one e true o r h = refl
    one e false o r h = h

    go : (es : List Entry) → option_and_then (λ (a : MatchedArg). a.source) (option_map (λ e. e.1) (find (λ e. bytes_eq e.0.now name) es)) ≡ option_and_then (λ (r : Row). r.source) (row_at name (map row_of es))
    go [] = refl
    go (e ∷ es) = one e (bytes_eq e.0.now name) _ _ (go es)

abbrev pub command_app : App
command_app = command_with settings

simple : is_simple_and_free command_app ≡ true
simple = refl

is_plain : is_simple command_app ≡ true
is_plain = refl

fits : list_all fits_clap options ≡ true
fits = refl

defaults : list_all has_fitting_default options ≡ true
defaults = refl

abbrev top : Shape
top = (built command_app).top

built_is : built command_app ≡ table_app top options fits defaults refl refl
built_is = refl

abbrev HasNoFault : Kinds → Type 0
HasNoFault kinds = kinds ≡ []

abbrev Parsed : List Text → List Row → Type 0
Parsed words rows = Told options (fault_of command_app words) rows (said options words)

abbrev rows_before : List Text → List Row
rows_before words = rest_rows top options fits (at top options fits [] None idle) words

parsed : (words : List Text) → Parsed words (rows_before words)
parsed words = parse_told top options fits defaults refl refl words

rows_are : (words : List Text) → matches_of command_app words ≡ fold with_default (rows_before words) (map rule_for options)
rows_are words = refl

-- what is given, where the parse succeeds
pub given : (words : List Text) → fault_of command_app words ≡ []
    → (uses : List Use) × (said options words ≡ gives uses) × (are_lawful uses ≡ true) × AreKnown options uses × (matches_of command_app words ≡ end_rows options uses)
given words none = go (said options words) refl (parsed words)
  where
    go : (s : Said) → said options words ≡ s → Told options (fault_of command_app words) (rows_before words) s
        → (uses : List Use) × (said options words ≡ gives uses) × (are_lawful uses ≡ true) × AreKnown options uses × (matches_of command_app words ≡ end_rows options uses)
    go (gives uses) is t = (uses, is, t.2, t.3, rows_are words ∙ ap (λ r. fold with_default r (map rule_for options)) t.1)
    go asks_help is t = let bad = sym none ∙ t in cc
    go asks_version is t = let bad = sym none ∙ t in cc
    go wrong is t = let bad = sym none ∙ t.1 in cc

-- what an error answers is what the words ask for
pub answered : (words : List Text) (k : ErrorKind) → IsAmong k (fault_of command_app words) → Answers (said options words) (asked_by k)
answered words k among = go (said options words) (parsed words)
  where
    one : (x : ErrorKind) → fault_of command_app words ≡ x ∷ [] → k ≡ x
    one x e = ⊎_elim (λ h. h) (λ h. absurd h) (subst (IsAmong k) e among)

    go : (s : Said) → Told options (fault_of command_app words) (rows_before words) s → Answers s (asked_by k)
    go (gives uses) t = subst (IsAmong k) t.0 among
    go asks_help t = ap asked_by (one _ t)
    go asks_version t = ap asked_by (one _ t)
    go wrong t = ap asked_by (one t.0 t.1) ∙ t.2

-- what the matches hold
pub held : (m : ArgMatches) (uses : List Use) → are_lawful uses ≡ true → AreKnown options uses → rows_of (found_of m) ≡ end_rows options uses → Holds m uses
held m uses lawful all rows = record {
  pitch = number (codes "pitch") STEP_LIMIT None refl refl tt;
  layer = number (codes "layer") STEP_LIMIT None refl refl tt;
  workers = number (codes "workers") PASS_LIMIT (Some (codes "1")) refl refl refl;
  rule = text (codes "rule") (Some (codes "evenodd")) refl refl;
  unit = text (codes "unit") (Some (codes "mm")) refl refl;
  grid = text (codes "grid") None refl refl;
  probe = text (codes "probe") None refl refl;
  depth = text (codes "depth") (Some (codes "8")) refl refl;
  depth_source = source_at_row (found_of m) (codes "depth") ∙ ap (λ r. option_and_then (λ (x : Row). x.source) (row_at (codes "depth") r)) rows
      ∙ source_held options uses lawful all (codes "depth") (codes "8") refl refl;
  png = flagged (codes "png") refl refl;
  mirror_x = flagged (codes "mirror-x") refl refl;
  mirror_y = flagged (codes "mirror-y") refl refl;
  report = flagged (codes "report") refl refl;
  box = flagged (codes "box") refl refl;
}
  where
    text : (name : Text) (d : Option Text) → option_named options name ≡ Some (known any_text name None d)
        → default_at name options ≡ rows_by_default (known any_text name None d) (defaults_by any_text d)
        → first_value (found_of m) name ≡ value_or (value_given name uses) d
    text name d found def = first_value-rows (found_of m) name ∙ ap (first_of name) rows ∙ text_held options uses lawful all name d found def

    number : (name : Text) (most : ℕ) (d : Option Text) → option_named options name ≡ Some (known (number_kind most) name None d)
        → default_at name options ≡ rows_by_default (known (number_kind most) name None d) (defaults_by (number_kind most) d) → IfSome d (λ v. is_number most v ≡ true)
        → HoldsNumber m name most (value_or (value_given name uses) d)
    number name most d found def right = (
      one_text-rows (found_of m) name ∙ ap (one_of name) rows ∙ number_held options uses lawful all name most d found def,
      number_right options uses lawful all name most d found right,
    )

    flagged : (name : Text) → option_named options name ≡ Some (known flag name None None) → default_at name options ≡ rows_by_default (known flag name None None) (codes "false" ∷ [])
        → HoldsFlag m name uses
    flagged name found def = one_text-rows (found_of m) name ∙ ap (one_of name) rows ∙ flag_held options uses lawful all name found def

-- ---- what `read_words` makes of a parse

pub read_ok : (command : Command) (words : List Text) (m : ArgMatches) → app_of command ≡ command_app
    → (is_simple_and_free (app_of command) ≡ true → fault_of (app_of command) words ≡ []) → HasMatchesOf (app_of command) words m
    → (uses : List Use) × (said options words ≡ gives uses) × Holds m uses
read_ok command words m is none matches =
    let found = given words (sym (ap (λ a. fault_of a words) is) ∙ none (ap is_simple_and_free is ∙ simple)) in
    let rows = (matches (ap is_simple is ∙ is_plain)).0 ∙ ap (λ a. matches_of a words) is in
    (found.0, found.1, held m found.0 found.2 found.3 (rows ∙ found.4))

pub stands : (words : List Text) (uses : List Use) (r : Result Task WordFault) → said options words ≡ gives uses
    → IfOk r (λ t. (first_fault uses ≡ None) × IsTaskOf uses t) → IfOk r (StandFor words)
stands words uses (Ok t) is h = (uses, is, h.0, h.1)
stands words uses (Err f) is h = h

told_fault : (words : List Text) (uses : List Use) (f : WordFault) → said options words ≡ gives uses → IsOptionFault f → first_fault uses ≡ Some f → IsFaultOfWords words f
told_fault words uses (fault.Refused refusal) is o h = absurd o
told_fault words uses fault.Memory is o h = tt
told_fault words uses (fault.Missing option) is o h = (uses, is, h)
told_fault words uses fault.BadRule is o h = (uses, is, h)
told_fault words uses fault.BadUnit is o h = (uses, is, h)
told_fault words uses fault.BadGrid is o h = (uses, is, h)
told_fault words uses fault.BadProbe is o h = (uses, is, h)
told_fault words uses fault.BadDepth is o h = (uses, is, h)
told_fault words uses (fault.WithoutPng option) is o h = (uses, is, h)

pub tells : (words : List Text) (uses : List Use) (r : Result Task WordFault) → said options words ≡ gives uses
    → IfErr r IsOptionFault → IfErr r (λ f. first_fault uses ≡ Some f) → IfErr r (IsFaultOfWords words)
tells words uses (Ok t) is o h = h
tells words uses (Err f) is o h = told_fault words uses f is o h

-- the fault that a refusal becomes
abbrev Becomes : Error → WordFault → Type 0
Becomes e f = (kind_of e ≡ OutOfMemory → f ≡ fault.Memory) × (kind_of e ≢ OutOfMemory → f ≡ fault.Refused e)

no_other : (e : Error) (f : WordFault) → Becomes e f → f ≢ fault.Memory → f ≡ fault.Refused e
no_other e f b away = b.1 (λ h. away (b.0 h))

pub refused : (words : List Text) (e : Error) (f : WordFault) → Becomes e f → HasKind (fault_of command_app words) e → IsFaultOfWords words f
refused words e (fault.Refused refusal) b kinds =
    let here : kind_of e ≢ OutOfMemory = λ h. let bad = b.0 h in cc in
    let same : refusal ≡ e = let is = b.1 here in cc in
    subst (λ (x : Error). (kind_of x ≢ OutOfMemory) × Answers (said options words) (asked_by (kind_of x))) (sym same)
    (here, ⊎_elim (λ h. absurd (here h)) (λ among. answered words (kind_of e) among) kinds)
refused words e fault.Memory b kinds = tt
refused words e (fault.Missing option) b kinds = let bad = no_other e _ b (λ h. cc) in cc
refused words e fault.BadRule b kinds = let bad = no_other e _ b (λ h. cc) in cc
refused words e fault.BadUnit b kinds = let bad = no_other e _ b (λ h. cc) in cc
refused words e fault.BadGrid b kinds = let bad = no_other e _ b (λ h. cc) in cc
refused words e fault.BadProbe b kinds = let bad = no_other e _ b (λ h. cc) in cc
refused words e fault.BadDepth b kinds = let bad = no_other e _ b (λ h. cc) in cc
refused words e (fault.WithoutPng option) b kinds = let bad = no_other e _ b (λ h. cc) in cc

pub refused_by : (command : Command) (words : List Text) (e : Error) (f : WordFault) → app_of command ≡ command_app
    → (is_simple_and_free (app_of command) ≡ true → HasKind (fault_of (app_of command) words) e) → Becomes e f → IsFaultOfWords words f
refused_by command words e f is kinds b = refused words e f b (subst (λ a. HasKind (fault_of a words) e) is (kinds (ap is_simple_and_free is ∙ simple)))
