-- What `clap` reads of the command before it is built.
use Rattle.std.specs.Prelude.{ℕ, true, List, [], ◌∷◌, Option, Some, None, codes, map, pos}
use Rattle.clap.specs.Simple.{App, new_app, new_rule, new_shape}
use Rattle.clap.specs.Walk.{Rule}
use Rattle.clap.specs.declared.builder.action.ArgAction.{ArgAction}
use Rattle.clap.specs.declared.builder.action.ArgAction.TheVariants as action
use Rattle.clap.specs.declared.builder.value_parser.ValueParser.{ValueParser}
use Rattle.clap.specs.declared.builder.value_parser.ValueParser.TheVariants as parser
use Rattle.task_words.specs.Options.{Kind, Known, Text, any_text, flag, help, number, version}

abbrev pub action_for : Kind → Option ArgAction
action_for flag = Some action.SetTrue
action_for any_text = None
action_for (number most) = None
action_for help = Some action.Help
action_for version = Some action.Version

-- how many names of values the help shows
abbrev pub names_for : Kind → ℕ
names_for flag = 0
names_for any_text = 1
names_for (number most) = 1
names_for help = 0
names_for version = 0

abbrev pub parser_for : Kind → Option ValueParser
parser_for flag = None
parser_for any_text = None
parser_for (number most) = Some (parser.Signed (pos 1) (pos most))
parser_for help = None
parser_for version = None

abbrev pub defaults_for : Option Text → List Text
defaults_for None = []
defaults_for (Some text) = text ∷ []

-- an option as it is declared
abbrev pub declared : Known → Rule
declared o = record (new_rule o.name) {
  long = Some o.name;
  action = action_for o.kind;
  value_names = names_for o.kind;
  defaults = defaults_for o.default;
  parser = parser_for o.kind;
}

-- the command with these options
abbrev pub command_with : List Known → App
command_with options = record (new_app (codes "stlslice")) {
  top = record (new_shape (codes "stlslice")) { rules = map declared options; no_binary_name = true; has_version = true };
}
