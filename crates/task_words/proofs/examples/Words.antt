-- Worked words: what they say, which task they stand for, and the fault that is told first.
use Rattle.std.proofs.Common.{◌≡◌, ◌∷◌, [], refl, true}
use Rattle.std.specs.Prelude.{codes, Some, None}
use Rattle.layer_png.specs.declared.depth.Depth.TheVariants as depth
use Rattle.micro_num.specs.declared.unit.Unit.TheVariants as unit
use Rattle.raster.specs.declared.rule.Rule.TheVariants as rule
use Rattle.task_words.specs.Options.{asks_help, is_option_word, option_named, said, said_after, wrong}
use Rattle.task_words.specs.Words.{IsFirstFault, IsFaultOfWords, StandFor, depth_given, first_fault, grid_given, is_progress_word}
use Rattle.task_words.specs.Words.{number_given, number_of, options, rule_given, unit_given, value_of}
use Rattle.task_words.specs.declared.task.Task.TheVariants as task
use Rattle.task_words.specs.declared.word_fault.Wanted.TheVariants as wanted
use Rattle.task_words.specs.declared.word_fault.WordFault.TheVariants as fault

-- ---- what words say

help_behind_a_wrong_rule : said options (codes "--rule" ∷ codes "foo" ∷ codes "--help" ∷ []) ≡ asks_help
unfolding said_after
help_behind_a_wrong_rule = refl

help_behind_a_wrong_number : said options (codes "--pitch" ∷ codes "0" ∷ codes "--help" ∷ []) ≡ wrong
unfolding said_after
help_behind_a_wrong_number = refl

a_part_by_name : said options (codes "part.stl" ∷ []) ≡ wrong
unfolding said_after
a_part_by_name = refl

given_twice : said options (codes "--box" ∷ codes "--box" ∷ []) ≡ wrong
unfolding said_after
given_twice = refl

abbreviated : option_named options (codes "work") ≡ None
abbreviated = refl

option_in_place_of_a_value : is_option_word (codes "--layer") ≡ true
option_in_place_of_a_value = refl

progress : is_progress_word (codes "--progress") ≡ true
progress = refl

-- ---- defaults

one_worker : value_of (codes "workers") [] ≡ Some (codes "1")
one_worker = refl

no_pitch : number_given (codes "pitch") [] ≡ None
no_pitch = refl

plus_before_digits : number_of (codes "+050") ≡ 50
plus_before_digits = refl

even_odd : rule_given [] ≡ Some rule.EvenOdd
even_odd = refl

millimetres : unit_given [] ≡ Some unit.Millimetre
millimetres = refl

no_grid : grid_given [] ≡ Some None
no_grid = refl

eight_bits : depth_given [] ≡ Some depth.Eight
eight_bits = refl

-- ---- tasks and faults

box_in_inches : StandFor (codes "--box" ∷ codes "--unit=inch" ∷ []) (task.Box unit.Inch)
unfolding said_after
box_in_inches = (_, refl, refl, (refl, refl))

nothing_given : first_fault [] ≡ Some (fault.Missing wanted.Pitch)
nothing_given = refl

pitch_alone : IsFirstFault (codes "--pitch=50" ∷ []) (fault.Missing wanted.Layer)
unfolding said_after
pitch_alone = (_, refl, refl)

rule_before_what_is_missing : IsFaultOfWords (codes "--rule=foo" ∷ []) fault.BadRule
unfolding said_after
rule_before_what_is_missing = (_, refl, refl)
