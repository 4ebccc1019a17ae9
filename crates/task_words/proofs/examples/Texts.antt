-- Worked texts of option values, and lines of faults.
use Rattle.std.proofs.Common.{◌≡◌, ◌∷◌, [], refl, true, false}
use Rattle.std.specs.Prelude.{codes, Some, None, pos, negsuc}
use Rattle.layer_png.specs.declared.depth.Depth.TheVariants as depth
use Rattle.micro_num.specs.declared.unit.Unit.TheVariants as unit
use Rattle.raster.specs.declared.rule.Rule.TheVariants as rule
use Rattle.task_words.specs.Options.{is_number, is_numeral}
use Rattle.task_words.specs.Texts.{coordinate_in, count_in, depth_named, fields, grid_in, is_near, rule_named, unit_named, voxel_in}
use Rattle.task_words.specs.WordFault.{word_fault_text}
use Rattle.task_words.specs.declared.word_fault.PngOption.TheVariants as png_option
use Rattle.task_words.specs.declared.word_fault.WordFault.TheVariants as fault

plus_and_zeros : is_number 64 (codes "+007") ≡ true
plus_and_zeros = refl

zero_workers : is_number 64 (codes "0") ≡ false
zero_workers = refl

one_worker_too_many : is_number 64 (codes "65") ≡ false
one_worker_too_many = refl

no_digit : is_numeral [] ≡ false
no_digit = refl

a_rule : rule_named (codes "nonzero") ≡ Some rule.NonZero
a_rule = refl

rule_in_capitals : rule_named (codes "NonZero") ≡ None
rule_in_capitals = refl

a_unit : unit_named (codes "inch") ≡ Some unit.Inch
a_unit = refl

a_depth : depth_named (codes "1") ≡ Some depth.One
a_depth = refl

no_depth : depth_named (codes "2") ≡ None
no_depth = refl

leading_zeros : count_in (codes "007") ≡ Some 7
leading_zeros = refl

ten_digits : count_in (codes "0000000001") ≡ None
ten_digits = refl

count_with_a_plus : count_in (codes "+7") ≡ None
count_with_a_plus = refl

below_zero : coordinate_in (codes "-5000") ≡ Some (negsuc 4999)
below_zero = refl

nothing_between_commas : fields (codes "1,,2") ≡ codes "1" ∷ [] ∷ codes "2" ∷ []
nothing_between_commas = refl

beyond_the_range : is_near (pos 128000001) ≡ false
beyond_the_range = refl

a_voxel : voxel_in (codes "1,2,3") ≡ Some (record { i = 1; j = 2; k = 3 })
a_voxel = refl

five_numbers : grid_in (codes "4,3,2,0,0") ≡ None
five_numbers = refl

corner_beyond_the_range : grid_in (codes "4,3,2,0,0,128000001") ≡ None
corner_beyond_the_range = refl

line_of_a_rule : word_fault_text fault.BadRule ≡ Some (codes "stlslice: --rule takes evenodd, nonzero or positive")
line_of_a_rule = refl

line_of_a_mirror : word_fault_text (fault.WithoutPng png_option.MirrorX) ≡ Some (codes "stlslice: --mirror-x goes with --png")
line_of_a_mirror = refl
