use Rattle.std.proofs.Common.{◌≡◌, ◌+ℤ◌, ◌-ℤ◌, pos, if◌then◌else◌, int_lt, FitsSigned, refl, arith}
use Rattle.std.proofs.lemmas.Int.{to_z-of_z}
use mir.Syntax.{w128}
use Rattle.exact_int.specs.Bounds.{IsAtMost}
use Rattle.exact_int.proofs.lemmas.Sizes.{sizes, size_known, fits}
use Rattle.exact_cut.specs.Bounds.{unit_limit}
use Rattle.exact_cut.proofs.lemmas.DdaSteps.{excess, kept_in, remainder_in, stepped-next}
use Rattle.exact_cut.proofs.dda.stepped.Goals as goal

one_in_1 : IsAtMost 1 (pos 1)
one_in_1 = record { at_most = omega arith }

pub overflow_add-result-2 : goal.overflow_add-result-2
overflow_add-result-2 c =
    let h = c.requires.dda in
    let one_in : IsAtMost 1 c.if_negative-one.result = kept_in _ (pos 1) c.if_negative-one.ensures one_in_1 in
    fits w128 (search (sizes, c.requires.whole_in, h.increment_in, one_in) depth 40) refl

pub overflow_add-result-3 : goal.overflow_add-result-3
overflow_add-result-3 c =
    let s = c.args.d.now in
    let h = c.requires.dda in
    let remainder = remainder_in s.remainder s.unit h.not_negative h.below h.unit_in in
    let increment_remainder = remainder_in s.increment_remainder s.unit h.increment_not_negative h.increment_below h.unit_in in
    let f1 : FitsSigned w128 s.unit = fits w128 (size_known h.unit_in) refl in
    let unit_in : IsAtMost unit_limit c.if_negative-unit.result = kept_in _ s.unit (simp to_z-of_z at c.if_negative-unit.ensures) h.unit_in in
    fits w128 (search (sizes, remainder, increment_remainder, h.unit_in, unit_in) depth 40) refl

pub returns : goal.returns
returns c =
    let s = c.args.d.now in
    let h = c.requires.dda in
    let one = c.if_negative-one.result in
    let unit = c.if_negative-unit.result in
    let remainder = remainder_in s.remainder s.unit h.not_negative h.below h.unit_in in
    let increment_remainder = remainder_in s.increment_remainder s.unit h.increment_not_negative h.increment_below h.unit_in in
    let f1 : FitsSigned w128 s.unit = fits w128 (size_known h.unit_in) refl in
    let f2 : FitsSigned w128 s.whole = fits w128 (size_known c.requires.whole_in) refl in
    let f3 : FitsSigned w128 s.remainder = fits w128 (size_known remainder) refl in
    let f4 : FitsSigned w128 s.increment = fits w128 (size_known h.increment_in) refl in
    let f5 : FitsSigned w128 s.increment_remainder = fits w128 (size_known increment_remainder) refl in
    let f6 : FitsSigned w128 (s.whole +ℤ s.increment) = fits w128 (search (sizes, c.requires.whole_in, h.increment_in)) refl in
    let f7 : FitsSigned w128 (s.remainder +ℤ s.increment_remainder) = fits w128 (search (sizes, remainder, increment_remainder)) refl in
    let f8 : FitsSigned w128 (s.whole +ℤ s.increment -ℤ pos 1) = fits w128 (search (sizes, c.requires.whole_in, h.increment_in)) refl in
    let f9 : FitsSigned w128 (s.remainder +ℤ s.increment_remainder -ℤ s.unit) = fits w128 (search (sizes, remainder, increment_remainder, h.unit_in)) refl in
    let one_is : one ≡ (if int_lt (excess s) (pos 0) then pos 1 else pos 0) = simp to_z-of_z at c.if_negative-one.ensures in
    let unit_is : unit ≡ (if int_lt (excess s) (pos 0) then s.unit else pos 0) = simp to_z-of_z at c.if_negative-unit.ensures in
    let one_in : IsAtMost 1 one = kept_in _ (pos 1) one_is one_in_1 in
    let unit_in : IsAtMost unit_limit unit = kept_in _ s.unit unit_is h.unit_in in
    let f10 : FitsSigned w128 one = fits w128 (size_known one_in) refl in
    let f11 : FitsSigned w128 unit = fits w128 (size_known unit_in) refl in
    let f12 : FitsSigned w128 (s.whole +ℤ s.increment -ℤ pos 1 +ℤ one) = fits w128 (search (sizes, c.requires.whole_in, h.increment_in, one_in) depth 40) refl in
    let f13 : FitsSigned w128 (s.remainder +ℤ s.increment_remainder -ℤ s.unit +ℤ unit) = fits w128 (search (sizes, remainder, increment_remainder, h.unit_in, unit_in) depth 40) refl in
    simp to_z-of_z (stepped-next s one unit one_is unit_is)
