-- The fill rules: which sums of signed crossings count as inside, as a proposition and as a test.
use Rattle.std.specs.Prelude.{◌≡◌, ◌≢◌, ◌<ℤ◌, ◌%◌, Bool, not, ℤ, pos, nat_abs, int_lt, ◌==◌}
use Rattle.std.specs.Ordering.{int_eq}
use Rattle.raster.specs.declared.rule.Rule.{Rule}
use Rattle.raster.specs.declared.rule.Rule.TheVariants.{EvenOdd, NonZero, Positive}

-- A pixel is filled if the signed crossings of its ray are odd, or not zero, or above zero, by the rule chosen.
abbrev pub IsInside : Rule → ℤ → Type 0
IsInside EvenOdd crossings = nat_abs crossings % 2 ≡ 1
IsInside NonZero crossings = crossings ≢ pos 0
IsInside Positive crossings = pos 0 <ℤ crossings

-- the same as a test: odd, not zero, or above zero
abbrev pub is_inside : Rule → ℤ → Bool
is_inside EvenOdd count = nat_abs count % 2 == 1
is_inside NonZero count = not (int_eq count (pos 0))
is_inside Positive count = int_lt (pos 0) count
