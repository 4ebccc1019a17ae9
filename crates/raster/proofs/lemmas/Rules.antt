-- What the test of a rule says.
use Rattle.std.proofs.Common.{ℤ, Decides, arith}
use Rattle.std.specs.Prelude.{pos, nat_abs, int_lt, ◌<ℤ◌, ◌%◌}
use Rattle.std.specs.Ordering.{int_eq}
use Rattle.std.proofs.lemmas.Int.{ints}
use Rattle.std.proofs.lemmas.Bool.Decides.{Decides-eqb, Decides-int_eq, Decides-not}
use Rattle.raster.specs.declared.rule.Rule.{Rule}
use Rattle.raster.specs.declared.rule.Rule.TheVariants.{EvenOdd, NonZero, Positive}
use Rattle.raster.specs.Rule.{IsInside, is_inside}

positive_decides : (n : ℤ) → Decides (int_lt (pos 0) n) (pos 0 <ℤ n)
positive_decides n = grind (arith, ints)

pub inside_decides : (rule : Rule) (n : ℤ) → Decides (is_inside rule n) (IsInside rule n)
inside_decides EvenOdd n = Decides-eqb (nat_abs n % 2) 1
inside_decides NonZero n = Decides-not (int_eq n (pos 0)) (Decides-int_eq n (pos 0))
inside_decides Positive n = positive_decides n
