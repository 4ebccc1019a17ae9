use Rattle.std.proofs.Common.{rules, pos, ◌+ℤ◌, ◌≤ℤ◌, ◌<ℤ◌, FitsSigned, to_z, of_z, int_div, int_rem, arith}
use Rattle.std.proofs.lemmas.Int.{ints, quot_is, rem_is, quot_fits, to_z-of_z}
use mir.Syntax.{w64}
use Rattle.exact_int.proofs.lemmas.Ceilings.{ceiling-up, ceiling-same}
use Rattle.exact_int.proofs.division.ceil_div_64.Goals as goal

pub returns-then-n-d-gt0 : goal.returns-then-n-d-gt0
returns-then-n-d-gt0 c =
    let n = c.args.n in
    let d = c.args.d in
    let q = quot_is w64 n d c.ranges.n c.ranges.d (quot_fits w64 n d c.ranges.n c.requires) in
    let r = rem_is w64 n d c.ranges.n c.ranges.d in
    let more : FitsSigned w64 (to_z w64 (of_z w64 (int_div (to_z w64 (of_z w64 n)) (to_z w64 (of_z w64 d)))) +ℤ pos 1) = search rules in
    let big : pos 0 <ℤ int_rem n d = rw (← r) (omega (arith, ints)) in
    λ k. rw (to_z-of_z w64 _ more, q) (ceiling-up n d c.requires big k)

pub returns-else-n-d-gt0 : goal.returns-else-n-d-gt0
returns-else-n-d-gt0 c =
    let n = c.args.n in
    let d = c.args.d in
    let q = quot_is w64 n d c.ranges.n c.ranges.d (quot_fits w64 n d c.ranges.n c.requires) in
    let r = rem_is w64 n d c.ranges.n c.ranges.d in
    let small : int_rem n d ≤ℤ pos 0 = rw (← r) (omega (arith, ints)) in
    λ k. rw q (ceiling-same n d c.requires small k)
