use Rattle.std.proofs.Common.{ℕ, ◌≡◌, ◌-◌, List, length, get_or, arith, ◌∙◌}
use Rattle.micro_num.proofs.lemmas.DigitRows.{IsCarry_step}
use Rattle.micro_num.proofs.scaling.carried.Goals as goal

pub loop-index-preserved : goal.loop-index-preserved
loop-index-preserved c =
    let ds : List ℕ = c.args.digits.now in
    let i : ℕ = c.loop-index.index in
    let digit : c.from.result ≡ get_or ds (length ds - 1 - i) 0 - 48 = c.from.ensures ∙ c.saturating_sub-digit.ensures in
    record {
      carry = λ count n h. rw digit (IsCarry_step ds i c.loop-index.carry count n c.loop-index-test.true (c.loop-index.invariant.carry count n h));
      small = omega (arith, c.loop-index.invariant.small);
    }

pub returns-clause-carry : goal.returns-clause-carry
returns-clause-carry c =
    let ds : List ℕ = c.args.digits.now in
    let all : c.loop-index.index ≡ length ds = omega arith in
    let none : length ds - c.loop-index.index ≡ 0 = omega arith in
    λ count n h. rw (none, all) at (c.loop-index.invariant.carry count n h)
