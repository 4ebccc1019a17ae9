use Rattle.std.proofs.Common.{arith, length, length-append, take, sym, ◌∙◌, ap}
use Rattle.std.proofs.Math.Seq.{take-append_seam}
use Rattle.std.proofs.lemmas.Bool.{false≢true}
use Rattle.stl_text.proofs.layout.after_bytes.Goals as goal

pub returns-then-text-bytes-clause-none : goal.returns-then-text-bytes-clause-none
returns-then-text-bytes-clause-none c = λ none rest whole.
    omega (arith, c.if-text-bytes.true, ap length whole, length-append c.args.bytes.now rest)

pub returns-else-are_equal-clause-none : goal.returns-else-are_equal-clause-none
returns-else-are_equal-clause-none c = λ none rest whole.
    let n = length c.args.bytes.now in
    absurd (false≢true (sym c.if-are_equal.false
    ∙ c.are_equal.ensures.1 (c.split_at.ensures.front ∙ (ap (take n) whole ∙ take-append_seam c.args.bytes.now rest))))
