use Rattle.std.proofs.Common.{◌≡◌, Bool, true, false, refl, sym, arith}
use Rattle.std.proofs.lemmas.List.Sums.{position_or_len_is}
use Rattle.stl_text.specs.Text.{is_line_end}
use Rattle.stl_text.proofs.scanning.line_len.Goals as goal

not_passed : (b : Bool) → ¬ (b ≡ true) → b ≡ false
not_passed true h = absurd (h refl)
not_passed false h = refl

pub returns-in-Some-clause-len : goal.returns-in-Some-clause-len
returns-in-Some-clause-len c =
    let found = c.in-Some.ensures in
    sym (position_or_len_is is_line_end c.args.bytes.now c.in-Some.at 0 (omega (arith, found.0.high))
    (λ k h. not_passed _ (found.0.before k (omega arith) h)) (λ _. found.1))

pub returns-in-None-clause-len : goal.returns-in-None-clause-len
returns-in-None-clause-len c =
    let none = c.in-None.ensures in
    sym (position_or_len_is is_line_end c.args.bytes.now _ 0 (omega arith)
    (λ k h. not_passed _ (none k (omega arith) h)) (λ h. absurd (omega (arith, h))))
