use Rattle.std.proofs.Common.{ℕ, ◌≡◌, List, take, drop, arith, ap, subst, sym, ◌∙◌, true, ℤ, w64, to_z}
use Rattle.micro_num.specs.Micrometres.{with_sign, digits_value}
use Rattle.micro_num.specs.Scan.{IsExponentFront, IsLeading, IsNear, digits_after}
use Rattle.micro_num.specs.Numeral.{sign_of, is_exponent_mark}
use Rattle.micro_num.proofs.lemmas.LeadingDigits.{IsLeading-none}
use Rattle.micro_num.proofs.lemmas.Exponents.{marked_rest, front_exponent, IsNear-minus, IsNear-plus, mark_69, mark_101}
use Rattle.micro_num.proofs.short_number.short_exponent.Goals.{else-mark-ne101-via-then-mark-ne101+else-mark-ne69, else-mark-ne101-via-else-mark-ne101, then-negative, else-negative}
use Rattle.micro_num.proofs.short_number.short_exponent.Goals as goal

is_mark : (c : goal.Joined-negative) → is_exponent_mark c.in-Some.mark.now ≡ true
is_mark c =
    elim c.else-mark-ne101.branch [ else-mark-ne101-via-then-mark-ne101+else-mark-ne69 w ↦ mark_69 c.in-Some.mark.now w.if-mark-ne69.false | else-mark-ne101-via-else-mark-ne101 w ↦ mark_101 c.in-Some.mark.now w.if-mark-ne101.false ]

pub returns-clause-front : goal.returns-clause-front
returns-clause-front c =
    let ds : List ℕ = c.split_sign-negative.result.1.now in
    let n : ℕ = c.in_ok-digits.digits.count in
    let v : ℕ = c.in_ok-digits.digits.leading.value in
    let e : ℤ = to_z w64 c.if-negative.result-bits in
    let leads : IsLeading v c.in_ok-digits.digits.leading.dropped (digits_after 0 (take n ds)) = c.in_ok-digits.ensures.leads 0 IsLeading-none in
    let is_near : IsNear e (with_sign (sign_of c.in-Some.text.now) (digits_value (take n ds))) =
    elim c.if-negative.branch [
      | then-negative w ↦ IsNear-minus e v _ _ (sign_of c.in-Some.text.now) leads w.result-is (c.split_sign-negative.ensures.minus.0 w.if-negative.true)
      | else-negative w ↦ IsNear-plus e v _ _ (sign_of c.in-Some.text.now) leads w.result-is (λ h. let both = c.split_sign-negative.ensures.minus.1 h in let other = w.if-negative.false in cc)
    ] in
    let front : IsExponentFront c.args.bytes.now _ e =
    front_exponent c.args.bytes.now c.in-Some.mark.now c.in-Some.text.now ds n e c.in-Some.ensures.cases.0 c.split_sign-negative.ensures.after (is_mark c)
    c.in_ok-digits.ensures.count (omega (arith, c.if-digits-eq0.false)) is_near in
    subst (λ r. IsExponentFront c.args.bytes.now r e) (sym c.split_at.ensures.back) front

pub returns-clause-reads : goal.returns-clause-reads
returns-clause-reads c = λ x rest is spelled ended.
    let ds : List ℕ = c.split_sign-negative.result.1.now in
    let read = marked_rest c.args.bytes.now x rest is spelled ended c.in-Some.mark.now c.in-Some.text.now ds c.in-Some.ensures.cases.0 (is_mark c)
    c.split_sign-negative.ensures.after in
    c.split_at.ensures.back ∙ ap (λ n. drop n ds) c.in_ok-digits.ensures.count ∙ read.1

pub returns-in_err-digits : goal.returns-in_err-digits
returns-in_err-digits c = rw c.from_residual.ensures (record { front = tt; small = tt; reads = tt; within = tt })
