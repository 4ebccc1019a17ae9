use Rattle.std.proofs.Common.{arith, ℤ, w64, to_z, of_z, FitsSigned, subst, sym, ap, ◌∙◌, length, rules}
use Rattle.std.proofs.lemmas.Int.{to_z-of_z}
use Rattle.micro_num.specs.Numeral.{unsigned}
use Rattle.micro_num.specs.Micrometres.{exponent_value}
use Rattle.micro_num.specs.Scan.{IsExponentFront, IsNear}
use Rattle.micro_num.proofs.lemmas.Scanning.{scanned_digits, some_met, after_met}
use Rattle.micro_num.proofs.lemmas.Coordinates.{met_front}
use Rattle.micro_num.proofs.reading.magnitude_front.Goals as goal

pub magnitude_in-requires-clause-mantissa : goal.magnitude_in-requires-clause-mantissa
magnitude_in-requires-clause-mantissa c =
    let met = c.read_mantissa-mantissa.ensures in
    record {
      leads = met.leads;
      digits = rw (met.whole, met.fraction) (scanned_digits unsigned c.args.text.now);
      few = met.few;
      within = omega (arith, met.within);
    }

pub returns-clause-front : goal.returns-clause-front
returns-clause-front c =
    let met = c.read_mantissa-mantissa.ensures in
    let e : ℤ = c.in_ok-exponent.exponent in
    let x : IsExponentFront c.read_mantissa-mantissa.result.after.now c.in_ok-exponent.after.now e = c.in_ok-exponent.ensures.front in
    let fits : FitsSigned w64 e = search rules in
    let near : IsNear (to_z w64 (of_z w64 e)) (exponent_value x.exponent) = subst (λ e. IsNear e (exponent_value x.exponent)) (sym (to_z-of_z w64 e fits)) x.near in
    met_front c.args.text.now _ _ _ met.whole met.fraction met.after c.args.unit c.in_ok-exponent.after.now e c.magnitude_in.result
    (omega arith) x (c.magnitude_in.ensures _ near)

pub returns-then-mantissa-eq0-clause-reads : goal.returns-then-mantissa-eq0-clause-reads
returns-then-mantissa-eq0-clause-reads c = λ n rest is no_sign spelled ended.
    let met = c.read_mantissa-mantissa.ensures in
    absurd (omega (arith, ap length met.whole, ap length met.fraction, some_met c.args.text.now n rest is no_sign spelled ended))

pub returns-in_err-exponent-clause-reads : goal.returns-in_err-exponent-clause-reads
returns-in_err-exponent-clause-reads c = λ n rest is no_sign spelled ended.
    absurd (c.in_err-exponent.ensures.reads n.exponent rest is.1
    (c.read_mantissa-mantissa.ensures.after ∙ after_met c.args.text.now n rest is no_sign spelled ended) ended)

pub returns-clause-reads : goal.returns-clause-reads
returns-clause-reads c = λ n rest is no_sign spelled ended.
    c.in_ok-exponent.ensures.reads n.exponent rest is.1
    (c.read_mantissa-mantissa.ensures.after ∙ after_met c.args.text.now n rest is no_sign spelled ended) ended
