use Rattle.std.proofs.Common.{arith, ℤ, w64, to_z, of_z, FitsSigned, subst, sym, ◌∙◌, rules}
use Rattle.std.proofs.lemmas.Int.{to_z-of_z}
use Rattle.micro_num.specs.Numeral.{unsigned}
use Rattle.micro_num.specs.Micrometres.{exponent_value}
use Rattle.micro_num.specs.Scan.{IsExponentFront, IsNear}
use Rattle.micro_num.proofs.lemmas.Scanning.{scanned_digits, after_met}
use Rattle.micro_num.proofs.lemmas.Coordinates.{met_front}
use Rattle.micro_num.proofs.short_number.short_magnitude.Goals as goal

pub magnitude_in-requires-clause-mantissa : goal.magnitude_in-requires-clause-mantissa
magnitude_in-requires-clause-mantissa c =
    let met = c.in_ok-mantissa.ensures in
    record {
      leads = met.leads;
      digits = rw (met.whole, met.fraction) (scanned_digits unsigned c.args.text.now);
      few = omega (arith, met.few);
      within = omega (arith, met.short);
    }

pub returns-clause-front : goal.returns-clause-front
returns-clause-front c =
    let met = c.in_ok-mantissa.ensures in
    let e : ℤ = c.in_ok-exponent.exponent in
    let x : IsExponentFront c.in_ok-mantissa.mantissa.after.now c.in_ok-exponent.after.now e = c.in_ok-exponent.ensures.front in
    let fits : FitsSigned w64 e = search rules in
    let near : IsNear (to_z w64 (of_z w64 e)) (exponent_value x.exponent) = subst (λ e. IsNear e (exponent_value x.exponent)) (sym (to_z-of_z w64 e fits)) x.near in
    met_front c.args.text.now _ _ _ met.whole met.fraction met.after c.args.unit c.in_ok-exponent.after.now e c.magnitude_in.result
    (omega arith) x (c.magnitude_in.ensures _ near)

pub returns-clause-reads : goal.returns-clause-reads
returns-clause-reads c = λ n rest is no_sign spelled ended.
    c.in_ok-exponent.ensures.reads n.exponent rest is.1
    (c.in_ok-mantissa.ensures.after ∙ after_met c.args.text.now n rest is no_sign spelled ended) ended

pub returns-in_err-mantissa : goal.returns-in_err-mantissa
returns-in_err-mantissa c = rw c.from_residual.ensures (record { front = tt; reads = tt; within = tt })
