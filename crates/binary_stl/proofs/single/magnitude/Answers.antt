use Rattle.std.proofs.Common.{◌≡◌, ◌∙◌, ◌<◌, ◌*◌, ◌-◌, ◌+◌, ◌/◌, ◌^◌, ap, arith, subst, sym, ℕ}
use Rattle.std.proofs.lemmas.Nat.{one_shl}
use Rattle.micro_num.specs.Micrometres.{nearest}
use Rattle.binary_stl.specs.Single.{multiple}
use Rattle.binary_stl.proofs.lemmas.Rounding.{micrometres_few, normal, shifted_magnitude, subnormal}
use Rattle.binary_stl.proofs.single.magnitude.Goals as goal
use Rattle.binary_stl.proofs.single.magnitude.Goals.{then-exponent-eq0, else-exponent-eq0}

pub returns : goal.returns
returns c =
    let e : ℕ = c.args.exponent in
    let f : ℕ = c.args.fraction in
    let s : ℕ = c.if-exponent-eq0.significand in
    let t : ℕ = c.max.result in
    let m : ℕ = c.min-shift.result in
    let less : c.micrometres.result < 2 ^ 20 = subst (λ (n : ℕ). n < 2 ^ 20) (sym c.micrometres.ensures) (micrometres_few c.args.unit) in
    let few : s < 2 ^ 24 = elim c.if-exponent-eq0.branch [ then-exponent-eq0 w ↦ omega arith | else-exponent-eq0 w ↦ omega arith ] in
    let is : 2 ^ (t - 1) * s ≡ multiple e f = elim c.if-exponent-eq0.branch [
      | then-exponent-eq0 w ↦ subnormal e f s t w.if-exponent-eq0.true w.significand-is c.max.ensures
      | else-exponent-eq0 w ↦ normal e f s t w.if-exponent-eq0.false w.significand-is c.max.ensures
    ] in
    ap (λ n. (c.from.result * c.micrometres.result + n) / 2 ^ m) (one_shl (m - 1) 64 (omega arith))
    ∙ ap (λ n. (n * c.micrometres.result + 2 ^ (m - 1)) / 2 ^ m) c.from.ensures
    ∙ shifted_magnitude s c.micrometres.result t (150 - t) m few less (omega arith) (omega arith) (omega arith) c.min-shift.ensures
    ∙ (λ i. nearest (is i * c.micrometres.ensures i) (2 ^ 149))
