use Rattle.std.proofs.Common.{arith, sym, lit≤, ◌^◌, ◌≤◌, ◌+◌, ◌/◌, ap, ◌∙◌}
use Rattle.std.proofs.Math.Nat.{pow-le-pow_right}
use Rattle.micro_num.proofs.lemmas.Powers.{rounded_quotient-is}
use Rattle.micro_num.proofs.lemmas.Magnitude.{rounded_quotient-small}
use Rattle.micro_num.specs.declared.limits.TheConstants.{POWER_COUNT}
use Rattle.micro_num.proofs.scaling.shrunk.Goals as goal

pub returns-then-power-ge-POWER_COUNT : goal.returns-then-power-ge-POWER_COUNT
returns-then-power-ge-POWER_COUNT c =
    let far : 10 ^ POWER_COUNT ≤ 10 ^ c.args.power = pow-le-pow_right {n = 10} (lit≤ tt) {i = POWER_COUNT} {j = c.args.power} (omega arith) in
    sym (rounded_quotient-small c.args.value c.args.power (omega arith))

pub returns-else-power-ge-POWER_COUNT : goal.returns-else-power-ge-POWER_COUNT
returns-else-power-ge-POWER_COUNT c =
    c.divided.ensures ∙ ap (λ u. (c.args.value + u / 2) / 10 ^ c.args.power) c.power_of_ten.ensures
    ∙ rounded_quotient-is c.args.value c.args.power c.requires.some
