use Rattle.std.proofs.Common.{ℕ, ◌<◌, ◌+◌, ◌*◌, ◌-◌, ◌^◌, length, drop}
use Rattle.micro_num.specs.Scan.{IsCarry, digits_after}
use Rattle.micro_num.proofs.scaling.carried.Given as goal
use Rattle.micro_num.specs.declared.limits.TheConstants.{CARRY_LIMIT}

abbrev pub invariant-loop-index : goal.invariant-loop-index
invariant-loop-index l = record {
  carry : (count n : ℕ) → IsCarry l.after count n → IsCarry l.carry (l.index + count) (digits_after 0 (drop (length l.digits - l.index) l.digits) * 10 ^ count + n);
  small : l.carry < CARRY_LIMIT;
}
