use Rattle.std.proofs.Common.{◌≡◌, ℕ, ◌<◌, ◌*◌, ◌^◌, take, get_or, false}
use Rattle.micro_num.specs.Scan.{IsLeading, digits_after, is_other}
use Rattle.micro_num.proofs.digits.few_digits.Given as goal
use Rattle.micro_num.specs.declared.limits.TheConstants.{TEN_DIGITS_ROOM}

abbrev pub invariant-loop-index : goal.invariant-loop-index
invariant-loop-index l = record {
  clear : (k : ℕ) → k < l.index → is_other (get_or l.bytes k 0) ≡ false;
  leads : (n : ℕ) → IsLeading l.fn.before.value l.fn.before.dropped n → IsLeading l.leading.value l.leading.dropped (digits_after n (take l.index l.bytes));
  small : l.leading.value < TEN_DIGITS_ROOM * 10 ^ l.index;
  same : l.leading.dropped ≡ l.fn.before.dropped;
}
