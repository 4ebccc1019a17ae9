use Rattle.std.proofs.Common.{◌+◌, ◌*◌, ◌-◌, arith, sym, below_more, ◌∙◌, ap}
use Rattle.std.specs.Prelude.{not}
use Rattle.std.proofs.lemmas.List.Sums.{position_or_len_is, fold_more}
use Rattle.micro_num.specs.Scan.{is_other}
use Rattle.micro_num.proofs.lemmas.LeadingDigits.{power_more}
use Rattle.micro_num.proofs.digits.few_digits.Goals as goal

pub returns-in_default-clause-count : goal.returns-in_default-clause-count
returns-in_default-clause-count c =
    sym (position_or_len_is is_other c.args.bytes.now c.loop-index.index 0 (omega arith) c.loop-index.invariant.clear (λ _. ap not c.in_default.ensures.digit))

pub loop-index-preserved : goal.loop-index-preserved
loop-index-preserved c =
    record {
      clear = below_more _ _ c.loop-index.invariant.clear (ap not c.in-Some.ensures.digit);
      leads = λ n h. rw (fold_more (λ n d. 10 * n + (d - 48)) n c.args.bytes.now c.loop-index.index 0 (omega arith), ← c.in-Some.ensures.value)
          (c.extended-leading.ensures.leads _ (c.loop-index.invariant.leads n h));
      small = omega (arith, c.extended-leading.ensures.value, c.loop-index.invariant.small, c.in-Some.ensures.small, power_more c.loop-index.index);
      same = c.extended-leading.ensures.same ∙ c.loop-index.invariant.same;
    }
