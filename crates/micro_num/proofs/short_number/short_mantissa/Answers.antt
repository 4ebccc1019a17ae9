use Rattle.std.proofs.Common.{◌∙◌, List, ℕ, ap, append-nil, subst, sym, take}
use Rattle.micro_num.specs.Micrometres.{digits_value}
use Rattle.micro_num.specs.Scan.{IsLeading, digits_after}
use Rattle.micro_num.proofs.lemmas.LeadingDigits.{IsLeading-none}
use Rattle.micro_num.proofs.lemmas.Scanning.{split_leads}
use Rattle.micro_num.proofs.short_number.short_mantissa.Goals as goal

-- If a part is too long, there is no mantissa, so no clause says anything.

pub returns-in_err-digits : goal.returns-in_err-digits
returns-in_err-digits c = rw c.from_residual.ensures (record { whole = tt; fraction = tt; after = tt; leads = tt; few = tt; short = tt; within = tt })

pub returns-in_err-more : goal.returns-in_err-more
returns-in_err-more c = rw c.from_residual-in_err-more.ensures (record { whole = tt; fraction = tt; after = tt; leads = tt; few = tt; short = tt; within = tt })

pub returns-in_ok-more-clause-whole : goal.returns-in_ok-more-clause-whole
returns-in_ok-more-clause-whole c = c.split_at.ensures.front ∙ ap (λ n. take n c.args.bytes.now) c.in_ok-digits.ensures.count

pub returns-in_default-clause-whole : goal.returns-in_default-clause-whole
returns-in_default-clause-whole c = c.split_at.ensures.front ∙ ap (λ n. take n c.args.bytes.now) c.in_ok-digits.ensures.count

pub returns-in_default-clause-leads : goal.returns-in_default-clause-leads
returns-in_default-clause-leads c =
    let bytes : List ℕ = c.args.bytes.now in
    let d = c.in_ok-digits.digits in
    let leads : IsLeading d.leading.value d.leading.dropped (digits_after 0 (take d.count bytes)) = c.in_ok-digits.ensures.leads 0 IsLeading-none in
    subst (λ l. IsLeading d.leading.value d.leading.dropped (digits_value l)) (sym (append-nil c.split_at.result.0.now ∙ c.split_at.ensures.front)) leads

pub returns-in_default-clause-few : goal.returns-in_default-clause-few
returns-in_default-clause-few c = c.in_ok-digits.ensures.few

pub returns-in_ok-more-clause-leads : goal.returns-in_ok-more-clause-leads
returns-in_ok-more-clause-leads c =
    search (split_leads c.args.bytes.now, c.in_ok-more.ensures.leads _ (c.in_ok-digits.ensures.leads 0 IsLeading-none))

pub returns-in_ok-more-clause-few : goal.returns-in_ok-more-clause-few
returns-in_ok-more-clause-few c = c.in_ok-more.ensures.few ∙ c.in_ok-digits.ensures.few
