use Rattle.std.proofs.Common.{◌∙◌, List, ℕ, ap, append-nil, subst, sym, take}
use Rattle.micro_num.specs.Micrometres.{digits_value}
use Rattle.micro_num.specs.Scan.{IsLeading, digits_after}
use Rattle.micro_num.proofs.lemmas.LeadingDigits.{IsLeading-none}
use Rattle.micro_num.proofs.mantissa.read_mantissa.Goals as goal

pub returns-in_default-clause-whole : goal.returns-in_default-clause-whole
returns-in_default-clause-whole c = c.split_at.ensures.front ∙ ap (λ n. take n c.args.bytes.now) c.read_digits-digits.ensures.count

pub returns-in_default-clause-leads : goal.returns-in_default-clause-leads
returns-in_default-clause-leads c =
    let bytes : List ℕ = c.args.bytes.now in
    let d = c.read_digits-digits.result in
    let leads : IsLeading d.leading.value d.leading.dropped (digits_after 0 (take d.count bytes)) = c.read_digits-digits.ensures.leads 0 IsLeading-none in
    subst (λ l. IsLeading d.leading.value d.leading.dropped (digits_value l)) (sym (append-nil c.split_at.result.0.now ∙ c.split_at.ensures.front)) leads
