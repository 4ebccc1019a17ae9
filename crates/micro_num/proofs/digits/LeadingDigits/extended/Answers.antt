use Rattle.micro_num.proofs.lemmas.LeadingDigits.{IsLeading_extended}
use Rattle.micro_num.proofs.digits.LeadingDigits.extended.Goals as goal

pub returns-clause-leads : goal.returns-clause-leads
returns-clause-leads c = λ n h. IsLeading_extended c.args.self.value c.args.self.dropped n c.args.digit h c.requires.room c.requires.digit
