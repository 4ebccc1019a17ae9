use Rattle.micro_num.proofs.lemmas.LeadingDigits.{IsLeading_dropped}
use Rattle.micro_num.proofs.digits.LeadingDigits.followed_by.Goals as goal

pub returns-else-self-lt-LEADING_ROOM-clause-leads : goal.returns-else-self-lt-LEADING_ROOM-clause-leads
returns-else-self-lt-LEADING_ROOM-clause-leads c =
    λ n h. IsLeading_dropped c.args.self.value c.args.self.dropped n c.args.digit h c.if-self-lt-LEADING_ROOM.false c.requires.digit
