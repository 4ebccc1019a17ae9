use Rattle.std.proofs.Common.{◌∙◌, sym}
use Rattle.clap.specs.Matches.{found_of, one_text}
use Rattle.std.specs.Str.Parse.{ParsesUnsigned, ExplainsUnsignedError, HasUnsignedDigitsIfOk}
use Rattle.task_words.proofs.TextLemmas.{number_read}
use Rattle.task_words.proofs.words.number_of.Goals as goal

pub returns-in_err-number-clause-given : goal.returns-in_err-number-clause-given
returns-in_err-number-clause-given c value h = c.from_residual.ensures ∙ sym (c.in_err-number.was)
    ∙ (number_read (λ u x. ParsesUnsigned 32 10 u x × ExplainsUnsignedError 10 u x × HasUnsignedDigitsIfOk u x) c.args.most value
    (one_text (found_of c.args.matches.now) c.args.name.now) c.get_one.result c.get_one.ensures.none c.get_one.ensures.value (λ u x g. g.0) c.ranges.most.fits h.0 h.1).0
