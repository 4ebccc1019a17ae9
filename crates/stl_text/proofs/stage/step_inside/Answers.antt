use Rattle.std.proofs.Common.{arith}
use Rattle.std.proofs.lemmas.Result.{err_from_is_err_and}
use Rattle.stl_text.proofs.lemmas.Stages.{inside_read, inside_whole, stuck_inside}
use Rattle.stl_text.proofs.stage.step_inside.Goals as goal

pub returns-in_err-read-clause-fault : goal.returns-in_err-read-clause-fault
returns-in_err-read-clause-fault c = λ limit facets text after w.
    let p = err_from_is_err_and c.from_residual.result c.from_residual.ensures.1 in
    let stop = c.in_err-read.ensures.fault w.stands.form.0 after w.word_is w.some in
    rw (p.1, p.2)
    (stuck_inside limit c.args.unit c.args.words facets c.args.facet stop.u stop.token text after c.in_err-read.field-0.0 w.stands stop.goes
    (λ before. stop.stop limit before text w.at_is) (λ e. absurd (stop.other e)))

pub returns-then-words-lt-LAST_WORD-clause-read : goal.returns-then-words-lt-LAST_WORD-clause-read
returns-then-words-lt-LAST_WORD-clause-read c = λ limit facets text after w.
    inside_read limit c.args.unit c.args.words facets c.args.facet c.in_ok-read.read text after w.stands
    (c.in_ok-read.ensures.read w.stands.form.0 after w.word_is w.some) c.if-words-lt-LAST_WORD.true

pub returns-else-words-lt-LAST_WORD-clause-read : goal.returns-else-words-lt-LAST_WORD-clause-read
returns-else-words-lt-LAST_WORD-clause-read c = λ limit facets text after w.
    inside_whole limit c.args.unit c.args.words facets c.args.facet c.in_ok-read.read text after w.stands
    (c.in_ok-read.ensures.read w.stands.form.0 after w.word_is w.some) (λ h. omega (arith, h, c.if-words-lt-LAST_WORD.false))
