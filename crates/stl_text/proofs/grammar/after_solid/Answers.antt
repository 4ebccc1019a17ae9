use Rattle.std.proofs.Common.{refl, sym, ◌∙◌}
use Rattle.std.proofs.lemmas.Option.{none-some}
use Rattle.stl_text.proofs.lemmas.FacetRuns.{next_solid_read}
use Rattle.stl_text.proofs.lemmas.Steps.{some-items}
use Rattle.stl_text.proofs.grammar.after_solid.Goals as goal

pub returns-clause-read : goal.returns-clause-read
returns-clause-read c = λ unit.
    next_solid_read unit c.args.bytes.now c.in_ok-remark.remark.now c.skip_line.result.now c.as_bytes.result.now c.in_ok-name.name.now c.skip_line-inside.result.now
    c.in_ok-remark.ensures.keyword c.in_ok-remark.ensures.rest c.skip_line.ensures.line (c.as_bytes.ensures.value ∙ c.text.ensures.keyword refl) c.in_ok-name.ensures.keyword c.in_ok-name.ensures.rest c.skip_line-inside.ensures.line

pub returns-clause-some : goal.returns-clause-some
returns-clause-some c = some-items c.skip_line-inside.result.now c.is_empty.result c.is_empty.ensures c.if-is_empty.false

pub returns-clause-none : goal.returns-clause-none
returns-clause-none c = λ e. absurd (none-some c.skip_line-inside.result (sym e))

pub returns-in_err-remark-clause-none : goal.returns-in_err-remark-clause-none
returns-in_err-remark-clause-none c = λ _ _ rest e. absurd (none-some rest (rw (c.in_err-remark.ensures.none refl) at e))
