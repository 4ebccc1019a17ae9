use Rattle.std.proofs.Common.{◌<◌, ◌∙◌, arith, length, sym, ap}
use Rattle.std.proofs.lemmas.Bool.{eqb-false}
use Rattle.stl_text.specs.Layout.{separator_tokens}
use Rattle.stl_text.specs.declared.grammar.Separator.TheVariants as separator
use Rattle.stl_text.proofs.lemmas.Layouts.{closes, read_within}
use Rattle.stl_text.proofs.layout.words_len.Goals as goal

pub returns : goal.returns
returns c =
    let some : 0 < length c.reader.inside.rest.now = omega (arith, eqb-false (length c.reader.inside.rest.now) 0 (sym c.is_empty.ensures ∙ c.if-is_empty.false)) in
    closes _ c.args.closing.now c.reader.inside.rest.now c.new-reader.ensures c.in_ok-separator.ensures.some (ap (λ r. r.rest) (sym c.reader.view_is)) some

pub returns-in_err-separator : goal.returns-in_err-separator
returns-in_err-separator c = rw c.from_residual.ensures tt

pub overflow_sub-result : goal.overflow_sub-result
overflow_sub-result c =
    read_within (separator_tokens separator.Closing) _ c.args.closing.now c.reader.inside.rest.now c.new-reader.ensures c.in_ok-separator.ensures.some
    (ap (λ r. r.rest) (sym c.reader.view_is))
