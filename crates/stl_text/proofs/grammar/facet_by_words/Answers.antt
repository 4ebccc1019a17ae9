use Rattle.std.proofs.Common.{sym, ap}
use Rattle.stl_text.specs.Text.{facet_tokens}
use Rattle.stl_text.proofs.lemmas.Layouts.{facet-some, read_from}
use Rattle.stl_text.proofs.lemmas.Steps.{some-items}
use Rattle.stl_text.proofs.grammar.facet_by_words.Goals as goal

pub returns-clause-read : goal.returns-clause-read
returns-clause-read c =
    read_from (facet_tokens c.in_ok-facet.facet) c.args.unit c.args.bytes.now c.reader.inside.rest.now c.new-reader.ensures c.in_ok-facet.ensures
    (ap (λ r. r.rest) (sym c.reader.view_is))

pub returns-clause-shorter : goal.returns-clause-shorter
returns-clause-shorter c =
    facet-some c.in_ok-facet.facet c.args.unit c.args.bytes.now c.reader.inside.rest.now
    (read_from (facet_tokens c.in_ok-facet.facet) c.args.unit c.args.bytes.now c.reader.inside.rest.now c.new-reader.ensures c.in_ok-facet.ensures
    (ap (λ r. r.rest) (sym c.reader.view_is)))

pub returns-clause-some : goal.returns-clause-some
returns-clause-some c = some-items c.reader.inside.rest.now c.is_empty.result c.is_empty.ensures c.if-is_empty.false
