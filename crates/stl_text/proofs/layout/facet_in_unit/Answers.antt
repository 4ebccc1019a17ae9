use Rattle.std.proofs.Common.{◌≡◌, Some, sym, ap, subst}
use Rattle.stl_text.specs.Layout.{separator_tokens}
use Rattle.stl_text.specs.Text.{facet_tokens, rest_after}
use Rattle.stl_text.specs.declared.grammar.Separator.TheVariants as separator
use Rattle.geometry.specs.Facet.{facet_with}
use Rattle.stl_text.proofs.lemmas.Layouts.{facet-some, in_layout, read_from}
use Rattle.stl_text.proofs.lemmas.Steps.{some-items}
use Rattle.stl_text.proofs.layout.facet_in_unit.Goals as goal

pub returns-clause-read : goal.returns-clause-read
returns-clause-read c =
    let is = c.layout.invariant in
    let opening = c.in_ok-skip.ensures (separator_tokens separator.Opening) is.opening in
    let first = c.in_ok-skip-2.ensures (separator_tokens separator.First) is.first in
    let second = c.in_ok-skip-3.ensures (separator_tokens separator.Next) is.next in
    let third = c.in_ok-skip-4.ensures (separator_tokens separator.Next) is.next in
    let corners : c.of.result ≡ facet_with c.in_ok-a.a c.in_ok-b.b c.in_ok-c.c = c.of.ensures in
    subst (λ t. rest_after c.args.unit (facet_tokens t) c.args.bytes.now ≡ Some c.reader.inside.rest.now) (sym corners)
    (read_from (facet_tokens (facet_with c.in_ok-a.a c.in_ok-b.b c.in_ok-c.c)) c.args.unit c.args.bytes.now c.reader.inside.rest.now c.new-reader.ensures
    (in_layout c.in_ok-a.a c.in_ok-b.b c.in_ok-c.c opening c.in_ok-near_normal.ensures.some first c.in_ok-a.ensures second c.in_ok-b.ensures third
    c.in_ok-c.ensures c.in_ok-close.ensures)
    (ap (λ r. r.rest) (sym c.reader.view_is)))

pub returns-clause-some : goal.returns-clause-some
returns-clause-some c = some-items c.reader.inside.rest.now c.is_empty.result c.is_empty.ensures c.if-is_empty.false

pub returns-clause-shorter : goal.returns-clause-shorter
returns-clause-shorter c = facet-some c.of.result c.args.unit c.args.bytes.now c.reader.inside.rest.now (returns-clause-read c)

-- If a part is missing, there is no facet, so no clause says anything.

pub returns-in_err-skip : goal.returns-in_err-skip
returns-in_err-skip c = rw c.from_residual.ensures (record { read = tt; some = tt; shorter = tt })

pub returns-in_err-near_normal : goal.returns-in_err-near_normal
returns-in_err-near_normal c = rw c.from_residual-in_err-near_normal.ensures (record { read = tt; some = tt; shorter = tt })

pub returns-in_err-skip-2 : goal.returns-in_err-skip-2
returns-in_err-skip-2 c = rw c.from_residual-in_err-skip-2.ensures (record { read = tt; some = tt; shorter = tt })

pub returns-in_err-a : goal.returns-in_err-a
returns-in_err-a c = rw c.from_residual-in_err-a.ensures (record { read = tt; some = tt; shorter = tt })

pub returns-in_err-skip-3 : goal.returns-in_err-skip-3
returns-in_err-skip-3 c = rw c.from_residual-in_err-skip-3.ensures (record { read = tt; some = tt; shorter = tt })

pub returns-in_err-b : goal.returns-in_err-b
returns-in_err-b c = rw c.from_residual-in_err-b.ensures (record { read = tt; some = tt; shorter = tt })

pub returns-in_err-skip-4 : goal.returns-in_err-skip-4
returns-in_err-skip-4 c = rw c.from_residual-in_err-skip-4.ensures (record { read = tt; some = tt; shorter = tt })

pub returns-in_err-c : goal.returns-in_err-c
returns-in_err-c c = rw c.from_residual-in_err-c.ensures (record { read = tt; some = tt; shorter = tt })

pub returns-in_err-close : goal.returns-in_err-close
returns-in_err-close c = rw c.from_residual-in_err-close.ensures (record { read = tt; some = tt; shorter = tt })
