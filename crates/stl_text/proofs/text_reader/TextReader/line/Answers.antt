use Rattle.std.proofs.Common.{◌≡◌, false, ◌+◌, ◌<◌, [], ◌++◌, length, refl, sym, ◌∙◌, ap, subst, arith}
use Rattle.std.proofs.lemmas.Bool.{eqb-false}
use Rattle.stl_text.specs.TextReader.{IsReading, IsReadingAt, TextReader, Waits, whole, at_line, at_word}
use Rattle.stl_text.proofs.lemmas.Steps.{empty-list}
use Rattle.stl_text.proofs.lemmas.TextReaders.{break_passed, line_ended, line_on}
use Rattle.stl_text.proofs.text_reader.TextReader.line.Goals as goal

pub returns-then-is_empty-clause-read : goal.returns-then-is_empty-clause-read
returns-then-is_empty-clause-read g c = λ limit unit taken text is.
    let p : TextReader = whole taken c.args.self.now in
    let ahead = c.args.ahead.now in
    let rest = c.skip_line-rest.result.now in
    subst (λ pl. IsReadingAt limit unit p pl text rest) (sym c.requires.state)
    (line_on limit unit p c.args.stage text ahead rest (subst (λ pl. IsReadingAt limit unit p pl text ahead) c.requires.state is) c.skip_line-rest.ensures.line
    (empty-list rest (sym c.is_empty.ensures ∙ c.if-is_empty.true)))

pub returns-clause-read : goal.returns-clause-read
returns-clause-read g c = λ limit unit taken text is.
    let i = c.self.inside in
    let p : TextReader = record { limit = length taken + i.limit; unit = i.unit; count = i.count; state = i.state; held = i.held.items; held_at = i.held_at; facets = taken ++ i.facets.items } in
    let q : TextReader = record { limit = length taken + i.limit; unit = i.unit; count = i.count; state = at_word c.args.stage; held = i.held.items; held_at = i.held_at; facets = taken ++ i.facets.items } in
    let ahead = c.args.ahead.now in
    let rest = c.skip_line-rest.result.now in
    let at_state : i.state ≡ at_line c.args.stage = ap (λ r. r.state) c.self.view_is ∙ c.requires.state in
    let free : i.held.items ≡ [] = ap (λ r. r.held) c.self.view_is ∙ c.requires.free in
    let here : IsReadingAt limit unit p i.state text ahead = subst (λ r. IsReading limit unit taken r text ahead) (sym c.self.view_is) is in
    let some : 0 < length rest = omega (arith, eqb-false (length rest) 0 (sym c.is_empty.ensures ∙ c.if-is_empty.false)) in
    let w : Waits limit unit q c.args.stage false text rest =
    line_ended limit unit p q c.args.stage text ahead rest (subst (λ pl. IsReadingAt limit unit p pl text ahead) at_state here)
    refl refl refl refl refl c.skip_line-rest.ensures.line some in
    break_passed limit unit q c.args.stage text ahead rest c.split_at.result.1.now w free c.skip_line-rest.ensures.line some c.split_at.ensures.back
