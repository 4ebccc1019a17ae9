use Rattle.std.proofs.Common.{false, ◌+◌, ◌<◌, ◌++◌, length, refl, sym, ◌∙◌, ap, subst, arith}
use Rattle.std.proofs.lemmas.Bool.{eqb-false}
use Rattle.stl_text.specs.TextReader.{IsReading, IsReadingAt, TextReader, Waits, whole}
use Rattle.stl_text.proofs.lemmas.Steps.{empty-list}
use Rattle.stl_text.proofs.lemmas.TextReaders.{kept_on, kept_word, moved_by}
use Rattle.stl_text.proofs.lemmas.FacetRuns.{drop_rest, rest_then}
use Rattle.stl_text.proofs.text_reader.TextReader.resume.Goals as goal

pub returns-then-is_empty-2-clause-read : goal.returns-then-is_empty-2-clause-read
returns-then-is_empty-2-clause-read g c = λ limit unit taken text is.
    let i = c.self.inside in
    let p : TextReader = record { limit = length taken + i.limit; unit = i.unit; count = i.count; state = i.state; held = i.held.items; held_at = i.held_at; facets = taken ++ i.facets.items } in
    let q : TextReader = record { limit = length taken + i.limit; unit = i.unit; count = i.count; state = i.state; held = c.hold.new.held.items; held_at = i.held_at; facets = taken ++ i.facets.items } in
    let chunk = c.args.chunk.now in
    let rest = c.split_at.result.1.now in
    let none = empty-list rest (sym c.is_empty-2.ensures ∙ c.if-is_empty-2.true) in
    let stage = c.in-Word.stage in
    let here : IsReadingAt limit unit p i.state text chunk = subst (λ r. IsReading limit unit taken r text chunk) (sym c.self.view_is) is in
    let w : Waits limit unit p stage false text chunk = subst (λ pl. IsReadingAt limit unit p pl text chunk) c.in-Word.is here in
    let some : 0 < length i.held.items = omega (arith, i.held.ok.0, eqb-false _ 0 (sym c.is_empty.ensures ∙ c.if-is_empty.false)) in
    subst (λ pl. IsReadingAt limit unit q pl text rest) (sym c.in-Word.is)
    (kept_on limit unit p q stage text chunk c.split_at.result.0.now rest rest c.word_len.result w some c.word_len.ensures.len c.split_at.ensures.front
    c.split_at.ensures.back none none
    refl refl refl refl (c.in_default-hold.ensures.held w.word w.held_is) refl)

pub returns-clause-read : goal.returns-clause-read
returns-clause-read g c = λ limit unit taken text is.
    let i = c.self.inside in
    let p : TextReader = record { limit = length taken + i.limit; unit = i.unit; count = i.count; state = i.state; held = i.held.items; held_at = i.held_at; facets = taken ++ i.facets.items } in
    let q : TextReader = whole taken c.read_held.new.self in
    let chunk = c.args.chunk.now in
    let rest = c.split_at.result.1.now in
    let word = c.split_at.result.0.now in
    let kept = c.hold.new.held.items in
    let stage = c.in-Word.stage in
    let here : IsReadingAt limit unit p i.state text chunk = subst (λ r. IsReading limit unit taken r text chunk) (sym c.self.view_is) is in
    let w : Waits limit unit p stage false text chunk = subst (λ pl. IsReadingAt limit unit p pl text chunk) c.in-Word.is here in
    let some : 0 < length i.held.items = omega (arith, i.held.ok.0, eqb-false _ 0 (sym c.is_empty.ensures ∙ c.if-is_empty.false)) in
    let left : 0 < length rest = omega (arith, eqb-false (length rest) 0 (sym c.is_empty-2.ensures ∙ c.if-is_empty-2.false)) in
    let new : TextReader = c.read_held.new.self in
    moved_by limit (length taken + i.limit) unit i.unit q stage new.state (taken ++ i.facets.items) text kept rest i.held_at
    w.limit_is w.unit_is (ap (λ n. length taken + n) c.read_held.ensures.same.0) c.read_held.ensures.same.1
    (kept_word limit unit p stage text chunk kept word rest c.word_len.result w some c.word_len.ensures.len c.split_at.ensures.front
    c.split_at.ensures.back (c.in_default-hold.ensures.held w.word w.held_is) left)
    (c.read_held.ensures.read taken) (c.read_held.ensures.same.2 ∙ w.count_is) c.read_held.ensures.free
    (rest_then text chunk rest w.is_rest (drop_rest c.word_len.result chunk rest c.split_at.ensures.back))
