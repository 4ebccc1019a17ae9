use Rattle.std.proofs.Common.{◌≡◌, false, ◌+◌, ◌<◌, [], ◌++◌, length, refl, sym, ◌∙◌, ap, subst, arith}
use Rattle.std.proofs.lemmas.Bool.{eqb-false}
use Rattle.std.specs.List.{prefix_len}
use Rattle.stl_text.specs.Text.{is_white}
use Rattle.stl_text.specs.TextReader.{IsReading, IsReadingAt, TextReader, Waits, whole, at_word}
use Rattle.stl_text.proofs.lemmas.Steps.{empty-list}
use Rattle.stl_text.proofs.lemmas.TextReaders.{front_held, front_le, front_word, moved_by, space_passed, first_some}
use Rattle.stl_text.proofs.lemmas.FacetRuns.{drop_rest, rest_then}
use Rattle.stl_text.proofs.text_reader.TextReader.word.Goals as goal

pub returns-then-is_empty-clause-read : goal.returns-then-is_empty-clause-read
returns-then-is_empty-clause-read g c = λ limit unit taken text is.
    let p : TextReader = whole taken c.args.self.now in
    let ahead = c.args.ahead.now in
    let front = c.skip_space-front.result.now in
    let w : Waits limit unit p c.args.stage false text ahead = subst (λ pl. IsReadingAt limit unit p pl text ahead) c.requires.state is in
    subst (λ pl. IsReadingAt limit unit p pl text front) (sym c.requires.state)
    (space_passed limit unit p c.args.stage text ahead front w c.requires.free c.skip_space-front.ensures
    (empty-list front (sym c.is_empty.ensures ∙ c.if-is_empty.true)))

pub returns-in_default-clause-read : goal.returns-in_default-clause-read
returns-in_default-clause-read g c = λ limit unit taken text is.
    let i = c.self.inside in
    let p : TextReader = record { limit = length taken + i.limit; unit = i.unit; count = i.count; state = i.state; held = i.held.items; held_at = i.held_at; facets = taken ++ i.facets.items } in
    let q : TextReader = record { limit = length taken + i.limit; unit = i.unit; count = i.count; state = i.state; held = c.hold.new.held.items; held_at = c.saturating_sub-at.result; facets = taken ++ i.facets.items } in
    let ahead = c.args.ahead.now in
    let front = c.skip_space-front.result.now in
    let rest = c.split_at.result.1.now in
    let at_state : i.state ≡ at_word c.args.stage = ap (λ r. r.state) c.self.view_is ∙ c.requires.state in
    let free : i.held.items ≡ [] = ap (λ r. r.held) c.self.view_is ∙ c.requires.free in
    let here : IsReadingAt limit unit p i.state text ahead = subst (λ r. IsReading limit unit taken r text ahead) (sym c.self.view_is) is in
    let w : Waits limit unit p c.args.stage false text ahead = subst (λ pl. IsReadingAt limit unit p pl text ahead) at_state here in
    let some : 0 < length front = omega (arith, eqb-false (length front) 0 (sym c.is_empty.ensures ∙ c.if-is_empty.false)) in
    subst (λ pl. IsReadingAt limit unit q pl text rest) (sym at_state)
    (front_held limit unit p q c.args.stage text ahead front c.split_at.result.0.now rest c.word_len.result w free c.skip_space-front.ensures some
    c.word_len.ensures.len c.split_at.ensures.front c.split_at.ensures.back (empty-list rest (sym c.is_empty-2.ensures ∙ c.if-is_empty-2.true))
    refl refl refl refl (c.in_default.ensures.held [] free) c.saturating_sub-at.ensures)

pub returns-clause-read : goal.returns-clause-read
returns-clause-read g c = λ limit unit taken text is.
    let i = c.self.inside in
    let p : TextReader = record { limit = length taken + i.limit; unit = i.unit; count = i.count; state = i.state; held = i.held.items; held_at = i.held_at; facets = taken ++ i.facets.items } in
    let q : TextReader = record {
      limit = length taken + i.limit;
      unit = i.unit;
      count = i.count;
      state = c.read_word-self-inside.result;
      held = i.held.items;
      held_at = i.held_at;
      facets = taken ++ c.read_word-self-inside.new.facets.items;
    } in
    let ahead = c.args.ahead.now in
    let front = c.skip_space-front.result.now in
    let rest = c.split_at.result.1.now in
    let word = c.split_at.result.0.now in
    let at_state : i.state ≡ at_word c.args.stage = ap (λ r. r.state) c.self.view_is ∙ c.requires.state in
    let free : i.held.items ≡ [] = ap (λ r. r.held) c.self.view_is ∙ c.requires.free in
    let here : IsReadingAt limit unit p i.state text ahead = subst (λ r. IsReading limit unit taken r text ahead) (sym c.self.view_is) is in
    let w : Waits limit unit p c.args.stage false text ahead = subst (λ pl. IsReadingAt limit unit p pl text ahead) at_state here in
    let left : 0 < length rest = omega (arith, eqb-false (length rest) 0 (sym c.is_empty-2.ensures ∙ c.if-is_empty-2.false)) in
    moved_by limit (length taken + i.limit) unit i.unit q c.args.stage c.read_word-self-inside.result (taken ++ i.facets.items) text word rest c.saturating_sub-at.result
    w.limit_is w.unit_is refl refl
    (front_word limit unit p c.args.stage text ahead front word rest c.saturating_sub-at.result c.word_len.result w free c.skip_space-front.ensures
    c.word_len.ensures.len c.split_at.ensures.front c.split_at.ensures.back left c.saturating_sub-at.ensures)
    (c.read_word-self-inside.ensures taken) w.count_is free
    (rest_then text ahead rest w.is_rest
    (rest_then ahead front rest (drop_rest (prefix_len is_white ahead) ahead front c.skip_space-front.ensures)
    (drop_rest c.word_len.result front rest c.split_at.ensures.back)))

pub returns-clause-shorter : goal.returns-clause-shorter
returns-clause-shorter g c =
    let front = c.skip_space-front.result.now in
    let some : 0 < length front = omega (arith, eqb-false (length front) 0 (sym c.is_empty.ensures ∙ c.if-is_empty.false)) in
    let word : 0 < length c.split_at.result.0.now =
    first_some c.args.ahead.now front c.split_at.result.0.now c.word_len.result c.skip_space-front.ensures some c.word_len.ensures.len c.split_at.ensures.front in
    omega (arith, word, front_le c.args.ahead.now front c.skip_space-front.ensures, c.split_at.ensures.front_len, c.split_at.ensures.back_len, c.word_len.ensures.within)
