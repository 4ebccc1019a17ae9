use Rattle.std.proofs.Common.{◌≡◌, ◌≤◌, false, ◌+◌, ◌++◌, ◌<◌, [], length, length-append, refl, sym, ◌∙◌, ap, subst, arith}
use Rattle.std.proofs.lemmas.Bool.{eqb-false}
use Rattle.stl_text.specs.Stage.{in_facets}
use Rattle.stl_text.specs.TextReader.{IsReading, IsReadingAt, TextReader, Waits, at_word}
use Rattle.stl_text.proofs.lemmas.TextReaders.{run_added, run_passed, within_limit}
use Rattle.stl_text.proofs.text_reader.TextReader.jump.Goals as goal

pub returns-in-Err-clause-read : goal.returns-in-Err-clause-read
returns-in-Err-clause-read g c = λ limit unit taken fed chunk run is no more. absurd (no c.in-Err.ensures.fault)

pub returns-clause-read : goal.returns-clause-read
returns-clause-read g c = λ limit unit taken fed chunk run is.
    let i = c.self.inside in
    let p : TextReader = record { limit = length taken + i.limit; unit = i.unit; count = i.count; state = i.state; held = i.held.items; held_at = i.held_at; facets = taken ++ i.facets.items } in
    let q : TextReader = record { limit = length taken + i.limit; unit = i.unit; count = i.count; state = i.state; held = i.held.items; held_at = i.held_at; facets = taken ++ c.add_all.new.facets.items } in
    let text = fed ++ chunk in
    let ahead = c.args.ahead.now in
    let facets = c.args.run.now.facets in
    let to = c.args.run.now.to.now in
    let some : 0 < length ahead = omega (arith, eqb-false (length ahead) 0 (sym c.is_empty.ensures ∙ c.if-is_empty.false)) in
    let free : i.held.items ≡ [] = ap (λ r. r.held) c.self.view_is ∙ c.requires.free some in
    let at_state : i.state ≡ at_word in_facets = c.is_among_facets.ensures.0 c.if-not-is_among_facets.false in
    let here : IsReadingAt limit unit p i.state text ahead = subst (λ r. IsReading limit unit taken r text ahead) (sym c.self.view_is) is in
    let w : Waits limit unit p in_facets false text ahead = subst (λ pl. IsReadingAt limit unit p pl text ahead) at_state here in
    let room : length (taken ++ i.facets.items) + length facets.items ≤ limit =
    omega (
      arith,
      w.limit_is,
      within_limit limit unit in_facets p.facets (text ++ []) (w.after []) (w.stands []),
      c.saturating_sub.ensures,
      c.len.ensures,
      c.len-2.ensures,
      i.facets.ok.0,
      facets.ok.0,
      c.if-saturating_sub-len.false,
      length-append taken i.facets.items,
    ) in
    subst (λ pl. IsReadingAt limit unit q pl text to) (sym at_state)
    (run_passed limit unit p q facets.items fed chunk ahead c.args.run.now.from.now to w free run c.if-ahead-run.false room refl refl refl refl
    (run_added taken i.facets.items facets.items c.deref.result.now c.add_all.new.facets.items c.in_default.ensures.added c.deref.ensures.value))
