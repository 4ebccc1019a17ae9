use Rattle.std.proofs.Common.{◌≡◌, false, ◌+◌, ◌<◌, [], ◌∷◌, ◌++◌, append_assoc, length, length-append, refl, sym, ◌∙◌, ap, subst, arith}
use Rattle.std.specs.Prelude.{Some}
use Rattle.stl_text.specs.Text.{facet_tokens, rest_after}
use Rattle.stl_text.specs.Stage.{in_facets}
use Rattle.stl_text.specs.TextReader.{IsReading, IsReadingAt, TextReader, Waits, at_word}
use Rattle.stl_text.proofs.lemmas.TextReaders.{facet_passed}
use Rattle.stl_text.proofs.text_reader.TextReader.facet.Goals as goal

pub returns-in-Err-clause-read : goal.returns-in-Err-clause-read
returns-in-Err-clause-read g c = λ limit unit taken text is no more. absurd (no c.in-Err.ensures.fault)

pub returns-clause-read : goal.returns-clause-read
returns-clause-read g c = λ limit unit taken text is.
    let i = c.self.inside in
    let p : TextReader = record { limit = length taken + i.limit; unit = i.unit; count = i.count; state = i.state; held = i.held.items; held_at = i.held_at; facets = taken ++ i.facets.items } in
    let q : TextReader = record { limit = length taken + i.limit; unit = i.unit; count = i.count; state = i.state; held = i.held.items; held_at = i.held_at; facets = taken ++ c.add.new.facets.items } in
    let ahead = c.args.ahead.now in
    let rest = c.in-Some.found.1.now in
    let at_state : i.state ≡ at_word in_facets = ap (λ r. r.state) c.self.view_is ∙ c.requires.state in
    let free : i.held.items ≡ [] = ap (λ r. r.held) c.self.view_is ∙ c.requires.free in
    let here : IsReadingAt limit unit p i.state text ahead = subst (λ r. IsReading limit unit taken r text ahead) (sym c.self.view_is) is in
    let w : Waits limit unit p in_facets false text ahead = subst (λ pl. IsReadingAt limit unit p pl text ahead) at_state here in
    let room : length (taken ++ i.facets.items) < limit =
    omega (arith, w.limit_is, c.len.ensures, i.facets.ok.0, c.if-len-self.false, length-append taken i.facets.items) in
    subst (λ pl. IsReadingAt limit unit q pl text rest) (sym at_state)
    (facet_passed limit unit p q c.in-Some.found.0 text ahead rest w free
    (subst (λ u. rest_after u (facet_tokens c.in-Some.found.0) ahead ≡ Some rest) w.unit_is c.in-Some.ensures.read) c.in-Some.ensures.some
    room refl refl refl refl (ap (λ fs. taken ++ fs) c.in_default-add.ensures.added ∙ sym (append_assoc taken i.facets.items (c.in-Some.found.0 ∷ []))))
