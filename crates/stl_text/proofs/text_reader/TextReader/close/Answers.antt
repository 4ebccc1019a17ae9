use Rattle.std.proofs.Common.{◌≡◌, false, ◌+◌, ◌<◌, [], ◌++◌, length, sym, ◌∙◌, ap, subst, arith}
use Rattle.std.proofs.lemmas.Bool.{eqb-false, eqb-true}
use Rattle.exact_int.proofs.lemmas.Lists.{nil-of-length}
use Rattle.stl_text.specs.TextReader.{EndsAt, IsAfter, IsReadingAt, TextReader, Waits, whole}
use Rattle.stl_text.proofs.lemmas.TextReaders.{ended_by, ends_between, ends_free}
use Rattle.stl_text.proofs.text_reader.TextReader.close.Goals as goal

pub returns-in_default : goal.returns-in_default
returns-in_default g c = λ limit unit taken fed is.
    let i = c.self.inside in
    let p : TextReader = record { limit = length taken + i.limit; unit = i.unit; count = i.count; state = i.state; held = i.held.items; held_at = i.held_at; facets = taken ++ i.facets.items } in
    let here : IsReadingAt limit unit p i.state fed [] = subst (λ r. IsAfter limit unit taken r fed) (sym c.self.view_is) is in
    rw (← c.self.view_is) (ends_between limit unit p i.state fed c.in_default.not-Word here)

pub returns-then-is_empty : goal.returns-then-is_empty
returns-then-is_empty g c = λ limit unit taken fed is.
    let i = c.self.inside in
    let p : TextReader = record { limit = length taken + i.limit; unit = i.unit; count = i.count; state = i.state; held = i.held.items; held_at = i.held_at; facets = taken ++ i.facets.items } in
    let here : IsReadingAt limit unit p i.state fed [] = subst (λ r. IsAfter limit unit taken r fed) (sym c.self.view_is) is in
    let none : i.held.items ≡ [] = nil-of-length i.held.items (omega (arith, i.held.ok.0, eqb-true _ 0 (sym c.is_empty.ensures ∙ c.if-is_empty.true))) in
    rw (← c.self.view_is) (ends_free limit unit p i.state fed none here)

pub returns : goal.returns
returns g c = λ limit unit taken fed is.
    let old : TextReader = c.args.self.now in
    let new : TextReader = c.read_held.new.self in
    let stage = c.in-Word.last in
    let w : Waits limit unit (whole taken old) stage false fed [] =
    subst (λ pl. IsReadingAt limit unit (whole taken old) pl fed []) (sym (ap (λ r. r.state) c.self.view_is) ∙ c.in-Word.is) is in
    let some : 0 < length old.held =
    omega (arith, ap (λ r. length r.held) c.self.view_is, c.self.inside.held.ok.0, eqb-false _ 0 (sym c.is_empty.ensures ∙ c.if-is_empty.false)) in
    let ends : EndsAt limit unit new.state (taken ++ new.facets) fed =
    ended_by limit (length taken + old.limit) unit old.unit (whole taken old) stage new.state (taken ++ new.facets) fed
    w.limit_is w.unit_is w some (c.read_held.ensures.read taken) in
    subst (λ pl. EndsAt limit unit pl (taken ++ new.facets) fed) (sym (ap (λ r. r.state) c.self-2.view_is)) ends
