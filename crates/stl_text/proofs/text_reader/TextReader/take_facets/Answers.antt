use Rattle.std.proofs.Common.{◌++◌, ◌∙◌, [], length-append, append-nil, ap, refl, sym, subst, arith}
use Rattle.stl_text.specs.TextReader.{IsAfter, IsReadingAt, TextReader, whole}
use Rattle.stl_text.proofs.lemmas.TextReaders.{taken_off}
use Rattle.stl_text.proofs.text_reader.TextReader.take_facets.Goals as goal

pub returns-clause-after : goal.returns-clause-after
returns-clause-after g c = λ limit unit taken fed is.
    let i = c.self.inside in
    let r : TextReader = record { limit = i.limit; unit = i.unit; count = i.count; state = i.state; held = i.held.items; held_at = i.held_at; facets = i.facets.items } in
    let left : TextReader = record {
      limit = c.saturating_sub-self-inside.result;
      unit = i.unit;
      count = i.count;
      state = i.state;
      held = i.held.items;
      held_at = i.held_at;
      facets = c.swap.new.x.items;
    } in
    let here : IsReadingAt limit unit (whole taken r) i.state fed [] = subst (λ p. IsAfter limit unit taken p fed) (sym c.self.view_is) is in
    subst (λ fs. IsAfter limit unit (taken ++ fs) left fed) (ap (λ p. p.facets) c.self.view_is)
    (taken_off limit unit (whole taken r) (whole (taken ++ i.facets.items) left) i.state fed [] here
    (λ few. omega (arith, few, c.saturating_sub-self-inside.ensures, c.len.ensures, i.facets.ok.0, length-append taken i.facets.items))
    refl refl refl refl (ap (λ v. (taken ++ i.facets.items) ++ v.items) c.swap.ensures.x_after
    ∙ ap (λ fs. (taken ++ i.facets.items) ++ fs) c.clear.ensures.items ∙ append-nil (taken ++ i.facets.items)))

pub returns-clause-given : goal.returns-clause-given
returns-clause-given g c = ap (λ v. v.items) c.swap.ensures.y_after ∙ ap (λ p. p.facets) c.self.view_is
