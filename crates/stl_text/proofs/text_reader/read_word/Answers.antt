use Rattle.std.proofs.Common.{◌≡◌, ◌+◌, [], ◌∷◌, ◌++◌, append_assoc, length, length-append, sym, ◌∙◌, ap, subst, arith}
use Rattle.stl_text.specs.Stage.{Stands, StandsAfter, in_facets}
use Rattle.stl_text.specs.Text.{after_word}
use Rattle.stl_text.proofs.text_reader.read_word.Goals as goal

pub returns-in-Err : goal.returns-in-Err
returns-in-Err g c = λ taken text after w no.
    let facets = c.args.facets.now.items in
    c.in-Err.ensures.fault (length taken + c.args.limit) (taken ++ facets) text after w
    (omega (arith, c.saturating_sub-room.ensures, c.len.ensures, c.args.facets.now.ok.0, length-append taken facets))

pub returns-in-To : goal.returns-in-To
returns-in-To g c = λ taken text after w.
    let limit = length taken + c.args.limit in
    let facets = c.args.facets.now.items in
    subst (λ s. StandsAfter limit c.args.unit (taken ++ facets) text after s) c.in-To.is
    (c.in-Ok.ensures.read limit (taken ++ facets) text after w
    (omega (arith, c.saturating_sub-room.ensures, c.len.ensures, c.args.facets.now.ok.0, length-append taken facets)))

pub returns-in-Line : goal.returns-in-Line
returns-in-Line g c = λ taken text after w.
    let limit = length taken + c.args.limit in
    let facets = c.args.facets.now.items in
    subst (λ s. StandsAfter limit c.args.unit (taken ++ facets) text after s) c.in-Line.is
    (c.in-Ok.ensures.read limit (taken ++ facets) text after w
    (omega (arith, c.saturating_sub-room.ensures, c.len.ensures, c.args.facets.now.ok.0, length-append taken facets)))

pub returns-in-Ok-add : goal.returns-in-Ok-add
returns-in-Ok-add g c = λ taken text after w.
    let limit = length taken + c.args.limit in
    let facets = c.args.facets.now.items in
    let facet = c.in-Whole.facet in
    let grown : taken ++ c.add.new.facets.items ≡ (taken ++ facets) ++ facet ∷ [] =
    ap (λ fs. taken ++ fs) c.in-Ok-add.ensures.added ∙ sym (append_assoc taken facets (facet ∷ [])) in
    subst (λ fs. Stands limit c.args.unit in_facets fs text (after_word after)) (sym grown)
    (subst (λ s. StandsAfter limit c.args.unit (taken ++ facets) text after s) c.in-Whole.is
    (c.in-Ok.ensures.read limit (taken ++ facets) text after w
    (omega (arith, c.saturating_sub-room.ensures, c.len.ensures, c.args.facets.now.ok.0, length-append taken facets))))

pub returns-in-Err-add : goal.returns-in-Err-add
returns-in-Err-add g c = λ taken text after w no. absurd (no c.in-Err-add.ensures.fault)
