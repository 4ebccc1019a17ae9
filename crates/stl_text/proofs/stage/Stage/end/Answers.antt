use Rattle.std.proofs.Common.{◌≡◌, pos, refl, ◌∙◌, ap, subst}
use Rattle.stl_text.specs.declared.stl_fault.StlFault.TheVariants.{Ended}
use Rattle.stl_text.specs.declared.word.Word.TheVariants.{FacetOrEnd, Number, Solid}
use Rattle.stl_text.specs.declared.stage.Stage.TheVariants.{Between}
use Rattle.stl_text.specs.Text.{coordinate, keyword_of, normal_word}
use Rattle.stl_text.specs.Stage.{Stands, inside, with_number}
use Rattle.stl_text.proofs.lemmas.Stages.{ended_first, stuck_facets, stuck_inside}
use Rattle.stl_text.proofs.stage.Stage.end.Goals as goal
use Rattle.stl_text.proofs.lemmas.OneReading.{ended_word}

pub returns-in-Between-false-clause-fault : goal.returns-in-Between-false-clause-fault
returns-in-Between-false-clause-fault c = λ limit unit facets text after s e.
    ended_first limit unit facets text after
    (subst (λ v. Stands limit unit v facets text after) (c.in-Between-false.is ∙ ap Between c.in-Between-false.some-test) s) e

pub returns-in-Facets-clause-fault : goal.returns-in-Facets-clause-fault
returns-in-Facets-clause-fault c = λ limit unit facets text after s e.
    stuck_facets limit unit facets text after (Ended FacetOrEnd)
    (subst (λ v. Stands limit unit v facets text after) c.in-Facets.is s) (refl, ended_word after e) (λ h. cc)

pub returns-in-Keyword-clause-fault : goal.returns-in-Keyword-clause-fault
returns-in-Keyword-clause-fault c = λ limit unit facets text after s e.
    let words = c.in-Inside.words in
    let t = c.in-Inside.facet in
    let kind = c.in-Keyword.kind in
    let stands : Stands limit unit (inside words t) facets text after =
    subst (λ v. Stands limit unit v facets text after) c.in-Inside.is s in
    let wants = c.in-Keyword.ensures.wanted stands.form.0 in
    stuck_inside limit unit words facets t t (keyword_of kind) text after (Ended kind) stands (wants.1 t)
    (λ before. (refl, ended_word after e))
    (λ h. let same : kind ≡ Solid = cc in absurd (wants.0 same))

pub returns-in-NormalWord-clause-fault : goal.returns-in-NormalWord-clause-fault
returns-in-NormalWord-clause-fault c = λ limit unit facets text after s e.
    let words = c.in-Inside.words in
    let t = c.in-Inside.facet in
    let stands : Stands limit unit (inside words t) facets text after =
    subst (λ v. Stands limit unit v facets text after) c.in-Inside.is s in
    stuck_inside limit unit words facets t t normal_word text after (Ended Number) stands (c.in-NormalWord.ensures.wanted stands.form.0 t)
    (λ before. (refl, ended_word after e)) (λ h. cc)

pub returns-in-Number-clause-fault : goal.returns-in-Number-clause-fault
returns-in-Number-clause-fault c = λ limit unit facets text after s e.
    let words = c.in-Inside.words in
    let t = c.in-Inside.facet in
    let stands : Stands limit unit (inside words t) facets text after =
    subst (λ v. Stands limit unit v facets text after) c.in-Inside.is s in
    stuck_inside limit unit words facets t (with_number c.in-Number.field-0 c.in-Number.field-1 (pos 0) t) (coordinate (pos 0)) text after (Ended Number) stands
    (c.in-Number.ensures.wanted stands.form.0 t (pos 0)) (λ before. (refl, ended_word after e)) (λ h. cc)
