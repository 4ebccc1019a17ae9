use Rattle.std.proofs.Common.{◌≡◌, false, refl, sym, ◌∙◌, arith}
use Rattle.stl_text.specs.declared.stl_fault.StlFault.TheVariants.{Expected, TooMany}
use Rattle.stl_text.specs.declared.word.Word.TheVariants.{FacetOrEnd}
use Rattle.stl_text.specs.Text.{end_keyword, facet_keyword, first_word, is_wanted}
use Rattle.stl_text.proofs.lemmas.Stages.{end_read, facet_begun, stuck_facets, too_many}
use Rattle.stl_text.proofs.lemmas.WordFronts.{same_keyword, same_some}
use Rattle.stl_text.proofs.stage.step_facets.Goals as goal

pub returns-then-room-eq0-clause-fault : goal.returns-then-room-eq0-clause-fault
returns-then-room-eq0-clause-fault c = λ limit unit facets text after w room_is.
    too_many limit unit facets text after (TooMany c.args.at) w.stands (
      refl,
      omega (arith, room_is, c.if-room-eq0.true, w.stands.form),
      same_keyword facet_keyword (first_word after) c.args.word.now (omega arith) w.word_is ∙ sym c.is_keyword.ensures ∙ c.if-is_keyword.true,
      w.at_is,
    )
    (λ e. cc)

pub returns-then-is_keyword-clause-read : goal.returns-then-is_keyword-clause-read
returns-then-is_keyword-clause-read c = λ limit unit facets text after w room_is.
    facet_begun limit unit facets c.unread_facet.result text after w.stands
    (same_keyword facet_keyword (first_word after) c.args.word.now (omega arith) w.word_is ∙ sym c.is_keyword.ensures ∙ c.if-is_keyword.true)
    (omega (arith, room_is, c.if-room-eq0.false))

pub returns-then-is_keyword-2-clause-read : goal.returns-then-is_keyword-2-clause-read
returns-then-is_keyword-2-clause-read c = λ limit unit facets text after w room_is.
    end_read limit unit facets text after w.stands
    (same_keyword end_keyword (first_word after) c.args.word.now (omega arith) w.word_is ∙ sym c.is_keyword-2.ensures ∙ c.if-is_keyword-2.true)

pub returns-clause-fault : goal.returns-clause-fault
returns-clause-fault c = λ limit unit facets text after w room_is.
    let word = first_word after in
    let no_facet = same_keyword facet_keyword word c.args.word.now (omega arith) w.word_is ∙ sym c.is_keyword.ensures ∙ c.if-is_keyword.false in
    let no_end = same_keyword end_keyword word c.args.word.now (omega arith) w.word_is ∙ sym c.is_keyword-2.ensures ∙ c.if-is_keyword-2.false in
    let other : is_wanted FacetOrEnd word ≡ false = rw (no_facet, no_end) refl in
    stuck_facets limit unit facets text after (Expected FacetOrEnd c.args.at) w.stands
    (refl, λ e. cc, same_some word c.args.word.now w.word_is w.some, other, w.at_is)
    (λ e. cc)
