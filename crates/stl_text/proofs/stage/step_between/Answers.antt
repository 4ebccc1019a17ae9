use Rattle.std.proofs.Common.{◌≡◌, refl, sym, ◌∙◌, ap, arith}
use Rattle.stl_text.specs.declared.stl_fault.StlFault.TheVariants.{Expected}
use Rattle.stl_text.specs.declared.word.Word.TheVariants.{Solid}
use Rattle.stl_text.specs.Text.{first_word, is_keyword, keyword_text}
use Rattle.stl_text.proofs.lemmas.Stages.{solid_read, stuck_between}
use Rattle.stl_text.proofs.lemmas.WordFronts.{same_keyword, same_some}
use Rattle.stl_text.proofs.stage.step_between.Goals as goal

pub returns-then-is_keyword-clause-read : goal.returns-then-is_keyword-clause-read
returns-then-is_keyword-clause-read c = λ limit unit some facets text after w.
    let same : c.as_bytes.result.now ≡ keyword_text Solid = c.as_bytes.ensures.value ∙ c.text.ensures.keyword refl in
    solid_read limit unit some facets text after w.stands
    (same_keyword (keyword_text Solid) (first_word after) c.args.word.now (omega arith) w.word_is ∙ ap (λ t. is_keyword t c.args.word.now) (sym same)
    ∙ sym c.is_keyword.ensures ∙ c.if-is_keyword.true)

pub returns-else-is_keyword-clause-fault : goal.returns-else-is_keyword-clause-fault
returns-else-is_keyword-clause-fault c = λ limit unit some facets text after w.
    let same : c.as_bytes.result.now ≡ keyword_text Solid = c.as_bytes.ensures.value ∙ c.text.ensures.keyword refl in
    stuck_between limit unit some facets text after (Expected Solid c.args.at) w.stands
    (λ before. (
      refl,
      λ e. cc,
      same_some (first_word after) c.args.word.now w.word_is w.some,
      same_keyword (keyword_text Solid) (first_word after) c.args.word.now (omega arith) w.word_is ∙ ap (λ t. is_keyword t c.args.word.now) (sym same)
          ∙ sym c.is_keyword.ensures ∙ c.if-is_keyword.false,
      w.at_is,
    ))
    (λ e. cc)
