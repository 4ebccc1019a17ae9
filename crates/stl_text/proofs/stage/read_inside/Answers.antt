use Rattle.std.proofs.Common.{◌≡◌, false, FitsSigned, pos, rules, w32, refl, sym, ◌∙◌, ap}
use Rattle.std.specs.Prelude.{Err}
use Rattle.std.proofs.lemmas.Int.{to_z-of_z}
use Rattle.micro_num.specs.Micrometres.{coordinate_of}
use Rattle.stl_text.specs.Text.{coordinate, first_word, is_keyword, is_wanted, keyword_of, keyword_text, normal_word}
use Rattle.stl_text.specs.Stage.{with_number}
use Rattle.stl_text.proofs.lemmas.Steps.{NamesKeyword, coordinate-within-bits, names_keyword}
use Rattle.stl_text.proofs.lemmas.Stages.{reads_as, reads_number}
use Rattle.stl_text.proofs.lemmas.WordFronts.{same_keyword, same_number, same_some}
use Rattle.stl_text.proofs.stage.read_inside.Goals as goal

pub returns-then-is_keyword-clause-read : goal.returns-then-is_keyword-clause-read
returns-then-is_keyword-clause-read c = λ few after word_is some.
    let kind = c.in-Keyword.kind in
    let word = c.args.word.now in
    let names : NamesKeyword kind = names_keyword kind c.in-Keyword.ensures.plain in
    let text : c.as_bytes.result.now ≡ keyword_text kind = c.as_bytes.ensures.value ∙ c.text.ensures.keyword c.in-Keyword.ensures.plain in
    record {
      token = keyword_of kind;
      goes = (c.in-Keyword.ensures.wanted few).1 c.args.facet;
      begins = same_keyword (keyword_text kind) (first_word after) word names.short word_is ∙ ap (λ t. is_keyword t word) (sym text) ∙ sym c.is_keyword.ensures ∙ c.if-is_keyword.true;
      one_word = refl;
    }

pub returns-else-is_keyword-clause-fault : goal.returns-else-is_keyword-clause-fault
returns-else-is_keyword-clause-fault c = λ few after word_is some.
    let kind = c.in-Keyword.kind in
    let word = c.args.word.now in
    let names : NamesKeyword kind = names_keyword kind c.in-Keyword.ensures.plain in
    let text : c.as_bytes.result.now ≡ keyword_text kind = c.as_bytes.ensures.value ∙ c.text.ensures.keyword c.in-Keyword.ensures.plain in
    let other : is_wanted kind (first_word after) ≡ false =
    names.only (first_word after) ∙ same_keyword (keyword_text kind) (first_word after) word names.short word_is ∙ ap (λ t. is_keyword t word) (sym text) ∙ sym c.is_keyword.ensures
    ∙ c.if-is_keyword.false in
    record {
      token = keyword_of kind;
      u = c.args.facet;
      goes = (c.in-Keyword.ensures.wanted few).1 c.args.facet;
      stop = λ room before text offset. (
        refl,
        names.no_number,
        same_some (first_word after) word word_is some,
        other,
        offset,
      );
      other = λ e. cc;
    }

pub returns-in-NormalWord-clause-read : goal.returns-in-NormalWord-clause-read
returns-in-NormalWord-clause-read c = λ few after word_is some.
    record { token = normal_word; goes = c.in-NormalWord.ensures.wanted few c.args.facet; begins = reads_as after c.args.word.now word_is some; one_word = refl }

pub put_in-requires : goal.put_in-requires
put_in-requires c = coordinate-within-bits c.args.unit c.args.word.now c.in-Ok.value (sym c.read_micro.ensures.exact ∙ c.in-Ok.is)

pub returns-in-Ok-clause-read : goal.returns-in-Ok-clause-read
returns-in-Ok-clause-read c = λ few after word_is some.
    let value = c.in-Ok.value in
    let fits : FitsSigned w32 value = search rules in
    rw c.put_in.ensures
    (record {
      token = coordinate value;
      goes = rw (to_z-of_z w32 value fits) (c.in-Number.ensures.wanted few c.args.facet value);
      begins = reads_number c.args.unit after c.args.word.now value word_is (sym c.read_micro.ensures.exact ∙ c.in-Ok.is);
      one_word = refl;
    })

pub returns-in-Err-clause-fault : goal.returns-in-Err-clause-fault
returns-in-Err-clause-fault c = λ few after word_is some.
    let refused : coordinate_of c.args.unit (first_word after) ≡ Err c.in-Err.cause =
    same_number c.args.unit (first_word after) c.args.word.now word_is ∙ sym c.read_micro.ensures.exact ∙ c.in-Err.is in
    record {
      token = coordinate (pos 0);
      u = with_number c.in-Number.corner c.in-Number.axis (pos 0) c.args.facet;
      goes = c.in-Number.ensures.wanted few c.args.facet (pos 0);
      stop = λ room before text offset. (
        (pos 0, refl),
        same_some (first_word after) c.args.word.now word_is some,
        refused,
        offset,
      );
      other = λ e. cc;
    }
