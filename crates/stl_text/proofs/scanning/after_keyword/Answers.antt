use Rattle.std.proofs.Common.{◌≡◌, List, ℕ, length, take, drop, true, false, ap, subst, sym, ◌∙◌}
use Rattle.std.specs.Prelude.{not}
use Rattle.std.specs.List.{list_all, before_first}
use Rattle.micro_num.specs.Numeral.{from_first}
use Rattle.stl_text.specs.Text.{is_keyword, is_white}
use Rattle.stl_text.specs.Written.{IsApart}
use Rattle.stl_text.proofs.lemmas.Fronts.{keyword_clear, no_keyword, word_is, rest_is}
use Rattle.stl_text.proofs.scanning.after_keyword.Goals as goal
use Rattle.stl_text.proofs.scanning.after_keyword.Goals.{else-ends_word-via-then-ends_word+else-is_keyword, else-ends_word-via-else-ends_word}

pub returns-then-is_keyword-clause-keyword : goal.returns-then-is_keyword-clause-keyword
returns-then-is_keyword-clause-keyword c =
    let front : List ℕ = c.skip_space-front.result.now in
    let text : List ℕ = c.args.text.now in
    let n : ℕ = length text in
    let is : is_keyword text (take n front) ≡ true = ap (is_keyword text) (sym c.split_at.ensures.front) ∙ sym c.is_keyword.ensures ∙ c.if-is_keyword.true in
    let clear : list_all (λ byte. not (is_white byte)) (take n front) ≡ true = keyword_clear text (take n front) c.requires.word is in
    let apart : IsApart (drop n front) = subst IsApart c.split_at.ensures.back (c.ends_word.ensures.0 c.if-ends_word.true) in
    ap (λ t. is_keyword text (before_first is_white t)) (sym c.skip_space-front.ensures) ∙ ap (is_keyword text) (word_is front n clear apart) ∙ is

pub returns-then-is_keyword-clause-rest : goal.returns-then-is_keyword-clause-rest
returns-then-is_keyword-clause-rest c =
    let front : List ℕ = c.skip_space-front.result.now in
    let text : List ℕ = c.args.text.now in
    let n : ℕ = length text in
    let is : is_keyword text (take n front) ≡ true = ap (is_keyword text) (sym c.split_at.ensures.front) ∙ sym c.is_keyword.ensures ∙ c.if-is_keyword.true in
    let clear : list_all (λ byte. not (is_white byte)) (take n front) ≡ true = keyword_clear text (take n front) c.requires.word is in
    let apart : IsApart (drop n front) = subst IsApart c.split_at.ensures.back (c.ends_word.ensures.0 c.if-ends_word.true) in
    c.split_at.ensures.back ∙ sym (rest_is front n clear apart) ∙ ap (from_first is_white) c.skip_space-front.ensures

pub returns-else-ends_word-clause-none : goal.returns-else-ends_word-clause-none
returns-else-ends_word-clause-none c = λ none.
    let front : List ℕ = c.skip_space-front.result.now in
    let text : List ℕ = c.args.text.now in
    let n : ℕ = length text in
    let other : is_keyword text (take n front) ≡ true → IsApart (drop n front) → ⊥ = λ is apart.
    elim c.else-ends_word.branch [
      | else-ends_word-via-then-ends_word+else-is_keyword w ↦
          let wrong : true ≡ false = sym is ∙ ap (is_keyword text) (sym c.split_at.ensures.front) ∙ sym w.is_keyword.ensures ∙ w.if-is_keyword.false in cc
      | else-ends_word-via-else-ends_word w ↦
          let wrong : true ≡ false = sym (c.ends_word.ensures.1 (subst IsApart (sym c.split_at.ensures.back) apart)) ∙ w.if-ends_word.false in cc
    ] in
    ap (λ t. is_keyword text (before_first is_white t)) (sym c.skip_space-front.ensures) ∙ no_keyword text front other
