use Rattle.std.proofs.Common.{◌≡◌, ◌<◌, List, ℕ, drop, length, subst, sym, ◌∙◌, ap, arith}
use Rattle.std.specs.List.{before_first}
use Rattle.micro_num.specs.Numeral.{from_first}
use Rattle.stl_text.specs.Text.{after_space, is_white}
use Rattle.stl_text.specs.Written.{IsApart}
use Rattle.stl_text.proofs.lemmas.Fronts.{clear_front, rest_is, word_is}
use Rattle.stl_text.proofs.layout.after_short_word.Goals as goal

pub returns-then-ends_word-clause-word : goal.returns-then-ends_word-clause-word
returns-then-ends_word-clause-word c =
    let front : List ℕ = c.args.bytes.now in
    let n : ℕ = c.front_len-count.result in
    let clear = c.front_len-count.ensures.clear in
    let apart : IsApart (drop n front) = subst IsApart c.split_at.ensures.back (c.ends_word.ensures.0 c.if-ends_word.true) in
    let at : after_space front ≡ front = clear_front n front c.if-count-gt0.true clear in
    subst (λ word. 0 < length word) (sym (ap (before_first is_white) at ∙ word_is front n clear apart))
    (omega (arith, c.split_at.ensures.front_len, ap length c.split_at.ensures.front, c.if-count-gt0.true))

pub returns-then-ends_word-clause-rest : goal.returns-then-ends_word-clause-rest
returns-then-ends_word-clause-rest c =
    let front : List ℕ = c.args.bytes.now in
    let n : ℕ = c.front_len-count.result in
    let clear = c.front_len-count.ensures.clear in
    let apart : IsApart (drop n front) = subst IsApart c.split_at.ensures.back (c.ends_word.ensures.0 c.if-ends_word.true) in
    let at : after_space front ≡ front = clear_front n front c.if-count-gt0.true clear in
    c.split_at.ensures.back ∙ sym (rest_is front n clear apart) ∙ ap (from_first is_white) (sym at)
