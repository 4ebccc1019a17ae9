use Rattle.std.proofs.Common.{◌≡◌, List, ℕ, ℤ, length, take, drop, true, false, ap, subst, sym, ◌∙◌, w32, FitsSigned, rules}
use Rattle.std.proofs.lemmas.Int.{to_z-of_z}
use Rattle.std.specs.Prelude.{Ok, not}
use Rattle.std.specs.List.{list_all, before_first}
use Rattle.micro_num.specs.Micrometres.{coordinate_of}
use Rattle.micro_num.specs.Numeral.{from_first}
use Rattle.stl_text.specs.Text.{is_white}
use Rattle.stl_text.specs.Written.{IsApart}
use Rattle.stl_text.proofs.lemmas.Fronts.{coordinate_clear, coordinate_front, number_ended, rest_is, same_count, word_apart, word_end, word_is, word_whole}
use Rattle.stl_text.proofs.scanning.after_front.Goals as goal

pub returns-then-ends_word-clause-front : goal.returns-then-ends_word-clause-front
returns-then-ends_word-clause-front c =
    coordinate_front c.args.unit c.in_ok-z.count c.args.bytes.now c.in_ok-z.z c.in_ok-z.ensures.exact

pub returns-then-ends_word-clause-read : goal.returns-then-ends_word-clause-read
returns-then-ends_word-clause-read c =
    let front : List ℕ = c.args.bytes.now in
    let n : ℕ = c.in_ok-z.count in
    let z : ℤ = c.in_ok-z.z in
    let fits : FitsSigned w32 z = search rules in
    let is : coordinate_of c.args.unit (take n front) ≡ Ok z = c.in_ok-z.ensures.exact in
    let clear : list_all (λ byte. not (is_white byte)) (take n front) ≡ true = coordinate_clear c.args.unit (take n front) z is in
    let apart : IsApart (drop n front) = subst IsApart c.split_at.ensures.back (c.ends_word.ensures.0 c.if-ends_word.true) in
    ap (λ t. coordinate_of c.args.unit (before_first is_white t)) (coordinate_front c.args.unit n front z is)
    ∙ ap (coordinate_of c.args.unit) (word_is front n clear apart) ∙ is ∙ ap Ok (sym (to_z-of_z w32 z fits))

pub returns-then-ends_word-clause-rest : goal.returns-then-ends_word-clause-rest
returns-then-ends_word-clause-rest c =
    let front : List ℕ = c.args.bytes.now in
    let n : ℕ = c.in_ok-z.count in
    let z : ℤ = c.in_ok-z.z in
    let is : coordinate_of c.args.unit (take n front) ≡ Ok z = c.in_ok-z.ensures.exact in
    let clear : list_all (λ byte. not (is_white byte)) (take n front) ≡ true = coordinate_clear c.args.unit (take n front) z is in
    let apart : IsApart (drop n front) = subst IsApart c.split_at.ensures.back (c.ends_word.ensures.0 c.if-ends_word.true) in
    c.split_at.ensures.back ∙ sym (rest_is front n clear apart) ∙ ap (from_first is_white) (sym (coordinate_front c.args.unit n front z is))

pub returns-in_err-z-clause-none : goal.returns-in_err-z-clause-none
returns-in_err-z-clause-none c = λ none at z is.
    let front : List ℕ = c.args.bytes.now in
    let read : coordinate_of c.args.unit (before_first is_white front) ≡ Ok z =
    ap (λ t. coordinate_of c.args.unit (before_first is_white t)) (sym at) ∙ is in
    let found = c.in_err-z.ensures.reads (before_first is_white front) (from_first is_white front) z (word_whole front)
    (number_ended (from_first is_white front) (word_apart front)) read in
    cc

pub returns-else-ends_word-clause-none : goal.returns-else-ends_word-clause-none
returns-else-ends_word-clause-none c = λ none at z is.
    let front : List ℕ = c.args.bytes.now in
    let read : coordinate_of c.args.unit (before_first is_white front) ≡ Ok z =
    ap (λ t. coordinate_of c.args.unit (before_first is_white t)) (sym at) ∙ is in
    let found = c.in_ok-z.ensures.reads (before_first is_white front) (from_first is_white front) z (word_whole front)
    (number_ended (from_first is_white front) (word_apart front)) read in
    let count : c.in_ok-z.count ≡ length (before_first is_white front) =
    same_count c.in_ok-z.z z c.in_ok-z.count (length (before_first is_white front)) found in
    let ends : c.ends_word.result ≡ true =
    c.ends_word.ensures.1 (subst IsApart (sym c.split_at.ensures.back) (word_end front c.in_ok-z.count count)) in
    let wrong : true ≡ false = sym ends ∙ c.if-ends_word.false in
    cc
