use Rattle.std.proofs.Common.{ap, sym, ◌∙◌, arith, ◌≡◌, ◌≢◌, ℤ, pos, ◌-ℤ◌, neg_ℤ, w32, to_z, of_z}
use Rattle.std.specs.Prelude.{Ok, Err}
use Rattle.std.proofs.lemmas.Int.{ints}
use Rattle.std.proofs.lemmas.Result.{err_from_is_err_and}
use Rattle.micro_num.specs.Numeral.{sign_of, after_sign, minus}
use Rattle.micro_num.specs.Scan.{text_magnitude}
use Rattle.micro_num.proofs.lemmas.Coordinates.{coordinate-is, signed, turned-plus}
use Rattle.micro_num.proofs.reading.read_word.Goals as goal

pub returns-in_err-magnitude : goal.returns-in_err-magnitude
returns-in_err-magnitude c =
    let p = err_from_is_err_and c.from_residual.result c.from_residual.ensures.1 in
    let same = c.in_err-magnitude.ensures.exact ∙ ap (text_magnitude c.args.unit) c.split_sign-negative.ensures.after in
    let is = coordinate-is c.args.unit c.args.word.now c.if-word-gt-WORD_LIMIT.false in
    p.1 ∙ ap Err p.2 ∙ sym (is ∙ ap (signed (sign_of c.args.word.now)) (sym same))

pub returns-then-negative : goal.returns-then-negative
returns-then-negative c =
    let z : ℤ = c.in_ok-magnitude.magnitude in
    let range = c.in_ok-magnitude.ensures.small in
    let same = c.in_ok-magnitude.ensures.exact ∙ ap (text_magnitude c.args.unit) c.split_sign-negative.ensures.after in
    let is = coordinate-is c.args.unit c.args.word.now c.if-word-gt-WORD_LIMIT.false in
    let minus_is : sign_of c.args.word.now ≡ minus = c.split_sign-negative.ensures.minus.0 c.if-negative.true in
    let value : to_z w32 (of_z w32 (pos 0 -ℤ to_z w32 (of_z w32 z))) ≡ neg_ℤ z = omega (arith, ints) in
    ap Ok value ∙ sym (is ∙ ap (λ s. signed s (text_magnitude c.args.unit (after_sign c.args.word.now))) minus_is ∙ ap (signed minus) (sym same))

pub returns-else-negative : goal.returns-else-negative
returns-else-negative c =
    let z : ℤ = c.in_ok-magnitude.magnitude in
    let range = c.in_ok-magnitude.ensures.small in
    let same = c.in_ok-magnitude.ensures.exact ∙ ap (text_magnitude c.args.unit) c.split_sign-negative.ensures.after in
    let is = coordinate-is c.args.unit c.args.word.now c.if-word-gt-WORD_LIMIT.false in
    let other : sign_of c.args.word.now ≢ minus = λ h. (let both = c.split_sign-negative.ensures.minus.1 h in let false_is = c.if-negative.false in cc) in
    let value : to_z w32 (of_z w32 z) ≡ z = omega (arith, ints) in
    ap Ok (value ∙ sym (turned-plus (sign_of c.args.word.now) z other)) ∙ sym (is ∙ ap (signed (sign_of c.args.word.now)) (sym same))
