use Rattle.std.proofs.Common.{List, ℕ, ◌-◌, length, length-append, take, arith, ap, subst, sym, ◌∙◌, ◌≡◌, pos, rules, w32}
use Rattle.std.specs.Prelude.{FitsSigned, Ok}
use Rattle.std.proofs.lemmas.Int.{to_z-of_z}
use Rattle.std.proofs.Math.Seq.{take-take}
use Rattle.micro_num.specs.Micrometres.{coordinate_of}
use Rattle.micro_num.specs.Numeral.{sign_of, after_sign}
use Rattle.micro_num.specs.Scan.{IsNumberFront}
use Rattle.micro_num.proofs.lemmas.Coordinates.{front_beyond, front_coordinate, found_word, not_beyond, reads_number, turned-by}
use Rattle.micro_num.proofs.reading.long_front.Goals as goal

pub returns-clause-exact : goal.returns-clause-exact
returns-clause-exact c =
    let text : List ℕ = c.split_at.result.0.now in
    let rest : List ℕ = c.in_ok-magnitude.after.now in
    let magnitude : ℕ = c.in_ok-magnitude.magnitude in
    let fits : FitsSigned w32 c.in_ok-coordinate.coordinate = search rules in
    let front : IsNumberFront c.args.unit (after_sign text) rest magnitude =
    subst (λ t. IsNumberFront c.args.unit t rest magnitude) c.split_sign-negative.ensures.after c.in_ok-magnitude.ensures.front in
    let same : take (length text - length rest) text ≡ take (length text - length rest) c.args.bytes.now =
    ap (take (length text - length rest)) c.split_at.ensures.front ∙ take-take (length text - length rest) _ c.args.bytes.now (omega (arith, c.split_at.ensures.front_len)) in
    ap (coordinate_of c.args.unit) (sym same)
    ∙ front_coordinate c.args.unit text rest magnitude front (omega (arith, c.split_at.ensures.front_len)) c.in_ok-coordinate.ensures.in_range
    ∙ ap Ok (sym (to_z-of_z w32 c.in_ok-coordinate.coordinate fits ∙ c.in_ok-coordinate.ensures.value ∙ turned-by (sign_of text) _ (pos magnitude) c.split_sign-negative.ensures.minus))

pub returns-in_err-magnitude-clause-reads : goal.returns-in_err-magnitude-clause-reads
returns-in_err-magnitude-clause-reads c = λ word rest z spelled ended is.
    let number = reads_number c.args.unit c.args.bytes.now word rest c.split_at.result.0.now _ _ z (λ _. ⊥) spelled ended is c.split_at.ensures.front
    (λ short. omega (arith, ap length spelled, length-append word rest)) c.split_sign-negative.ensures.after c.in_err-magnitude.ensures.reads in
    absurd number.1

pub returns-in_err-coordinate-clause-reads : goal.returns-in_err-coordinate-clause-reads
returns-in_err-coordinate-clause-reads c = λ word rest z spelled ended is.
    let text : List ℕ = c.split_at.result.0.now in
    let after : List ℕ = c.in_ok-magnitude.after.now in
    let number = reads_number c.args.unit c.args.bytes.now word rest text _ _ z (λ left. after ≡ left) spelled ended is c.split_at.ensures.front
    (λ short. omega (arith, ap length spelled, length-append word rest)) c.split_sign-negative.ensures.after c.in_ok-magnitude.ensures.reads in
    let front : IsNumberFront c.args.unit (after_sign text) after c.in_ok-magnitude.magnitude =
    subst (λ t. IsNumberFront c.args.unit t after c.in_ok-magnitude.magnitude) c.split_sign-negative.ensures.after c.in_ok-magnitude.ensures.front in
    absurd (not_beyond c.args.unit text word number.0 (length text - length after) number.2
    (omega (arith, ap length number.1, ap length number.2, length-append word number.0)) z
    (front_beyond c.args.unit text after c.in_ok-magnitude.magnitude front (omega (arith, c.split_at.ensures.front_len)) c.in_err-coordinate.ensures.in_range) is)

pub returns-clause-reads : goal.returns-clause-reads
returns-clause-reads c = λ word rest z spelled ended is.
    let text : List ℕ = c.split_at.result.0.now in
    let after : List ℕ = c.in_ok-magnitude.after.now in
    let number = reads_number c.args.unit c.args.bytes.now word rest text _ _ z (λ left. after ≡ left) spelled ended is c.split_at.ensures.front
    (λ short. omega (arith, ap length spelled, length-append word rest)) c.split_sign-negative.ensures.after c.in_ok-magnitude.ensures.reads in
    found_word c.args.unit c.args.bytes.now word rest _ spelled
    (omega (arith, ap length number.1, ap length number.2, length-append word number.0)) _ z (returns-clause-exact c) is
