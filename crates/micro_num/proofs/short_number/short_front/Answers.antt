use Rattle.std.proofs.Common.{List, ℕ, length, length-append, arith, ap, subst, sym, ◌∙◌, ◌≡◌, pos, rules, w32}
use Rattle.std.specs.Prelude.{FitsSigned, Ok}
use Rattle.std.proofs.lemmas.Int.{to_z-of_z}
use Rattle.std.proofs.Math.Seq.{take-length}
use Rattle.micro_num.specs.Numeral.{sign_of, after_sign}
use Rattle.micro_num.specs.Scan.{IsNumberFront}
use Rattle.micro_num.proofs.lemmas.Coordinates.{front_coordinate, found_pair, reads_number, turned-by}
use Rattle.micro_num.proofs.short_number.short_front.Goals as goal

pub returns-clause-exact : goal.returns-clause-exact
returns-clause-exact c =
    let text : List ℕ = c.args.bytes.now in
    let rest : List ℕ = c.in_ok-magnitude.after.now in
    let magnitude : ℕ = c.in_ok-magnitude.magnitude in
    let fits : FitsSigned w32 c.in_ok-coordinate.coordinate = search rules in
    let front : IsNumberFront c.args.unit (after_sign text) rest magnitude =
    subst (λ t. IsNumberFront c.args.unit t rest magnitude) c.split_sign-negative.ensures.after c.in_ok-magnitude.ensures.front in
    front_coordinate c.args.unit text rest magnitude front (omega (arith, c.in_ok-magnitude.ensures.within, c.split_sign-negative.ensures.within)) c.in_ok-coordinate.ensures.in_range
    ∙ ap Ok (sym (to_z-of_z w32 c.in_ok-coordinate.coordinate fits ∙ c.in_ok-coordinate.ensures.value ∙ turned-by (sign_of text) _ (pos magnitude) c.split_sign-negative.ensures.minus))

pub returns-clause-reads : goal.returns-clause-reads
returns-clause-reads c = λ word rest z spelled ended is.
    let text : List ℕ = c.args.bytes.now in
    let after : List ℕ = c.in_ok-magnitude.after.now in
    let number = reads_number c.args.unit text word rest text _ (length text) z (λ left. after ≡ left) spelled ended is (sym (take-length text))
    (λ short. omega (arith, ap length spelled, length-append word rest)) c.split_sign-negative.ensures.after c.in_ok-magnitude.ensures.reads in
    found_pair c.args.unit text word rest _ spelled
    (omega (arith, ap length number.1, ap length number.2, length-append word number.0)) _ z (returns-clause-exact c) is

pub returns-in_err-magnitude : goal.returns-in_err-magnitude
returns-in_err-magnitude c = rw c.from_residual.ensures (record { exact = tt; within = tt; reads = tt })

pub returns-in_err-coordinate : goal.returns-in_err-coordinate
returns-in_err-coordinate c = rw c.from_residual-in_err-coordinate.ensures (record { exact = tt; within = tt; reads = tt })
