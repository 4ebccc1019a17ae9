use Rattle.std.proofs.Common.{◌≡◌, List, ℕ, ℤ, refl, ap, sym, ◌∙◌, w32, FitsSigned, rules}
use Rattle.std.proofs.lemmas.Int.{to_z-of_z}
use Rattle.std.specs.Prelude.{Ok}
use Rattle.std.specs.List.{before_first}
use Rattle.micro_num.specs.Micrometres.{coordinate_of}
use Rattle.micro_num.specs.Numeral.{from_first}
use Rattle.stl_text.specs.Text.{after_space, is_white}
use Rattle.stl_text.proofs.lemmas.Fronts.{space_once}
use Rattle.stl_text.proofs.scanning.after_coordinate.Goals as goal

pub returns-clause-read : goal.returns-clause-read
returns-clause-read c =
    let z : ℤ = c.in_ok-z.z in
    let fits : FitsSigned w32 z = search rules in
    ap (λ t. coordinate_of c.args.unit (before_first is_white t)) (sym c.skip_space.ensures ∙ sym c.in_ok-z.ensures.front)
    ∙ c.in_ok-z.ensures.read ∙ ap Ok (sym (to_z-of_z w32 z fits))

pub returns-clause-rest : goal.returns-clause-rest
returns-clause-rest c =
    c.in_ok-z.ensures.rest ∙ ap (from_first is_white) (c.in_ok-z.ensures.front ∙ c.skip_space.ensures)

pub returns-in_err-z-clause-none : goal.returns-in_err-z-clause-none
returns-in_err-z-clause-none c = λ none z is.
    let front : List ℕ = c.skip_space.result.now in
    let at : after_space front ≡ front = ap after_space c.skip_space.ensures ∙ space_once c.args.bytes.now ∙ sym c.skip_space.ensures in
    c.in_err-z.ensures.none refl at z (ap (λ t. coordinate_of c.args.unit (before_first is_white t)) (at ∙ c.skip_space.ensures) ∙ is)
