use Rattle.std.proofs.Common.{◌∙◌, length, ◌-◌, take, drop, ap, sym}
use Rattle.std.proofs.lemmas.Bool.{and_parts}
use Rattle.std.specs.Cmp.Derive.{both_true}
use Rattle.stl_text.proofs.lemmas.Layouts.{ends-equal}
use Rattle.stl_text.proofs.layout.have_equal_ends.Goals as goal

pub returns-in-Some-Some-Some-Some : goal.returns-in-Some-Some-Some-Some
returns-in-Some-Some-Some-Some c =
    let w = c.in-Some-Some-Some-Some in
    let first = c.are_equal_as_numbers in let last = c.are_equal_as_numbers-in-Some-Some-Some-Some in
    let front_a = w.ensures.cases.same in let end_a = w.ensures'.cases.1.same in
    let front_b = w.ensures''.cases.same in let end_b = w.ensures'''.cases.1.same in (
      λ h. let both = and_parts first.result last.result h in
          ends-equal c.args.a.now c.args.b.now 8 c.requires.same c.requires.some c.requires.most
          (sym front_a ∙ first.ensures.0 both.0 ∙ front_b) (sym end_a ∙ last.ensures.0 both.1 ∙ end_b),
      λ h. both_true
          (first.ensures.1 (front_a ∙ ap (take 8) h ∙ sym front_b))
          (last.ensures.1 (end_a ∙ ap (λ xs. drop (length xs - 8) xs) h ∙ sym end_b)),
    )
