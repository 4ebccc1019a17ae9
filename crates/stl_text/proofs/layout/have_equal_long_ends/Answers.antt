use Rattle.std.proofs.Common.{◌∙◌, length, ◌-◌, take, drop, ap, sym}
use Rattle.std.proofs.lemmas.Bool.{and_parts}
use Rattle.std.specs.Cmp.Derive.{both_true}
use Rattle.stl_text.proofs.lemmas.Layouts.{ends-equal}
use Rattle.stl_text.proofs.layout.have_equal_long_ends.Goals as goal

pub returns : goal.returns
returns c =
    let first = c.have_equal_ends in let last = c.have_equal_ends-2 in
    let front_a = c.split_at.ensures.front in let front_b = c.split_at-2.ensures.front in
    let end_a = c.split_at-3.ensures.back in let end_b = c.split_at-4.ensures.back in (
      λ h. let both = and_parts first.result last.result h in
          ends-equal c.args.a.now c.args.b.now 16 c.requires.same c.requires.some c.requires.most
          (sym front_a ∙ first.ensures.0 both.0 ∙ front_b) (sym end_a ∙ last.ensures.0 both.1 ∙ end_b),
      λ h. both_true
          (first.ensures.1 (front_a ∙ ap (take 16) h ∙ sym front_b))
          (last.ensures.1 (end_a ∙ ap (λ xs. drop (length xs - 16) xs) h ∙ sym end_b)),
    )
