use Rattle.std.proofs.Common.{◌≡◌, ap, rules, subst, sym, ◌∙◌}
use Rattle.std.specs.Prelude.{IsTrue, int_lt, not, pos, ◌==◌, ◌↔◌}
use Rattle.std.specs.Ordering.{int_eq}
use Rattle.std.proofs.lemmas.Int.{to_z-of_z}
use mir.Syntax.{w64}
use mir.Val.{of_z}
use Rattle.raster.specs.Rule.{IsInside, is_inside}
use Rattle.raster.proofs.lemmas.Rules.{inside_decides}
use Rattle.raster.proofs.rule.is_inside.Goals as goal

pub returns-in-NonZero-clause-value : goal.returns-in-NonZero-clause-value
returns-in-NonZero-clause-value c =
    let same : not (of_z w64 c.args.count == 0) ≡ not (int_eq c.args.count (pos 0)) = search (rules, c.ranges.count) in
    same ∙ ap (λ rule. is_inside rule c.args.count) (sym c.in-NonZero.is)

pub returns-in-NonZero-clause-inside : goal.returns-in-NonZero-clause-inside
returns-in-NonZero-clause-inside c =
    let says : IsTrue (is_inside c.args.rule c.args.count) ↔ IsInside c.args.rule c.args.count = search (rules, inside_decides c.args.rule c.args.count) in
    subst (λ b. IsTrue b ↔ IsInside c.args.rule c.args.count) (sym (returns-in-NonZero-clause-value c)) says

pub returns-in-Positive-clause-value : goal.returns-in-Positive-clause-value
returns-in-Positive-clause-value c =
    ap (int_lt (pos 0)) (to_z-of_z w64 c.args.count c.ranges.count) ∙ ap (λ rule. is_inside rule c.args.count) (sym c.in-Positive.is)

pub returns-in-Positive-clause-inside : goal.returns-in-Positive-clause-inside
returns-in-Positive-clause-inside c =
    let says : IsTrue (is_inside c.args.rule c.args.count) ↔ IsInside c.args.rule c.args.count = search (rules, inside_decides c.args.rule c.args.count) in
    subst (λ b. IsTrue b ↔ IsInside c.args.rule c.args.count) (sym (returns-in-Positive-clause-value c)) says
