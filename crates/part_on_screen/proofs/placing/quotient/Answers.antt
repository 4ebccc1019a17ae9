use Rattle.std.proofs.Common.{rules, ◌≡◌, ◌∙◌, FitsSigned, pos, subst, sym, to_z, of_z, ◌*ℤ◌, ap, refl}
use Rattle.std.proofs.lemmas.Int.{to_z-of_z}
use mir.Syntax.{w32, w128}
use Rattle.exact_int.specs.Bounds.{IsAtMost}
use Rattle.exact_int.specs.Division.{IsCeilDiv}
use Rattle.exact_int.proofs.lemmas.Sizes.{fits, size_known}
use Rattle.geometry.specs.declared.limits.TheConstants.{COORDINATE_LIMIT}
use Rattle.raster.proofs.lemmas.Middles.{coordinate}
use Rattle.part_on_screen.proofs.lemmas.Quotients.{exact-quotient, smaller}
use Rattle.part_on_screen.proofs.placing.quotient.Goals as goal

-- the quotient is the number whose multiple the coordinate is
found : (c : goal.After-ceil_div) → c.ceil_div.result ≡ c.requires.whole.0
found c =
    let whole : c.from.result ≡ c.args.coordinate = c.from.ensures ∙ to_z-of_z w32 c.args.coordinate c.ranges.coordinate in
    let near : IsAtMost COORDINATE_LIMIT c.from.result = subst (IsAtMost COORDINATE_LIMIT) (sym whole) c.requires.range in
    let above : to_z w128 (of_z w128 c.from.result) ≡ c.args.coordinate = to_z-of_z w128 c.from.result (fits w128 (size_known near) refl) ∙ whole in
    let small : FitsSigned w128 c.from-2.result = search rules in
    let below : to_z w128 (of_z w128 c.from-2.result) ≡ pos c.args.times = to_z-of_z w128 c.from-2.result small ∙ c.from-2.ensures in
    let divided : IsCeilDiv c.ceil_div.result c.args.coordinate (pos c.args.times) =
    subst (λ d. IsCeilDiv c.ceil_div.result c.args.coordinate d) below (subst (λ n. IsCeilDiv c.ceil_div.result n (to_z w128 (of_z w128 c.from-2.result))) above c.ceil_div.ensures) in
    exact-quotient c.ceil_div.result c.args.coordinate c.requires.whole.0 c.args.times divided c.requires.whole.1 c.requires.some

near : (c : goal.After-ceil_div) → IsAtMost COORDINATE_LIMIT c.ceil_div.result
near c =
    subst (IsAtMost COORDINATE_LIMIT) (sym (found c))
    (smaller COORDINATE_LIMIT c.requires.whole.0 c.args.coordinate c.args.times c.requires.whole.1 c.requires.some c.requires.range)

wide : (c : goal.After-ceil_div) → to_z w128 (of_z w128 c.ceil_div.result) ≡ c.ceil_div.result
wide c = to_z-of_z w128 c.ceil_div.result (fits w128 (size_known (near c)) refl)

same : (c : goal.After-ceil_div) → to_z w32 (of_z w32 (to_z w128 (of_z w128 c.ceil_div.result))) ≡ c.ceil_div.result
same c = coordinate _ (subst (IsAtMost COORDINATE_LIMIT) (sym (wide c)) (near c)) ∙ wide c

pub overflow_cast-result : goal.overflow_cast-result
overflow_cast-result c = fits w32 (size_known (subst (IsAtMost COORDINATE_LIMIT) (sym (wide c)) (near c))) refl

pub returns-clause-value : goal.returns-clause-value
returns-clause-value c = ap (λ z. z *ℤ pos c.args.times) (same c ∙ found c) ∙ c.requires.whole.1

pub returns-clause-range : goal.returns-clause-range
returns-clause-range c = subst (IsAtMost COORDINATE_LIMIT) (sym (same c)) (near c)
