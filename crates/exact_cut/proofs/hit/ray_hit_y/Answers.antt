use Rattle.std.proofs.Common.{FitsSigned, refl, ◌≡◌, subst, sym}
use Rattle.std.proofs.lemmas.Int.{to_z-of_z}
use mir.Syntax.{w32, w128}
use Rattle.exact_int.specs.Bounds.{IsAtMost}
use Rattle.exact_int.proofs.lemmas.Sizes.{sizes, size_known, fits, is_at_most}
use Rattle.geometry.specs.Facet.{twice}
use Rattle.geometry.specs.Winding.{hit_y}
use Rattle.exact_cut.specs.RelativeFacet.{facet_of}
use Rattle.exact_cut.proofs.lemmas.Shifts.{hit_y_from, hit_y-unit}
use Rattle.exact_cut.proofs.hit.ray_hit_y.Goals as goal

value-is : (c : goal.After-wind_if_ahead) → c.wind_if_ahead.result ≡ hit_y (twice c.args.f.now) c.args.c.now
value-is c =
    let w = c.wind_about_y in
    let v = c.determinant in
    let f1 : FitsSigned w32 w.result = fits w32 (size_known w.ensures.small) refl in
    let f2 : FitsSigned w128 v.result = fits w128 (size_known v.ensures.bound) refl in
    hit_y_from (twice c.args.f.now) (facet_of c.relative-g.result) c.args.c.now c.relative-g.ensures w.ensures.value v.ensures.value (simp to_z-of_z at c.wind_if_ahead.ensures)

unit-is : (c : goal.After-wind_if_ahead) → IsAtMost 1 c.wind_if_ahead.result
unit-is c = subst (IsAtMost 1) (sym (value-is c)) (hit_y-unit (twice c.args.f.now) c.args.c.now)

pub returns-clause-value : goal.returns-clause-value
returns-clause-value c =
    let f : FitsSigned w32 c.wind_if_ahead.result = fits w32 (size_known (unit-is c)) refl in
    simp to_z-of_z (value-is c)

pub returns-clause-unit : goal.returns-clause-unit
returns-clause-unit c =
    let u = unit-is c in
    is_at_most 1 (search (sizes, u)) refl
