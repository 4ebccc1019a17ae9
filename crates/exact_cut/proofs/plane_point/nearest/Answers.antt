use Rattle.std.proofs.Common.{rules, pos, ◌+ℤ◌, ◌*ℤ◌, FitsSigned, refl, ◌∙◌}
use Rattle.std.proofs.lemmas.Int.{to_z-of_z}
use mir.Syntax.{w64}
use Rattle.exact_int.proofs.lemmas.Sizes.{sizes, fits}
use Rattle.exact_cut.proofs.plane_point.nearest.Goals as goal

pub returns : goal.returns
returns c =
    let num = c.args.num in
    let den = c.args.den in
    let f1 : FitsSigned w64 num = c.ranges.num in
    let f2 : FitsSigned w64 den = c.ranges.den in
    let f3 : FitsSigned w64 (pos 2 *ℤ num) = fits w64 (search (sizes, c.requires.num_in) depth 40) refl in
    let f4 : FitsSigned w64 (pos 2 *ℤ num +ℤ den) = fits w64 (search (sizes, c.requires.num_in, c.requires.den_in) depth 40) refl in
    let f5 : FitsSigned w64 (pos 2 *ℤ den) = fits w64 (search (sizes, c.requires.den_in) depth 40) refl in
    let f6 : FitsSigned w64 c.div_euclid.result = search rules in
    to_z-of_z w64 c.div_euclid.result f6 ∙ (simp to_z-of_z at c.div_euclid.ensures)
