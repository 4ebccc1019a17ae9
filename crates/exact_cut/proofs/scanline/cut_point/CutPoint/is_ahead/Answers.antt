use Rattle.std.proofs.Common.{◌*ℤ◌, refl, FitsSigned}
use Rattle.std.proofs.lemmas.Int.{to_z-of_z}
use mir.Syntax.{w64}
use Rattle.exact_int.proofs.lemmas.Sizes.{sizes, fits}
use Rattle.exact_int.proofs.lemmas.Tests.{plain_less}
use Rattle.exact_cut.proofs.scanline.cut_point.CutPoint.is_ahead.Goals as goal

pub returns : goal.returns
returns c =
    let p = c.args.self.now in
    let f1 : FitsSigned w64 c.args.y2 = c.ranges.y2 in
    let f2 : FitsSigned w64 p.d = fits w64 (search (sizes, p.d_in) depth 40) refl in
    let f3 : FitsSigned w64 (c.args.y2 *ℤ p.d) = fits w64 (search (sizes, c.requires, p.d_in) depth 40) refl in
    let f4 : FitsSigned w64 p.y = fits w64 (search (sizes, p.y_in) depth 40) refl in
    simp to_z-of_z (plain_less (c.args.y2 *ℤ p.d) p.y)

pub overflow_mul-result : goal.overflow_mul-result
overflow_mul-result c = fits w64 (search (sizes, c.requires, c.args.self.now.d_in) depth 40) refl
