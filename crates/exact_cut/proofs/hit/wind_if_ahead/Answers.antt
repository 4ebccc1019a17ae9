use Rattle.std.proofs.Common.{pos, ◌*ℤ◌, FitsSigned, refl, sym}
use Rattle.std.proofs.lemmas.Int.{to_z-of_z}
use mir.Syntax.{w32, w128}
use Rattle.exact_int.proofs.lemmas.Sizes.{sizes, size_known, fits}
use Rattle.exact_int.proofs.lemmas.Tests.{plain_less}
use Rattle.exact_cut.proofs.lemmas.Hitting.{chosen, not_chosen, not_above_zero}
use Rattle.exact_cut.proofs.hit.wind_if_ahead.Goals as goal

pub overflow_mul-wind : goal.overflow_mul-wind
overflow_mul-wind c = fits w128 (search (sizes, c.requires.wind_in, c.requires.volume_in) depth 40) refl

pub returns-then-wind-volume-gt0 : goal.returns-then-wind-volume-gt0
returns-then-wind-volume-gt0 c =
    let w = c.args.wind in
    let v = c.args.volume in
    let f1 : FitsSigned w32 w = fits w32 (size_known c.requires.wind_in) refl in
    let f2 : FitsSigned w128 w = fits w128 (size_known c.requires.wind_in) refl in
    let f3 : FitsSigned w128 v = fits w128 (size_known c.requires.volume_in) refl in
    let f4 : FitsSigned w128 (w *ℤ v) = fits w128 (search (sizes, c.requires.wind_in, c.requires.volume_in)) refl in
    simp to_z-of_z (sym (chosen (w *ℤ v) w ((plain_less (pos 0) (w *ℤ v)).0 (simp to_z-of_z at c.if-wind-volume-gt0.true))))

pub returns-else-wind-volume-gt0 : goal.returns-else-wind-volume-gt0
returns-else-wind-volume-gt0 c =
    let w = c.args.wind in
    let v = c.args.volume in
    let f1 : FitsSigned w32 w = fits w32 (size_known c.requires.wind_in) refl in
    let f2 : FitsSigned w128 w = fits w128 (size_known c.requires.wind_in) refl in
    let f3 : FitsSigned w128 v = fits w128 (size_known c.requires.volume_in) refl in
    let f4 : FitsSigned w128 (w *ℤ v) = fits w128 (search (sizes, c.requires.wind_in, c.requires.volume_in)) refl in
    sym (not_chosen (w *ℤ v) w (not_above_zero (w *ℤ v) (simp to_z-of_z at c.if-wind-volume-gt0.false)))
