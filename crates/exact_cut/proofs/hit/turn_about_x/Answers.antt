use Rattle.std.proofs.Common.{pos, [], ◌∷◌, FitsSigned, refl, ◌∙◌, ap}
use Rattle.std.proofs.lemmas.Int.{to_z-of_z}
use mir.Syntax.{w32, w64, w128}
use Rattle.exact_int.proofs.lemmas.Sizes.{sizes, size_known, fits}
use Rattle.exact_int.proofs.lemmas.Identity.{reads, identity}
use Rattle.geometry.specs.Winding.{turn_of}
use Rattle.exact_cut.proofs.hit.turn_about_x.Goals as goal

pub returns-clause-value : goal.returns-clause-value
returns-clause-value c =
    let u = c.args.u in
    let v = c.args.v in
    let f1 : FitsSigned w64 u.z = fits w64 (size_known u.z_in) refl in
    let f2 : FitsSigned w64 v.z = fits w64 (size_known v.z_in) refl in
    let f3 : FitsSigned w128 c.cross.result = fits w128 (size_known c.cross.ensures.bound) refl in
    let f4 : FitsSigned w32 c.turn_by.result = fits w32 (size_known c.turn_by.ensures.unit) refl in
    simp to_z-of_z (simp to_z-of_z at c.turn_by.ensures.value
    ∙ ap (turn_of u.z v.z (pos 0)) (c.cross.ensures.value ∙ identity (u.y ∷ u.z ∷ v.y ∷ v.z ∷ []) (search (reads, sizes, u.y_in, u.z_in, v.y_in, v.z_in) depth 40 fits 5000) refl))
