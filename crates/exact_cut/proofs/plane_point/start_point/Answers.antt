use Rattle.std.proofs.Common.{rules, pos, ◌<ℤ◌, FitsSigned, to_z, of_z, refl, sym, ◌∙◌, subst}
use Rattle.std.proofs.lemmas.Int.{to_z-of_z}
use mir.Syntax.{w64}
use Rattle.exact_int.proofs.lemmas.Sizes.{sizes, fits, size_known}
use Rattle.exact_cut.specs.declared.scanline.cut_point.CutPoint.{CutPoint}
use Rattle.exact_cut.proofs.lemmas.Rounding.{point_is}
use Rattle.exact_cut.proofs.lemmas.Stored.{stored_in}
use Rattle.exact_cut.proofs.plane_point.start_point.Goals as goal

den_above : (p : CutPoint) → pos 0 <ℤ to_z w64 (of_z w64 p.d)
den_above p = subst (λ d. pos 0 <ℤ d) (sym (to_z-of_z w64 p.d (fits w64 (size_known p.d_in) refl))) p.d_positive

pub nearest-requires-clause-num_in : goal.nearest-requires-clause-num_in
nearest-requires-clause-num_in c = stored_in w64 c.between-exact.result.x c.between-exact.result.x_in

pub nearest-requires-clause-den_in : goal.nearest-requires-clause-den_in
nearest-requires-clause-den_in c = stored_in w64 c.between-exact.result.d c.between-exact.result.d_in

pub nearest-requires-clause-den_positive : goal.nearest-requires-clause-den_positive
nearest-requires-clause-den_positive c = den_above c.between-exact.result

-- the second call's bound on `num` is left to a search, so that a y from another number is refused by the clause
pub nearest-requires-2-clause-den_in : goal.nearest-requires-2-clause-den_in
nearest-requires-2-clause-den_in c = stored_in w64 c.between-exact.result.d c.between-exact.result.d_in

pub nearest-requires-2-clause-den_positive : goal.nearest-requires-2-clause-den_positive
nearest-requires-2-clause-den_positive c = den_above c.between-exact.result

pub returns-in_err-cut : goal.returns-in_err-cut
returns-in_err-cut c =
    let f1 = c.ranges.z2 in
    rw c.from_residual.ensures (simp to_z-of_z at c.in_err-cut.ensures)

pub returns : goal.returns
returns c =
    let f1 = c.ranges.z2 in
    let exact = c.between-exact.result in
    let f2 : FitsSigned w64 exact.x = fits w64 (search (sizes, exact.x_in) depth 40) refl in
    let f3 : FitsSigned w64 exact.y = fits w64 (search (sizes, exact.y_in) depth 40) refl in
    let f4 : FitsSigned w64 exact.d = fits w64 (search (sizes, exact.d_in) depth 40) refl in
    let f5 : FitsSigned w64 c.nearest.result = search rules in
    let f6 : FitsSigned w64 c.nearest-2.result = search rules in
    record {
      cut = c.in_ok-cut.cut;
      is_cut = simp to_z-of_z at c.in_ok-cut.ensures;
      point = point_is c.args.z2 (to_z-of_z w64 c.nearest.result f5 ∙ (simp to_z-of_z at c.nearest.ensures))
          (to_z-of_z w64 c.nearest-2.result f6 ∙ (simp to_z-of_z at c.nearest-2.ensures))
          (simp to_z-of_z at c.between-exact.ensures.x) (simp to_z-of_z at c.between-exact.ensures.y) c.between-exact.ensures.d
          c.finish_of.ensures c.start_of.ensures;
    }
