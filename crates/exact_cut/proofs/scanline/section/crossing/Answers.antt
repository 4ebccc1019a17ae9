use Rattle.std.proofs.Common.{◌≡◌, ℤ, pos, FitsSigned, to_z, of_z, refl, ◌∙◌, ap, sym, subst, ◌<ℤ◌, inl, inr}
use Rattle.std.proofs.lemmas.Int.{to_z-of_z}
use mir.Syntax.{w64, w128}
use Rattle.exact_int.proofs.lemmas.Sizes.{size_known, fits}
use Rattle.geometry.specs.Facet.{Facet, twice}
use Rattle.geometry.specs.Winding.{wind}
use Rattle.exact_cut.proofs.lemmas.Sections.{same_side, up_alone, down_alone, up_meets, down_meets, crossed, crosses_as, meets_as}
use Rattle.exact_cut.proofs.lemmas.Stored.{stored_in}
use Rattle.exact_cut.proofs.scanline.section.crossing.Goals as goal

pub returns-then-is_up_ahead-is_down_ahead : goal.returns-then-is_up_ahead-is_down_ahead
returns-then-is_up_ahead-is_down_ahead c =
    let f1 = c.ranges.y2 in
    let f2 = c.ranges.z2 in
    let l = c.in_ok-ends.ensures in
    let same = c.if-is_up_ahead-is_down_ahead.true in
    let not_crossed = simp to_z-of_z at (same_side _ _ _ _ l _ _ c.is_ahead-is_down_ahead.ensures c.is_ahead-is_up_ahead.ensures same) in
    record { crosses = not_crossed; some = (λ h. absurd (cc), λ some. absurd (some not_crossed)); in_plane = tt }

pub returns-then-is_up_ahead : goal.returns-then-is_up_ahead
returns-then-is_up_ahead c =
    let m = c.meet-num in
    let w = up_alone _ _ _ _ c.in_ok-ends.ensures _ _ c.is_ahead-is_down_ahead.ensures c.is_ahead-is_up_ahead.ensures
    c.if-is_up_ahead-is_down_ahead.false c.if-is_up_ahead.true in
    let v = up_meets _ (to_z w64 (of_z w64 c.args.y2)) _ _ c.in_ok-ends.ensures in
    let f1 = c.ranges.y2 in
    let f2 = c.ranges.z2 in
    let f3 : FitsSigned w128 m.result.0 = fits w128 (size_known m.ensures.num_in) refl in
    let f4 : FitsSigned w128 m.result.1 = fits w128 (size_known m.ensures.den_in) refl in
    let k = simp to_z-of_z at c.of.ensures in
    let crosses = simp to_z-of_z at (crosses_as (ap (λ r. r.sign) k) (ap (λ r. r.num) k ∙ m.ensures.num) (ap (λ r. r.den) k ∙ m.ensures.den) w) in
    let meets = simp to_z-of_z at (meets_as (ap (λ r. r.num) k ∙ m.ensures.num) (ap (λ r. r.den) k ∙ m.ensures.den) v) in
    record { crosses = crosses; some = (λ _. crossed crosses, λ _. refl); in_plane = meets }

pub returns-else-is_up_ahead : goal.returns-else-is_up_ahead
returns-else-is_up_ahead c =
    let m = c.meet-num-else-is_up_ahead in
    let w = down_alone _ _ _ _ c.in_ok-ends.ensures _ _ c.is_ahead-is_down_ahead.ensures c.is_ahead-is_up_ahead.ensures
    c.if-is_up_ahead-is_down_ahead.false c.if-is_up_ahead.false in
    let v = down_meets _ (to_z w64 (of_z w64 c.args.y2)) _ _ c.in_ok-ends.ensures in
    let f1 = c.ranges.y2 in
    let f2 = c.ranges.z2 in
    let f3 : FitsSigned w128 m.result.0 = fits w128 (size_known m.ensures.num_in) refl in
    let f4 : FitsSigned w128 m.result.1 = fits w128 (size_known m.ensures.den_in) refl in
    let k = simp to_z-of_z at c.of-else-is_up_ahead.ensures in
    let crosses = simp to_z-of_z at (crosses_as (ap (λ r. r.sign) k) (ap (λ r. r.num) k ∙ m.ensures.num) (ap (λ r. r.den) k ∙ m.ensures.den) w) in
    let meets = simp to_z-of_z at (meets_as (ap (λ r. r.num) k ∙ m.ensures.num) (ap (λ r. r.den) k ∙ m.ensures.den) v) in
    record { crosses = crosses; some = (λ _. crossed crosses, λ _. refl); in_plane = meets }

uncrossed : (t : Facet) (y : ℤ) {z' z : ℤ} → z' ≡ z → wind t y z' ≡ pos 0 → wind t y z ≡ pos 0
uncrossed t y e = subst (λ z. wind t y z ≡ pos 0) e

pub returns-in_err-ends : goal.returns-in_err-ends
returns-in_err-ends c =
    let not_crossed = uncrossed (twice c.args.f.now) c.args.y2 (to_z-of_z w64 c.args.z2 c.ranges.z2) (c.in_err-ends.ensures c.args.y2) in
    rw c.from_residual.ensures (record { crosses = not_crossed; some = (λ h. absurd (cc), λ some. absurd (some not_crossed)); in_plane = tt })

pub of-requires : goal.of-requires
of-requires c =
    let m = c.meet-num in
    let w = up_alone _ _ _ _ c.in_ok-ends.ensures _ _ c.is_ahead-is_down_ahead.ensures c.is_ahead-is_up_ahead.ensures
    c.if-is_up_ahead-is_down_ahead.false c.if-is_up_ahead.true in
    let f1 : FitsSigned w128 m.result.1 = fits w128 (size_known m.ensures.den_in) refl in
    record {
      unit = inl refl;
      den_positive = simp to_z-of_z (subst (λ d. pos 0 <ℤ d) (sym m.ensures.den) w.den_positive);
      num_in = stored_in w128 m.result.0 m.ensures.num_in;
      den_in = stored_in w128 m.result.1 m.ensures.den_in;
    }

pub of-requires-else-is_up_ahead : goal.of-requires-else-is_up_ahead
of-requires-else-is_up_ahead c =
    let m = c.meet-num-else-is_up_ahead in
    let w = down_alone _ _ _ _ c.in_ok-ends.ensures _ _ c.is_ahead-is_down_ahead.ensures c.is_ahead-is_up_ahead.ensures
    c.if-is_up_ahead-is_down_ahead.false c.if-is_up_ahead.false in
    let f1 : FitsSigned w128 m.result.1 = fits w128 (size_known m.ensures.den_in) refl in
    record {
      unit = inr refl;
      den_positive = simp to_z-of_z (subst (λ d. pos 0 <ℤ d) (sym m.ensures.den) w.den_positive);
      num_in = stored_in w128 m.result.0 m.ensures.num_in;
      den_in = stored_in w128 m.result.1 m.ensures.den_in;
    }
