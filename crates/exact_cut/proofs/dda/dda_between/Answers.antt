use Rattle.std.proofs.Common.{◌≡◌, ℤ, pos, ◌-ℤ◌, ◌*ℤ◌, ◌<ℤ◌, [], ◌∷◌, FitsSigned, to_z, of_z, refl, ◌∙◌, ap, sym, subst, arith}
use Rattle.std.proofs.lemmas.Int.{to_z_pos, to_z-of_z}
use lib.Dec.{lit≤}
use mir.Syntax.{w64, w128}
use Rattle.exact_int.specs.Bounds.{IsAtMost}
use Rattle.exact_int.proofs.lemmas.Sizes.{sizes, size_known, fits, cast_in, is_at_most}
use Rattle.exact_int.proofs.lemmas.Identity.{reads, identity}
use Rattle.exact_cut.specs.Bounds.{denominator_limit, distance_limit, increment_limit, quotient_limit, unit_limit}
use Rattle.exact_cut.specs.Dda.{IsDivisionOf}
use Rattle.exact_cut.specs.Section.{num_between}
use Rattle.exact_cut.specs.declared.dda.lattice.Lattice.{Lattice}
use Rattle.exact_cut.proofs.lemmas.Least.{positive_by, unit_positive}
use Rattle.exact_cut.proofs.lemmas.Divisions.{IsDda-of, quotient_within}
use Rattle.exact_cut.proofs.lemmas.DdaSteps.{remainder_in}
use Rattle.exact_cut.proofs.dda.dda_between.Goals as goal
use Rattle.geometry.specs.declared.limits.TheConstants.{STEP_LIMIT}

-- the step from a pixel to the next, as the machine word holds it
step_in : (l : Lattice) → IsAtMost STEP_LIMIT (to_z w128 l.step)
step_in l = cast_in w128 l.step STEP_LIMIT l.step_in

-- the unit as the code computes it
abbrev unit_of : Lattice → ℤ → ℤ
unit_of l den = to_z w128 (of_z w128 (to_z w128 (of_z w128 (pos 2 *ℤ to_z w128 l.step)) *ℤ to_z w128 (of_z w128 den)))

unit_within : (l : Lattice) (den : ℤ) → IsAtMost denominator_limit den → IsAtMost unit_limit (unit_of l den)
unit_within l den h = is_at_most unit_limit (search (sizes, step_in l, h) depth 40) refl

unit_above : (l : Lattice) (den : ℤ) → IsAtMost denominator_limit den → pos 0 <ℤ den → pos 0 <ℤ unit_of l den
unit_above l den h p =
    let s = to_z w128 l.step in
    let s_in = step_in l in
    positive_by (pos 2 *ℤ s *ℤ den)
    (identity (s ∷ den ∷ []) (search (reads, sizes, s_in, h) depth 40 fits 5000) refl)
    (unit_positive s den l.step (to_z_pos w128 l.step (let h = l.step_in in omega arith)) l.step_above p)

pub overflow_mul-step2 : goal.overflow_mul-step2
overflow_mul-step2 c = fits w128 (search (sizes, step_in c.args.lattice.now) depth 40) refl

pub overflow_mul-unit : goal.overflow_mul-unit
overflow_mul-unit c = fits w128 (search (sizes, step_in c.args.lattice.now, c.meet-num.ensures.den_in) depth 40) refl

pub overflow_mul-lattice : goal.overflow_mul-lattice
overflow_mul-lattice c = fits w128 (search (sizes, c.args.lattice.now.x_in, c.meet-num.ensures.den_in) depth 40) refl

pub overflow_sub-num : goal.overflow_sub-num
overflow_sub-num c = fits w128 (search (sizes, c.args.lattice.now.x_in, c.meet-num.ensures.num_in, c.meet-num.ensures.den_in) depth 40) refl

pub divide-position-requires-clause-n_in : goal.divide-position-requires-clause-n_in
divide-position-requires-clause-n_in c =
    is_at_most distance_limit (search (sizes, c.args.lattice.now.x_in, c.meet-num.ensures.num_in, c.meet-num.ensures.den_in) depth 40) refl

pub divide-position-requires-clause-unit_in : goal.divide-position-requires-clause-unit_in
divide-position-requires-clause-unit_in c = unit_within c.args.lattice.now c.meet-num.result.1 c.meet-num.ensures.den_in

pub divide-position-requires-clause-unit_positive : goal.divide-position-requires-clause-unit_positive
divide-position-requires-clause-unit_positive c =
    let m = c.meet-num in
    unit_above c.args.lattice.now m.result.1 m.ensures.den_in (subst (λ d. pos 0 <ℤ d) (sym m.ensures.den) c.requires.den_positive)

pub overflow_mul-step2-2 : goal.overflow_mul-step2-2
overflow_mul-step2-2 c = fits w128 (search (sizes, step_in c.args.lattice.now, c.slope.ensures.within) depth 40) refl

pub divide_increment-increment-requires-clause-n_in : goal.divide_increment-increment-requires-clause-n_in
divide_increment-increment-requires-clause-n_in c =
    is_at_most distance_limit (search (sizes, step_in c.args.lattice.now, c.slope.ensures.within) depth 40) refl

pub divide_increment-increment-requires-clause-unit_in : goal.divide_increment-increment-requires-clause-unit_in
divide_increment-increment-requires-clause-unit_in c = unit_within c.args.lattice.now c.meet-num.result.1 c.meet-num.ensures.den_in

pub divide_increment-increment-requires-clause-unit_positive : goal.divide_increment-increment-requires-clause-unit_positive
divide_increment-increment-requires-clause-unit_positive c =
    let m = c.meet-num in
    unit_above c.args.lattice.now m.result.1 m.ensures.den_in (subst (λ d. pos 0 <ℤ d) (sym m.ensures.den) c.requires.den_positive)

pub returns : goal.returns
returns c =
    let l = c.args.lattice.now in
    let num = c.meet-num.result.0 in
    let den = c.meet-num.result.1 in
    let num_in = c.meet-num.ensures.num_in in
    let den_in = c.meet-num.ensures.den_in in
    let slope = c.slope.result in
    let slope_in = c.slope.ensures.within in
    let s = to_z w128 l.step in
    let s_in = step_in l in
    let step = to_z_pos w128 l.step (let h = l.step_in in omega arith) in
    let p = c.divide-position.result in
    let q = c.divide_increment-increment.result in
    let f1 : FitsSigned w64 l.x2 = fits w64 (size_known l.x_in) refl in
    let f2 : FitsSigned w128 l.x2 = fits w128 (size_known l.x_in) refl in
    let f3 : FitsSigned w128 num = fits w128 (size_known num_in) refl in
    let f4 : FitsSigned w128 den = fits w128 (size_known den_in) refl in
    let f5 : FitsSigned w128 (pos 2 *ℤ s) = fits w128 (search (sizes, s_in)) refl in
    let f6 : FitsSigned w128 (pos 2 *ℤ s *ℤ den) = fits w128 (search (sizes, s_in, den_in)) refl in
    let f7 : FitsSigned w128 (l.x2 *ℤ den) = fits w128 (search (sizes, l.x_in, den_in)) refl in
    let f8 : FitsSigned w128 (num -ℤ l.x2 *ℤ den) = fits w128 (search (sizes, l.x_in, num_in, den_in)) refl in
    let f9 : FitsSigned w128 slope = fits w128 (size_known slope_in) refl in
    let f10 : FitsSigned w128 (pos 2 *ℤ s *ℤ slope) = fits w128 (search (sizes, s_in, slope_in)) refl in
    let unit_in : IsAtMost unit_limit (pos 2 *ℤ s *ℤ den) = is_at_most unit_limit (search (sizes, s_in, den_in) depth 40) refl in
    let distance_in : IsAtMost distance_limit (num -ℤ l.x2 *ℤ den) = is_at_most distance_limit (search (sizes, l.x_in, num_in, den_in) depth 40) refl in
    let growth_in : IsAtMost unit_limit (pos 2 *ℤ s *ℤ slope) = is_at_most unit_limit (search (sizes, s_in, slope_in) depth 40) refl in
    let p_in : IsAtMost quotient_limit p.quotient = quotient_within quotient_limit (num -ℤ l.x2 *ℤ den) (pos 2 *ℤ s *ℤ den) p.quotient (simp to_z-of_z at c.divide-position.ensures.quotient_in) distance_in unit_in (lit≤ tt) in
    let q_in : IsAtMost increment_limit q.quotient = quotient_within increment_limit (pos 2 *ℤ s *ℤ slope) (pos 2 *ℤ s *ℤ den) q.quotient (simp to_z-of_z at c.divide_increment-increment.ensures.quotient_in) growth_in unit_in (lit≤ tt) in
    let p_division : IsDivisionOf (num -ℤ l.x2 *ℤ den) (pos 2 *ℤ s *ℤ den) p = simp to_z-of_z at c.divide-position.ensures.division in
    let q_below : q.remainder <ℤ (pos 2 *ℤ s *ℤ den) = simp to_z-of_z at c.divide_increment-increment.ensures.below in
    let p_remainder = remainder_in p.remainder (pos 2 *ℤ s *ℤ den) p_division.not_negative p_division.below unit_in in
    let q_remainder = remainder_in q.remainder (pos 2 *ℤ s *ℤ den) c.divide_increment-increment.ensures.not_negative q_below unit_in in
    let f11 : FitsSigned w128 p.quotient = fits w128 (size_known p_in) refl in
    let f12 : FitsSigned w128 p.remainder = fits w128 (size_known p_remainder) refl in
    let f13 : FitsSigned w128 q.quotient = fits w128 (size_known q_in) refl in
    let f14 : FitsSigned w128 q.remainder = fits w128 (size_known q_remainder) refl in
    let f15 : FitsSigned w64 c.scanline.result = fits w64 (size_known c.scanline.ensures.within) refl in
    let num_is : num ≡ num_between c.args.near.now c.args.far.now c.scanline.result = simp to_z-of_z at c.meet-num.ensures.num in
    record {
      dda = simp to_z-of_z (IsDda-of (num -ℤ l.x2 *ℤ den) (pos 2 *ℤ s *ℤ den) p q p_division c.divide_increment-increment.ensures.not_negative q_below unit_in q_in);
      unit = simp to_z-of_z (λ i. pos 2 *ℤ step i *ℤ c.meet-num.ensures.den i);
      position = simp to_z-of_z (sym p_division.value ∙ (λ i. (num_is ∙ ap (num_between c.args.near.now c.args.far.now) c.scanline.ensures.value) i -ℤ l.x2 *ℤ c.meet-num.ensures.den i));
      increment = λ some.
          let q_division : IsDivisionOf (pos 2 *ℤ s *ℤ slope) (pos 2 *ℤ s *ℤ den) q = simp to_z-of_z at (c.divide_increment-increment.ensures.division some) in
          simp to_z-of_z (sym q_division.value ∙ (λ i. pos 2 *ℤ step i *ℤ c.slope.ensures.value i));
      whole_in = simp to_z-of_z p_in;
    }
