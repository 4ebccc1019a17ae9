use Rattle.std.proofs.Common.{◌≡◌, true, false, ℤ, pos, ◌+ℤ◌, ◌-ℤ◌, ◌*ℤ◌, ◌≤ℤ◌, ◌<ℤ◌, int_le, int_lt, FitsSigned, to_z, of_z, sym, ◌∙◌, ap, subst, arith}
use Rattle.std.proofs.Math.Facts.{sfits_widen}
use Rattle.std.proofs.lemmas.Int.{ints, to_z-of_z}
use mir.Syntax.{w64, w128}
use Rattle.exact_int.proofs.lemmas.Tests.{plain_less}
use Rattle.exact_cut.specs.Dda.{IsDivisionOf}
use Rattle.exact_cut.specs.declared.dda.Division.{Division}
use Rattle.exact_cut.proofs.lemmas.Divisions.{division_at, division_above, opposite_fits, next_remainder_fits, one_more}
use Rattle.exact_cut.proofs.dda.division_near.Goals as goal

-- a number as a word of 64 bits holds it, and as one of 128 bits holds that
abbrev stored : ℤ → ℤ
stored x = to_z w64 (of_z w64 x)

abbrev widened : ℤ → ℤ
widened x = to_z w128 (of_z w128 (stored x))

widened-is : (x : ℤ) → FitsSigned w64 x → widened x ≡ x
widened-is x f = ap (λ y. to_z w128 (of_z w128 y)) (to_z-of_z w64 x f) ∙ to_z-of_z w128 x (sfits_widen tt f)

opposite-is : (u : ℤ) → pos 0 <ℤ u → FitsSigned w64 u → stored (pos 0 -ℤ stored u) ≡ pos 0 -ℤ u
opposite-is u p f = ap (λ y. stored (pos 0 -ℤ y)) (to_z-of_z w64 u f) ∙ to_z-of_z w64 (pos 0 -ℤ u) (opposite_fits u p f)

one_more-is : (g : ℤ) → FitsSigned w64 g → to_z w128 (of_z w128 (widened g +ℤ pos 1)) ≡ g +ℤ pos 1
one_more-is g f = ap (λ y. to_z w128 (of_z w128 (y +ℤ pos 1))) (widened-is g f) ∙ to_z-of_z w128 (g +ℤ pos 1) (one_more g f)

-- the product p of the guess g, which exceeds n by e
module _ (n u g p e : ℤ) (u_positive : pos 0 <ℤ u) (n_in : FitsSigned w64 n) (u_in : FitsSigned w64 u) (g_in : FitsSigned w64 g)
    (product : FitsSigned w64 (stored g *ℤ stored u) × (p ≡ stored g *ℤ stored u))
    (excess : FitsSigned w64 (stored p -ℤ stored n) × (e ≡ stored p -ℤ stored n)) where
  p_in : FitsSigned w64 p
  p_in = subst (FitsSigned w64) (sym product.1) product.0

  p_is : p ≡ g *ℤ u
  p_is = product.1 ∙ (λ i. to_z-of_z w64 g g_in i *ℤ to_z-of_z w64 u u_in i)

  e_in : FitsSigned w64 e
  e_in = subst (FitsSigned w64) (sym excess.1) excess.0

  e_is : e ≡ p -ℤ n
  e_is = excess.1 ∙ (λ i. to_z-of_z w64 p p_in i -ℤ to_z-of_z w64 n n_in i)

  not_negative : int_le (pos 0) (stored e) ≡ true → pos 0 ≤ℤ e
  not_negative h = subst (λ x. pos 0 ≤ℤ x) (to_z-of_z w64 e e_in) (by (stored e) h)
    where
      by : (x : ℤ) → int_le (pos 0) x ≡ true → pos 0 ≤ℤ x
      by x h = omega (arith, ints)

  negative : int_le (pos 0) (stored e) ≡ false → e <ℤ pos 0
  negative h = subst (λ x. x <ℤ pos 0) (to_z-of_z w64 e e_in) (by (stored e) h)
    where
      by : (x : ℤ) → int_le (pos 0) x ≡ false → x <ℤ pos 0
      by x h = omega (arith, ints)

  below : int_lt (stored e) (stored u) ≡ true → e <ℤ u
  below h = (plain_less e u).0 (sym (λ i. int_lt (to_z-of_z w64 e e_in i) (to_z-of_z w64 u u_in i)) ∙ h)

  above : int_lt (stored (pos 0 -ℤ stored u)) (stored e) ≡ true → (pos 0 -ℤ u) <ℤ e
  above h = (plain_less (pos 0 -ℤ u) e).0 (sym (λ i. int_lt (opposite-is u u_positive u_in i) (to_z-of_z w64 e e_in i)) ∙ h)

  at_guess : int_le (pos 0) (stored e) ≡ true → int_lt (stored e) (stored u) ≡ true → IsDivisionOf n u (record { quotient = widened g; remainder = widened e })
  at_guess h k =
      let division : Division → Type 0 = IsDivisionOf n u in
      subst division (sym (λ i. record { quotient = widened-is g g_in i; remainder = widened-is e e_in i })) (division_at n u g p e p_is e_is (not_negative h) (below k))

  above_guess : int_le (pos 0) (stored e) ≡ false → int_lt (stored (pos 0 -ℤ stored u)) (stored e) ≡ true
      → IsDivisionOf n u (record { quotient = to_z w128 (of_z w128 (widened g +ℤ pos 1)); remainder = widened (stored e +ℤ stored u) })
  above_guess h k =
      let division : Division → Type 0 = IsDivisionOf n u in
      let next : FitsSigned w64 (e +ℤ u) = next_remainder_fits e u u_in (negative h) (above k) in
      let remainder : widened (stored e +ℤ stored u) ≡ e +ℤ u = ap widened (λ i. to_z-of_z w64 e e_in i +ℤ to_z-of_z w64 u u_in i) ∙ widened-is (e +ℤ u) next in
      subst division (sym (λ i. record { quotient = one_more-is g g_in i; remainder = remainder i })) (division_above n u g p e p_is e_is (negative h) (above k))

pub overflow_sub-unit : goal.overflow_sub-unit
overflow_sub-unit c =
    let u = c.args.unit in
    subst (FitsSigned w64) (sym (λ i. pos 0 -ℤ to_z-of_z w64 u c.ranges.unit i)) (opposite_fits u c.requires c.ranges.unit)

pub overflow_add-result : goal.overflow_add-result
overflow_add-result c =
    let g = c.args.guess in
    subst (FitsSigned w128) (sym (λ i. widened-is g c.ranges.guess i +ℤ pos 1)) (one_more g c.ranges.guess)

pub returns-then-excess-unit : goal.returns-then-excess-unit
returns-then-excess-unit c =
    at_guess c.args.n c.args.unit c.args.guess c.in_ok-checked_mul.field-0 c.in_ok-excess.excess c.requires c.ranges.n c.ranges.unit c.ranges.guess
    c.in_ok-checked_mul.ensures c.in_ok-excess.ensures c.if-excess-ge0.true c.if-excess-unit.true

pub returns-then-unit-excess : goal.returns-then-unit-excess
returns-then-unit-excess c =
    above_guess c.args.n c.args.unit c.args.guess c.in_ok-checked_mul.field-0 c.in_ok-excess.excess c.requires c.ranges.n c.ranges.unit c.ranges.guess
    c.in_ok-checked_mul.ensures c.in_ok-excess.ensures c.if-excess-ge0.false c.if-unit-excess.true
