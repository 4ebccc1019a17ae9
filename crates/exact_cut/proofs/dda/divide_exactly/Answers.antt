use Rattle.std.proofs.Common.{◌≡◌, ◌↔◌, ◌+◌, ℤ, pos, ◌-ℤ◌, ◌*ℤ◌, ◌≤ℤ◌, ◌<ℤ◌, FitsSigned, to_z, of_z, refl, sym, ◌∙◌, ap, subst}
use Rattle.std.proofs.lemmas.Int.{to_z-of_z}
use mir.Syntax.{w128}
use Rattle.exact_int.specs.Bounds.{IsAtMost}
use Rattle.exact_int.proofs.lemmas.Sizes.{size_add, size_neg, size_known, fits}
use Rattle.exact_cut.specs.Bounds.{distance_limit, unit_limit}
use Rattle.exact_cut.specs.Dda.{IsDivisionOf}
use Rattle.exact_cut.proofs.lemmas.Divisions.{division_of, product_at_most, quotient_at_most}
use Rattle.exact_cut.proofs.dda.divide_exactly.Goals as goal

-- a number as a word of 128 bits holds it
abbrev stored : ℤ → ℤ
stored x = to_z w128 (of_z w128 x)

-- w is the ceiling of n / u
module _ (n u w : ℤ) (n_in : IsAtMost distance_limit n) (u_in : IsAtMost unit_limit u) (u_positive : pos 0 <ℤ u)
    (least : (q : ℤ) → (w ≤ℤ q) ↔ (stored n ≤ℤ (q *ℤ stored u))) where
  n_is : stored n ≡ n
  n_is = to_z-of_z w128 n (fits w128 (size_known n_in) refl)

  u_is : stored u ≡ u
  u_is = to_z-of_z w128 u (fits w128 (size_known u_in) refl)

  ceiling : (q : ℤ) → (w ≤ℤ q) ↔ (n ≤ℤ (q *ℤ u))
  ceiling q = subst (λ v. (w ≤ℤ q) ↔ (n ≤ℤ (q *ℤ v))) u_is (subst (λ m. (w ≤ℤ q) ↔ (m ≤ℤ (q *ℤ stored u))) n_is (least q))

  w_in : IsAtMost (distance_limit + unit_limit) w
  w_in = quotient_at_most n u w ceiling u_positive n_in u_in

  w_is : stored w ≡ w
  w_is = to_z-of_z w128 w (fits w128 (size_known w_in) refl)

  product_in : IsAtMost (distance_limit + unit_limit) (w *ℤ u)
  product_in = product_at_most n u w ceiling n_in u_in

  product_fits : FitsSigned w128 (w *ℤ u)
  product_fits = fits w128 (size_known product_in) refl

  stored_product_fits : FitsSigned w128 (stored w *ℤ stored u)
  stored_product_fits = subst (FitsSigned w128) (sym (λ i. w_is i *ℤ u_is i)) product_fits

  remainder_is : stored (stored w *ℤ stored u) -ℤ stored n ≡ w *ℤ u -ℤ n
  remainder_is = λ i. (ap stored (λ j. w_is j *ℤ u_is j) ∙ to_z-of_z w128 (w *ℤ u) product_fits) i -ℤ n_is i

  remainder_fits : FitsSigned w128 (w *ℤ u -ℤ n)
  remainder_fits = fits w128 (size_add (size_known product_in) (size_neg (size_known n_in))) refl

  stored_remainder_fits : FitsSigned w128 (stored (stored w *ℤ stored u) -ℤ stored n)
  stored_remainder_fits = subst (FitsSigned w128) (sym remainder_is) remainder_fits

  division : IsDivisionOf n u (record { quotient = stored w; remainder = stored (stored (stored w *ℤ stored u) -ℤ stored n) })
  division =
      let remainder : stored (stored (stored w *ℤ stored u) -ℤ stored n) ≡ w *ℤ u -ℤ n = ap stored remainder_is ∙ to_z-of_z w128 (w *ℤ u -ℤ n) remainder_fits in
      subst (IsDivisionOf n u) (sym (λ i. record { quotient = w_is i; remainder = remainder i })) (division_of n u w ceiling)

pub overflow_mul-result : goal.overflow_mul-result
overflow_mul-result c =
    stored_product_fits c.args.n c.args.unit c.quick_ceil_div-quotient.result c.requires.n_in c.requires.unit_in c.requires.unit_positive c.quick_ceil_div-quotient.ensures

pub overflow_sub-result : goal.overflow_sub-result
overflow_sub-result c =
    stored_remainder_fits c.args.n c.args.unit c.quick_ceil_div-quotient.result c.requires.n_in c.requires.unit_in c.requires.unit_positive c.quick_ceil_div-quotient.ensures

pub returns : goal.returns
returns c =
    division c.args.n c.args.unit c.quick_ceil_div-quotient.result c.requires.n_in c.requires.unit_in c.requires.unit_positive c.quick_ceil_div-quotient.ensures
