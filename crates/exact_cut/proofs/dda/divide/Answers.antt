use Rattle.std.proofs.Common.{◌≡◌, ◌+◌, ◌≤◌, ℤ, pos, ◌-ℤ◌, ◌*ℤ◌, ◌≤ℤ◌, ◌<ℤ◌, unsigned_abs, subst, arith}
use Rattle.std.proofs.lemmas.Int.{ints, to_z-of_z}
use mir.Syntax.{w128}
use Rattle.exact_cut.specs.Dda.{IsDivisionOf}
use Rattle.exact_cut.specs.declared.dda.Division.{Division}
use Rattle.exact_cut.proofs.lemmas.Divisions.{factor_in}
use Rattle.exact_cut.proofs.dda.divide.Goals as goal

division_of : {n' u' : ℤ} (n u : ℤ) (d : Division) → n' ≡ n → u' ≡ u → IsDivisionOf n' u' d → IsDivisionOf n u d
division_of {u' = u'} n u d e f h = subst (λ v. IsDivisionOf n v d) f (subst (λ m. IsDivisionOf m u' d) e h)

quotient_of : (n u : ℤ) (d : Division) → pos 0 <ℤ u → IsDivisionOf n u d → unsigned_abs d.quotient ≤ unsigned_abs n + unsigned_abs u
quotient_of n u d p h =
    factor_in d.quotient u p (product n u (d.quotient *ℤ u) d.remainder h.value h.not_negative h.below)
  where
    product : (n u p r : ℤ) → n ≡ p -ℤ r → pos 0 ≤ℤ r → r <ℤ u → unsigned_abs p ≤ unsigned_abs n + unsigned_abs u
    product n u p r e h k = omega (arith, ints)

pub returns-in-Some-clause-division : goal.returns-in-Some-clause-division
returns-in-Some-clause-division c =
    division_of c.args.n c.args.unit c.in-Some.division (to_z-of_z w128 c.args.n c.ranges.n) (to_z-of_z w128 c.args.unit c.ranges.unit) c.in-Some.ensures

pub returns-in-None-clause-division : goal.returns-in-None-clause-division
returns-in-None-clause-division c =
    division_of c.args.n c.args.unit c.divide_exactly.result (to_z-of_z w128 c.args.n c.ranges.n) (to_z-of_z w128 c.args.unit c.ranges.unit) c.divide_exactly.ensures

pub returns-in-Some-clause-quotient_in : goal.returns-in-Some-clause-quotient_in
returns-in-Some-clause-quotient_in c =
    quotient_of c.args.n c.args.unit c.in-Some.division c.requires.unit_positive (returns-in-Some-clause-division c)

pub returns-in-None-clause-quotient_in : goal.returns-in-None-clause-quotient_in
returns-in-None-clause-quotient_in c =
    quotient_of c.args.n c.args.unit c.divide_exactly.result c.requires.unit_positive (returns-in-None-clause-division c)
