use Rattle.std.proofs.Common.{◌≡◌, ◌≤◌, ◌*◌, ◌++◌, ◌^◌, ◌<◌, ◌+◌, List, ℕ, ℤ, pos, ◌+ℤ◌, ◌-ℤ◌, SFits, to_z, of_z, w64, length, arith, subst, length-append, unsigned_abs}
use Rattle.std.proofs.lemmas.Int.{ints, fits_signed_from_abs, to_z-of_z}
use Rattle.micro_num.specs.declared.limits.TheConstants.{LEADING_LIMIT, WORD_LIMIT}
use Rattle.micro_num.specs.Micrometres.{digits_value, magnitude, unit_factor, unit_power}
use Rattle.micro_num.specs.Scan.{IsCapped}
use Rattle.micro_num.proofs.lemmas.DigitRows.{digits_below}
use Rattle.micro_num.proofs.lemmas.Inches.{power_small, times_below}
use Rattle.micro_num.proofs.lemmas.Capped.{IsCapped-next, IsCapped_near, IsCapped-cut}
use Rattle.micro_num.proofs.scaling.magnitude_in.Goals as goal

-- The power is a sum of small numbers, so that no part of it overflows.

small_fits : (z : ℤ) → unsigned_abs z < LEADING_LIMIT + 3 * WORD_LIMIT → SFits w64 z
small_fits z small = fits_signed_from_abs w64 z (omega arith)

less : (e : ℤ) (k : ℕ) → unsigned_abs e < LEADING_LIMIT → k ≤ WORD_LIMIT → to_z w64 (of_z w64 e) -ℤ to_z w64 k ≡ e -ℤ pos k
less e k small few = rw (to_z-of_z w64 e (small_fits e (omega arith))) (omega (arith, ints))

more : (z : ℤ) (j : ℕ) → unsigned_abs z < LEADING_LIMIT + WORD_LIMIT → j ≤ WORD_LIMIT → to_z w64 (of_z w64 z) +ℤ to_z w64 j ≡ z +ℤ pos j
more z j small few = rw (to_z-of_z w64 z (small_fits z (omega arith))) (omega (arith, ints))

pub overflow_sub-power : goal.overflow_sub-power
overflow_sub-power c =
    let k : ℕ = length c.args.mantissa.now.fraction.now in
    let few : k ≤ WORD_LIMIT = omega (arith, c.requires.mantissa.within) in
    rw (less c.args.exponent k c.requires.small few) (small_fits (c.args.exponent -ℤ pos k) (omega (arith, ints)))

pub overflow_add-power : goal.overflow_add-power
overflow_add-power c =
    let k : ℕ = length c.args.mantissa.now.fraction.now in
    let j : ℕ = c.args.mantissa.now.leading.dropped in
    let few : k ≤ WORD_LIMIT = omega (arith, c.requires.mantissa.within) in
    let fewer : j ≤ WORD_LIMIT = omega (arith, c.requires.mantissa.few, c.requires.mantissa.within) in
    rw (less c.args.exponent k c.requires.small few, more (c.args.exponent -ℤ pos k) j (omega (arith, ints)) fewer)
    (small_fits ((c.args.exponent -ℤ pos k) +ℤ pos j) (omega (arith, ints)))

pub overflow_add-power-2 : goal.overflow_add-power-2
overflow_add-power-2 c =
    let k : ℕ = length c.args.mantissa.now.fraction.now in
    let j : ℕ = c.args.mantissa.now.leading.dropped in
    let u : ℕ = unit_power c.args.unit in
    let few : k ≤ WORD_LIMIT = omega (arith, c.requires.mantissa.within) in
    let fewer : j ≤ WORD_LIMIT = omega (arith, c.requires.mantissa.few, c.requires.mantissa.within) in
    let up : u ≤ 6 = power_small c.args.unit in
    rw (
      less c.args.exponent k c.requires.small few,
      more (c.args.exponent -ℤ pos k) j (omega (arith, ints)) fewer,
      c.power_in.ensures,
      to_z-of_z w64 ((c.args.exponent -ℤ pos k) +ℤ pos j) (small_fits _ (omega (arith, ints))),
      to_z-of_z w64 (pos u) (small_fits (pos u) (omega (arith, ints))),
    )
    (small_fits (((c.args.exponent -ℤ pos k) +ℤ pos j) +ℤ pos u) (omega (arith, ints)))

pub returns : goal.returns
returns c = λ z is_near.
    let w : List ℕ = c.args.mantissa.now.whole.now in
    let f : List ℕ = c.args.mantissa.now.fraction.now in
    let j : ℕ = c.args.mantissa.now.leading.dropped in
    let e : ℤ = c.args.exponent in
    let u : ℕ = unit_power c.args.unit in
    let m : ℕ = unit_factor c.args.unit * digits_value (w ++ f) in
    let d : ℤ = pos u -ℤ pos (length f) in
    let up : u ≤ 6 = power_small c.args.unit in
    let short : length (w ++ f) ≤ WORD_LIMIT = omega (arith, length-append w f) in
    let below : m < 10 ^ 300 = times_below c.args.unit (digits_value (w ++ f)) (length (w ++ f)) (digits_below (w ++ f) c.requires.mantissa.digits) short in
    let cut = c.in_unit.ensures in
    let first : IsCapped (magnitude m (z +ℤ d)) (magnitude m (e +ℤ d)) = IsCapped_near m e z d below is_near (omega (arith, ints)) (omega (arith, ints)) in
    let second : IsCapped (magnitude m (e +ℤ d)) (magnitude c.in_unit.result ((e +ℤ d) +ℤ pos j)) =
    IsCapped-cut c.in_unit.result m j cut.low cut.high cut.long (e +ℤ d) in
    let third : IsCapped (magnitude c.in_unit.result ((e +ℤ d) +ℤ pos j)) c.scaled.result =
    subst (λ s. IsCapped (magnitude c.in_unit.result s) c.scaled.result) (omega (arith, ints, c.power_in.ensures)) c.scaled.ensures in
    let power : z +ℤ d ≡ (z -ℤ pos (length f)) +ℤ pos u = omega (arith, ints) in
    subst (λ s. IsCapped (magnitude m s) c.scaled.result) power
    (IsCapped-next _ _ _ first (IsCapped-next _ _ _ second third))
