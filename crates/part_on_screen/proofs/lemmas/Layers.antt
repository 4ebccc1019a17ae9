-- As many layers as have their middle below the top.
use Rattle.std.proofs.Common.{◌≡◌, ℕ, zero, suc, ◌+◌, ◌-◌, ◌*◌, ◌/◌, ◌%◌, ◌<◌, ◌≤◌, max, arith}
use Rattle.std.specs.Prelude.{ℤ, pos, ◌+ℤ◌, ◌-ℤ◌, ◌*ℤ◌, ◌≤ℤ◌, ◌<ℤ◌, nat_abs}
use Rattle.std.proofs.lemmas.Int.{ints}
use Rattle.std.proofs.lemmas.Nat.{div-add-mod', mod_below}
use Rattle.std.proofs.Math.Nat.{le_refl, mul-le-mul}
use Rattle.part_on_screen.specs.Middle.{IsLayerCount}

-- q is the quotient of twice the height and a step less one, and two steps
no-more : (h s q r n : ℕ) → q * (2 * s) + r ≡ 2 * h + s - 1 → r < 2 * s → 1 ≤ s → n ≡ max q 1 → 2 * h ≤ s * (2 * n + 1)
no-more h s zero r n e k some m = let one : n ≡ 1 = omega (arith, m) in rw one (omega (arith, e, k, some))
no-more h s (suc q) r n e k some m = let all : n ≡ suc q = omega (arith, m) in rw all (omega (arith, e, k, some))

below-top : (h s q r n k : ℕ) → q * (2 * s) + r ≡ 2 * h + s - 1 → 1 ≤ s → n ≡ max q 1 → 1 ≤ k → k < n → s * (2 * k + 1) < 2 * h
below-top h s zero r n k e some m one few = absurd (omega (arith, m, one, few))
below-top h s (suc q) r n k e some m one few =
    let up : s * (2 * k + 1) ≤ s * (2 * q + 1) = mul-le-mul (le_refl s) (omega (arith, m, few)) in
    omega (arith, up, e, some)

pub layers-of : (low high : ℤ) (s extent n : ℕ) → extent ≡ nat_abs (high -ℤ low) → low ≤ℤ high → 1 ≤ s
    → n ≡ max ((2 * extent + s - 1) / (2 * s)) 1 → IsLayerCount low high s n
layers-of low high s extent n wide order some count =
    let q = (2 * extent + s - 1) / (2 * s) in
    let r = (2 * extent + s - 1) % (2 * s) in
    let whole = div-add-mod' (2 * extent + s - 1) (2 * s) in
    let rest = mod_below (2 * extent + s - 1) (2 * s) (omega (arith, some)) in
    record {
      some = omega (arith, count);
      below_top = λ k one few. under (s * (2 * k + 1)) (below-top extent s q r n k whole some count one few);
      no_more = over (s * (2 * n + 1)) (no-more extent s q r n whole rest some count);
    }
  where
    under : (m : ℕ) → m < 2 * extent → (pos 2 *ℤ low +ℤ pos m) <ℤ (pos 2 *ℤ high)
    under m h = omega (arith, ints, h, wide, order)

    over : (m : ℕ) → 2 * extent ≤ m → (pos 2 *ℤ high) ≤ℤ (pos 2 *ℤ low +ℤ pos m)
    over m h = omega (arith, ints, h, wide, order)
