use Rattle.std.proofs.Common.{◌≡◌, ◌<◌, ◌+◌, ◌-◌, ◌*◌, ◌/◌, ◌%◌, ◌^◌, ℕ, ℤ, pos, negsuc, FitsSigned, to_z, of_z, bit_and, false, int_lt, if◌then◌else◌, sym, ◌∙◌, ap, subst, arith}
use Rattle.std.proofs.lemmas.Int.{ints, to_z-of_z}
use Rattle.std.proofs.lemmas.Nat.{and_mask, mod-mul-add}
use Rattle.std.proofs.Math.Facts.{Fits-of_z, Fits-lt-pow}
use Rattle.std.specs.Int.Bits.{and_zero_r}
use Rattle.std.specs.Int.Signed.{shr_z}
use mir.Syntax.{w128}
use Rattle.exact_cut.proofs.dda.if_negative.Goals as goal

no_units : (a : ℕ) → a < 2 ^ 127 → a / 2 ^ 127 ≡ 0
no_units a h = grind arith

pos_in : (a : ℕ) → FitsSigned w128 (pos a) → a < 2 ^ 127
pos_in a f = omega (arith, ints, f)

neg_in : (a : ℕ) → FitsSigned w128 (negsuc a) → a < 2 ^ 127
neg_in a f = omega (arith, ints, f)

all_kept : (x : ℕ) → x < 2 ^ 128 → bit_and x (2 ^ 128 - 1) ≡ x
all_kept x h = and_mask x 128 ∙ subst (λ y. y % 2 ^ 128 ≡ x) (alone x) (mod-mul-add 0 (2 ^ 128) x h)
  where
    alone : (x : ℕ) → 0 * 2 ^ 128 + x ≡ x
    alone x = omega arith

not_below : (a : ℕ) → int_lt (pos a) (pos 0) ≡ false
not_below a = grind arith

masked : (excess n : ℤ) → FitsSigned w128 excess → FitsSigned w128 n → to_z w128 (bit_and (of_z w128 n) (of_z w128 (shr_z excess (2 ^ 127)))) ≡ (if int_lt excess (pos 0) then n else pos 0)
masked (pos a) n f g =
    ap (λ q. to_z w128 (bit_and (of_z w128 n) (of_z w128 (pos q)))) (no_units a (pos_in a f)) ∙ ap (to_z w128) (and_zero_r (of_z w128 n))
    ∙ (λ i. if sym (not_below a) i then n else pos 0)
masked (negsuc a) n f g =
    ap (λ q. to_z w128 (bit_and (of_z w128 n) (of_z w128 (negsuc q)))) (no_units a (neg_in a f))
    ∙ ap (to_z w128) (all_kept (of_z w128 n) (Fits-lt-pow {w = w128} (Fits-of_z {w = w128} g))) ∙ to_z-of_z w128 n g

pub returns : goal.returns
returns c =
    let f1 : FitsSigned w128 c.args.excess = c.ranges.excess in
    simp to_z-of_z (masked c.args.excess c.args.n c.ranges.excess c.ranges.n)
