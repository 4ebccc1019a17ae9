-- The middle of a cell and the grid of a box, as the machine computes them.
use Rattle.std.proofs.Common.{◌≡◌, ℕ, zero, suc, max, nat_abs, ◌-ℤ◌, ◌+◌, ◌-◌, ◌*◌, ◌^◌, ◌<◌, ◌≤◌, Bool, true, false, cond, ◌||◌, refl, ap, subst, sym, ◌∙◌, arith}
use Rattle.std.specs.Prelude.{ℤ, pos, ◌+ℤ◌, ◌*ℤ◌, ◌≤ℤ◌, FitsSigned, unsigned_abs, int_lt, ◌==◌, Ok, Err}
use Rattle.std.proofs.lemmas.Int.{ints, to_z-of_z}
use Rattle.std.specs.Int.{div_ceil}
use Rattle.std.proofs.lemmas.Bool.Decides.{nat_tests}
use Rattle.std.proofs.lemmas.Grind.{div_ceil_times}
use Rattle.std.proofs.Math.Nat.{le_refl, mul-le-mul}
use mir.Syntax.{w32, w64}
use mir.Val.{Fits, of_z, to_z}
use Rattle.exact_int.specs.Bounds.{IsAtMost}
use Rattle.exact_int.proofs.lemmas.Sizes.{cast_in, fits, size_add, size_back, size_known, size_mul, size_pos}
use Rattle.geometry.specs.Limits.{IsStep}
use Rattle.geometry.specs.Point.{Point}
use Rattle.raster.specs.Grid.{cell_count, given_grid, grid_with, has_no_cells, is_too_large, middle, reaches_too_far, too_large, within_limits}
use Rattle.raster.specs.declared.grid.GridFault.TheVariants.{NoCells, FarCentre}
use Rattle.geometry.specs.declared.limits.TheConstants.{CENTRE_LIMIT, COORDINATE_LIMIT, LAYER_LIMIT, STEP_LIMIT}

pub double-fits : (n : ℕ) → n ≤ LAYER_LIMIT → Fits w64 (2 * n)
double-fits n h = record { fits = omega arith }

pub odd-fits : (n : ℕ) → n ≤ LAYER_LIMIT → Fits w64 (2 * n + 1)
odd-fits n h = record { fits = omega arith }

-- how far a middle can lie from the start: an odd number of half steps
abbrev reach_limit : ℕ
reach_limit = STEP_LIMIT * (2 * LAYER_LIMIT + 1)

reach : (a b : ℕ) → a ≤ STEP_LIMIT → b ≤ LAYER_LIMIT → a * (2 * b + 1) ≤ reach_limit
reach a b h k = let odd : 2 * b + 1 ≤ 2 * LAYER_LIMIT + 1 = omega arith in mul-le-mul h odd

pub reach-fits : (a b : ℕ) → a ≤ STEP_LIMIT → b ≤ LAYER_LIMIT → Fits w64 (a * (2 * b + 1))
reach-fits a b h k = record { fits = small (a * (2 * b + 1)) (reach a b h k) }
  where
    small : (n : ℕ) → n ≤ reach_limit → n < 2 ^ 64
    small n h = omega arith

reach-in : (a b : ℕ) → a ≤ STEP_LIMIT → b ≤ LAYER_LIMIT → IsAtMost reach_limit (pos (a * (2 * b + 1)))
reach-in a b h k = record { at_most = reach a b h k }

pub reach-signed : (a b : ℕ) → a ≤ STEP_LIMIT → b ≤ LAYER_LIMIT → FitsSigned w64 (pos (a * (2 * b + 1)))
reach-signed a b h k = fits w64 (size_known (reach-in a b h k)) refl

pub twice-fits : (s : ℤ) → IsAtMost COORDINATE_LIMIT s → FitsSigned w64 (pos 2 *ℤ to_z w64 (of_z w64 s))
twice-fits s h = fits w64 (size_mul (size_pos 2) (size_back w64 s (size_known h))) refl

pub middle-fits : (s : ℤ) (a b : ℕ) → IsAtMost COORDINATE_LIMIT s → a ≤ STEP_LIMIT → b ≤ LAYER_LIMIT
    → FitsSigned w64 (to_z w64 (of_z w64 (pos 2 *ℤ to_z w64 (of_z w64 s))) +ℤ to_z w64 (a * (2 * b + 1)))
middle-fits s a b h k l =
    fits w64 (size_add (size_back w64 (pos 2 *ℤ to_z w64 (of_z w64 s)) (size_mul (size_pos 2) (size_back w64 s (size_known h))))
    (size_known (cast_in w64 (a * (2 * b + 1)) reach_limit (reach a b k l)))) refl

pub middle-read : (start s : ℤ) (step number a b : ℕ) → s ≡ start → a ≡ step → b ≡ number → IsAtMost COORDINATE_LIMIT s → a ≤ STEP_LIMIT → b ≤ LAYER_LIMIT
    → to_z w64 (of_z w64 (to_z w64 (of_z w64 (pos 2 *ℤ to_z w64 (of_z w64 s))) +ℤ to_z w64 (a * (2 * b + 1)))) ≡ middle start step number
middle-read start s step number a b e f g h k l =
    to_z-of_z w64 (to_z w64 (of_z w64 (pos 2 *ℤ to_z w64 (of_z w64 s))) +ℤ to_z w64 (a * (2 * b + 1))) (middle-fits s a b h k l)
    ∙ ap (λ x. x +ℤ to_z w64 (a * (2 * b + 1))) (to_z-of_z w64 (pos 2 *ℤ to_z w64 (of_z w64 s)) (twice-fits s h))
    ∙ ap (λ x. pos 2 *ℤ x +ℤ to_z w64 (a * (2 * b + 1))) (to_z-of_z w64 s (fits w64 (size_known h) refl))
    ∙ ap (λ x. pos 2 *ℤ s +ℤ x) (to_z-of_z w64 (pos (a * (2 * b + 1))) (reach-signed a b k l))
    ∙ ap (λ x. middle x a b) e ∙ ap (λ n. middle start n b) f ∙ ap (λ n. middle start step n) g

pub coordinate : (z : ℤ) → IsAtMost COORDINATE_LIMIT z → to_z w32 (of_z w32 z) ≡ z
coordinate z h = to_z-of_z w32 z (fits w32 (size_known h) refl)

-- a middle that is computed from a coordinate
pub middle-at : (z o m : ℤ) (step n : ℕ) → z ≡ o → IsAtMost COORDINATE_LIMIT z → m ≡ middle (to_z w32 (of_z w32 z)) step n → IsAtMost CENTRE_LIMIT m
    → to_z w64 (of_z w64 m) ≡ middle o step n
middle-at z o m step n e h f k =
    to_z-of_z w64 m (fits w64 (size_known k) refl) ∙ f ∙ ap (λ x. middle x step n) (coordinate z h ∙ e)

pub height : (z : ℤ) → IsAtMost CENTRE_LIMIT z → to_z w64 (of_z w64 z) ≡ z
height z h = to_z-of_z w64 z (fits w64 (size_known h) refl)

-- the middle of the last cell, of a coordinate that is read back
pub last-back : (z low : ℤ) (step n : ℕ) → z ≡ low → IsAtMost COORDINATE_LIMIT z → middle low step (n - 1) ≤ℤ pos CENTRE_LIMIT → middle (to_z w32 (of_z w32 z)) step (n - 1) ≤ℤ pos CENTRE_LIMIT
last-back z low step n e h k = subst (λ (x : ℤ). middle x step (n - 1) ≤ℤ pos CENTRE_LIMIT) (sym (coordinate z h ∙ e)) k

-- a middle is within the limit if that of the last cell is
middle-within : (start : ℤ) (step number count : ℕ) → IsAtMost COORDINATE_LIMIT start → number < count → middle start step (count - 1) ≤ℤ pos CENTRE_LIMIT → IsAtMost CENTRE_LIMIT (middle start step number)
middle-within start step number count h low last =
    let up : step * (2 * number + 1) ≤ step * (2 * (count - 1) + 1) = mul-le-mul (le_refl step) (omega arith) in
    record { at_most = between (step * (2 * number + 1)) (step * (2 * (count - 1) + 1)) up last }
  where
    between : (m n : ℕ) → m ≤ n → (pos 2 *ℤ start +ℤ pos n) ≤ℤ pos CENTRE_LIMIT → unsigned_abs (pos 2 *ℤ start +ℤ pos m) ≤ CENTRE_LIMIT
    between m n up last = omega (arith, ints, up, last, h.at_most)

pub middle-back : (start m : ℤ) (step number count : ℕ) → m ≡ middle start step number → IsAtMost COORDINATE_LIMIT start → number < count → middle start step (count - 1) ≤ℤ pos CENTRE_LIMIT
    → IsAtMost CENTRE_LIMIT (to_z w64 (of_z w64 m))
middle-back start m step number count e h low last =
    let k : IsAtMost CENTRE_LIMIT m = subst (IsAtMost CENTRE_LIMIT) (sym e) (middle-within start step number count h low last) in
    subst (IsAtMost CENTRE_LIMIT) (sym (height m k)) k

-- ---- the grid of a box
pub coordinate-in : (z : ℤ) → IsAtMost COORDINATE_LIMIT z → IsAtMost COORDINATE_LIMIT (to_z w32 (of_z w32 z))
coordinate-in z h = subst (IsAtMost COORDINATE_LIMIT) (sym (coordinate z h)) h

pub coordinates-up : (a b low high : ℤ) → a ≡ low → b ≡ high → low ≤ℤ high → a ≤ℤ b
coordinates-up a b low high e f h = subst (λ (z : ℤ). a ≤ℤ z) (sym f) (subst (λ (z : ℤ). z ≤ℤ high) (sym e) h)

pub last-from : (a low : ℤ) (step n : ℕ) → a ≡ low → middle a step (n - 1) ≤ℤ pos CENTRE_LIMIT → middle low step (n - 1) ≤ℤ pos CENTRE_LIMIT
last-from a low step n e h = subst (λ (z : ℤ). middle z step (n - 1) ≤ℤ pos CENTRE_LIMIT) e h

pub count-from : (n : ℕ) (a b low high : ℤ) (step : ℕ) → n ≡ cell_count a b step → a ≡ low → b ≡ high → n ≡ cell_count low high step
count-from n a b low high step h e f = h ∙ ap (λ z. cell_count z b step) e ∙ ap (λ z. cell_count low z step) f

-- the last of the cells that cover a range begins in it
last-steps : (m cells extent step : ℕ) → cells * step < extent + step → m + 1 ≡ max cells 1 → m * step ≤ extent
last-steps zero cells extent step h e = omega arith
last-steps (suc m) cells extent step h e =
    let more : suc m + 1 ≡ cells = omega (arith, e) in
    let all : (suc m + 1) * step < extent + step = subst (λ (k : ℕ). k * step < extent + step) (sym more) h in
    omega (arith, all)

pub last-middle : (low high : ℤ) (step extent n : ℕ) → extent ≡ nat_abs (high -ℤ low) → n ≡ max (div_ceil extent step) 1 → IsAtMost COORDINATE_LIMIT low → IsAtMost COORDINATE_LIMIT high → low ≤ℤ high → IsStep step
    → middle low step (n - 1) ≤ℤ pos CENTRE_LIMIT
last-middle low high step extent n wide count small large order h =
    let one : n - 1 + 1 ≡ n = omega (arith, count) in
    let near : (n - 1) * step ≤ extent = last-steps (n - 1) (div_ceil extent step) extent step (div_ceil_times extent step (omega (arith, h.0))).1 (one ∙ count) in
    reaches (step * (2 * (n - 1) + 1)) (odd (n - 1) near)
  where
    odd : (m : ℕ) → m * step ≤ extent → step * (2 * m + 1) ≤ 2 * extent + step
    odd m near = omega arith

    reaches : (k : ℕ) → k ≤ 2 * extent + step → (pos 2 *ℤ low +ℤ pos k) ≤ℤ pos CENTRE_LIMIT
    reaches k up = omega (arith, ints, up, wide, small.at_most, large.at_most, order, h.1)

pub limits-from : (low : Point) (pitch height a b c x y z : ℕ) → a ≡ x → b ≡ y → c ≡ z
    → within_limits (grid_with low pitch height a b c) ≡ within_limits (grid_with low pitch height x y z)
limits-from low pitch height a b c x y z e f g =
    ap (λ n. within_limits (grid_with low pitch height n b c)) e
    ∙ ap (λ n. within_limits (grid_with low pitch height x n c)) f
    ∙ ap (λ n. within_limits (grid_with low pitch height x y n)) g

pub no-cells : (a b c : ℕ) → 1 ≤ a → 1 ≤ b → 1 ≤ c → (a == 0 || b == 0 || c == 0) ≡ false
no-cells a b c h k l = grind (arith, nat_tests, h, k, l)

pub not-beyond : (n : ℕ) (z : ℤ) → z ≤ℤ pos n → int_lt (pos n) z ≡ false
not-beyond n z h = grind (arith, ints, h)

pub neither : (a b c : Bool) → a ≡ false → b ≡ false → c ≡ false → (a || b || c) ≡ false
neither true b c f g h = f
neither false true c f g h = g
neither false false c f g h = h

pub decided : {R : Type 0} (a b c : Bool) (x y z w : R) → a ≡ false → c ≡ false → cond a x (cond b y (cond c z w)) ≡ cond b y w
decided true b c x y z w e f = absurd (grind (arith, e))
decided false true c x y z w e f = refl
decided false false true x y z w e f = absurd (grind (arith, f))
decided false false false x y z w e f = refl

-- a grid with cells that does not reach too far is refused for its counts alone
pub given-limits : (low : Point) (pitch height a b c : ℕ) → 1 ≤ a → 1 ≤ b → 1 ≤ c
    → middle low.x pitch (a - 1) ≤ℤ pos CENTRE_LIMIT → middle low.y pitch (b - 1) ≤ℤ pos CENTRE_LIMIT → middle low.z height (c - 1) ≤ℤ pos CENTRE_LIMIT
    → given_grid (grid_with low pitch height a b c) ≡ within_limits (grid_with low pitch height a b c)
given-limits low pitch height a b c one two three x y z =
    let g = grid_with low pitch height a b c in
    decided (has_no_cells g) (is_too_large g) (reaches_too_far g) (Err NoCells) (Err (too_large g)) (Err FarCentre) (Ok g)
    (no-cells a b c one two three)
    (neither _ _ _ (not-beyond CENTRE_LIMIT (middle low.x pitch (a - 1)) x) (not-beyond CENTRE_LIMIT (middle low.y pitch (b - 1)) y) (not-beyond CENTRE_LIMIT (middle low.z height (c - 1)) z))
