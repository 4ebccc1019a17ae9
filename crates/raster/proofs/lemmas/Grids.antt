-- Given parts are a grid exactly if no test refuses them, and the least number of cells that cover a range.
use Rattle.std.proofs.Common.{◌≡◌, ℕ, ◌+◌, ◌-◌, ◌*◌, ◌<◌, ◌≤◌, max, Bool, true, false, ◌||◌, ◌↔◌, Result, Ok, Err, refl, ◌∙◌, arith}
use Rattle.std.specs.Prelude.{ℤ, pos, ◌-ℤ◌, ◌≤ℤ◌, nat_abs, nat_lt, int_lt, ◌==◌, if◌then◌else◌}
use Rattle.std.specs.Int.{div_ceil}
use Rattle.std.proofs.lemmas.Bool.{cond-false, le-ltb, ltb-false, true≢false}
use Rattle.std.proofs.lemmas.Bool.Decides.{nat_tests}
use Rattle.std.proofs.lemmas.Grind.{div_ceil_times}
use Rattle.std.proofs.lemmas.Int.{ints}
use Rattle.std.proofs.Math.Nat.{lt_of_mul-lt-mul_right, mul-le-mul_right}
use Rattle.geometry.specs.Limits.{IsStep}
use Rattle.geometry.specs.Point.{IsMeshPoint}
use Rattle.geometry.specs.declared.limits.TheConstants.{CENTRE_LIMIT, COLUMN_LIMIT, LAYER_LIMIT}
use Rattle.raster.specs.Grid.{Grid, IsGrid, cell_count, given_grid, has_no_cells, is_too_large, middle, reaches_too_far, too_large}
use Rattle.raster.specs.declared.grid.GridFault.{GridFault}
use Rattle.raster.specs.declared.grid.GridFault.TheVariants.{FarCentre, NoCells}
use Rattle.raster.proofs.lemmas.Middles.{decided, neither, no-cells, not-beyond}

-- ---- given parts
none-of : (a b c : Bool) → (a || b || c) ≡ false → (a ≡ false) × (b ≡ false) × (c ≡ false)
none-of true b c h = absurd (true≢false h)
none-of false true c h = absurd (true≢false h)
none-of false false c h = (refl, refl, h)

some : (n : ℕ) → (n == 0) ≡ false → 1 ≤ n
some n h = grind (arith, nat_tests)

within : (n : ℕ) (z : ℤ) → int_lt (pos n) z ≡ false → z ≤ℤ pos n
within n z h = grind (arith, ints)

-- no test refuses a grid that is returned
passed : (g : Grid) (none large far : Bool)
    → ◌≡◌ {A = Result Grid GridFault} (if none then Err NoCells else (if large then Err (too_large g) else (if far then Err FarCentre else Ok g))) (Ok g)
    → (none ≡ false) × (large ≡ false) × (far ≡ false)
passed g true large far h = cc
passed g false true far h = cc
passed g false false true h = cc
passed g false false false h = (refl, refl, refl)

lawful : (g : Grid) → IsMeshPoint g.origin → IsStep g.pitch → IsStep g.layer_height → given_grid g ≡ Ok g → IsGrid g
lawful g origin pitch height h =
    let x = middle g.origin.x g.pitch (g.columns - 1) in
    let y = middle g.origin.y g.pitch (g.rows - 1) in
    let z = middle g.origin.z g.layer_height (g.layers - 1) in
    let tests = passed g (has_no_cells g) (is_too_large g) (reaches_too_far g) h in
    let low = none-of (g.columns == 0) (g.rows == 0) (g.layers == 0) tests.0 in
    let high = none-of (nat_lt COLUMN_LIMIT g.columns) (nat_lt COLUMN_LIMIT g.rows) (nat_lt LAYER_LIMIT g.layers) tests.1 in
    let near = none-of (int_lt (pos CENTRE_LIMIT) x) (int_lt (pos CENTRE_LIMIT) y) (int_lt (pos CENTRE_LIMIT) z) tests.2 in
    record {
      origin = origin;
      pitch = pitch;
      layer_height = height;
      columns_low = some g.columns low.0;
      columns_high = ltb-false COLUMN_LIMIT g.columns high.0;
      rows_low = some g.rows low.1;
      rows_high = ltb-false COLUMN_LIMIT g.rows high.1;
      layers_low = some g.layers low.2;
      layers_high = ltb-false LAYER_LIMIT g.layers high.2;
      last_x = within CENTRE_LIMIT x near.0;
      last_y = within CENTRE_LIMIT y near.1;
      last_z = within CENTRE_LIMIT z near.2;
    }

returned : (g : Grid) → IsGrid g → given_grid g ≡ Ok g
returned g h =
    let few : is_too_large g ≡ false =
    neither _ _ _ (le-ltb COLUMN_LIMIT g.columns h.columns_high) (le-ltb COLUMN_LIMIT g.rows h.rows_high) (le-ltb LAYER_LIMIT g.layers h.layers_high) in
    let near : reaches_too_far g ≡ false =
    neither _ _ _ (not-beyond CENTRE_LIMIT (middle g.origin.x g.pitch (g.columns - 1)) h.last_x)
    (not-beyond CENTRE_LIMIT (middle g.origin.y g.pitch (g.rows - 1)) h.last_y) (not-beyond CENTRE_LIMIT (middle g.origin.z g.layer_height (g.layers - 1)) h.last_z) in
    decided (has_no_cells g) (is_too_large g) (reaches_too_far g) (Err NoCells) (Err (too_large g)) (Err FarCentre) (Ok g)
    (no-cells g.columns g.rows g.layers h.columns_low h.rows_low h.layers_low) near
    ∙ cond-false (is_too_large g) (Err (too_large g)) (Ok g) few

pub grid-given : (g : Grid) → IsMeshPoint g.origin → IsStep g.pitch → IsStep g.layer_height → (given_grid g ≡ Ok g) ↔ IsGrid g
grid-given g origin pitch height = (lawful g origin pitch height, returned g)

-- ---- cells that cover a range
-- q is a / step, rounded up
least : (a step q n : ℕ) → a ≤ q * step → q * step < a + step → (q ≤ n) ↔ (a ≤ n * step)
least a step q n enough few = (
  λ k. omega (arith, enough, mul-le-mul_right step k),
  λ k. let under : q < n + 1 = lt_of_mul-lt-mul_right step (fewer k) in omega (arith, under),
)
  where
    fewer : a ≤ n * step → q * step < (n + 1) * step
    fewer k = omega (arith, few, k)

one-at-least : (q n : ℕ) → (max 1 q ≤ n) ↔ ((1 ≤ n) × (q ≤ n))
one-at-least q n = (λ k. (omega (arith, k), omega (arith, k)), λ k. omega (arith, k.0, k.1))

apart : (low high : ℤ) → low ≤ℤ high → pos 0 ≤ℤ (high -ℤ low)
apart low high h = omega (arith, ints)

size-within : (d : ℤ) (m : ℕ) → pos 0 ≤ℤ d → (nat_abs d ≤ m) ↔ (d ≤ℤ pos m)
size-within d m h = (λ k. omega (arith, ints, k), λ k. omega (arith, ints, k))

pub cells-least : (low high : ℤ) (step n : ℕ) → low ≤ℤ high → 1 ≤ step
    → (cell_count low high step ≤ n) ↔ ((1 ≤ n) × ((high -ℤ low) ≤ℤ pos (n * step)))
cells-least low high step n order positive =
    let size = nat_abs (high -ℤ low) in
    let up = div_ceil_times size step (omega (arith, positive)) in
    let cover = least size step (div_ceil size step) n up.0 up.1 in
    let whole = size-within (high -ℤ low) (n * step) (apart low high order) in
    let one = one-at-least (div_ceil size step) n in
    (λ k. ((one.0 k).0, whole.0 (cover.0 (one.0 k).1)), λ k. one.1 (k.0, cover.1 (whole.1 k.1)))
