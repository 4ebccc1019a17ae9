use Rattle.std.proofs.Common.{◌≡◌, ◌∙◌, ap, max, nat_abs, to_z, of_z, w32, ◌-ℤ◌}
use Rattle.std.specs.Int.{div_ceil}
use Rattle.std.proofs.Math.Nat.{max_comm}
use Rattle.std.proofs.lemmas.Int.{to_z-of_z}
use Rattle.raster.proofs.lemmas.Middles.{last-middle}
use Rattle.raster.proofs.grid.cell_count.Goals as goal

pub returns-clause-value : goal.returns-clause-value
returns-clause-value c =
    let extent : c.abs_diff.result ≡ nat_abs (c.args.high -ℤ c.args.low) =
    c.abs_diff.ensures ∙ ap (λ z. nat_abs (z -ℤ to_z w32 (of_z w32 c.args.low))) (to_z-of_z w32 c.args.high c.ranges.high)
    ∙ ap (λ z. nat_abs (c.args.high -ℤ z)) (to_z-of_z w32 c.args.low c.ranges.low) in
    c.max.ensures ∙ ap (λ n. max n 1) (c.div_ceil.ensures ∙ ap (λ n. div_ceil n c.args.step) extent)
    ∙ max_comm (div_ceil (nat_abs (c.args.high -ℤ c.args.low)) c.args.step) 1

pub returns-clause-last : goal.returns-clause-last
returns-clause-last c =
    let extent : c.abs_diff.result ≡ nat_abs (c.args.high -ℤ c.args.low) =
    c.abs_diff.ensures ∙ ap (λ z. nat_abs (z -ℤ to_z w32 (of_z w32 c.args.low))) (to_z-of_z w32 c.args.high c.ranges.high)
    ∙ ap (λ z. nat_abs (c.args.high -ℤ z)) (to_z-of_z w32 c.args.low c.ranges.low) in
    last-middle c.args.low c.args.high c.args.step c.abs_diff.result c.max.result extent (c.max.ensures ∙ ap (λ n. max n 1) c.div_ceil.ensures)
    c.requires.low c.requires.high c.requires.order c.requires.step
