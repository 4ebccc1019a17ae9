use Rattle.std.proofs.Common.{◌≡◌, ◌∙◌, ap, nat_abs, to_z, of_z, w32, ◌-ℤ◌}
use Rattle.std.proofs.lemmas.Int.{to_z-of_z}
use Rattle.part_on_screen.proofs.lemmas.Layers.{layers-of}
use Rattle.part_on_screen.proofs.middle.layer_count.Goals as goal

pub returns : goal.returns
returns c =
    let extent : c.abs_diff-halves.result ≡ nat_abs (c.args.high -ℤ c.args.low) =
    c.abs_diff-halves.ensures ∙ ap (λ z. nat_abs (z -ℤ to_z w32 (of_z w32 c.args.low))) (to_z-of_z w32 c.args.high c.ranges.high)
    ∙ ap (λ z. nat_abs (c.args.high -ℤ z)) (to_z-of_z w32 c.args.low c.ranges.low) in
    layers-of c.args.low c.args.high c.args.layer_height c.abs_diff-halves.result c.max.result extent c.requires.order c.requires.step.0 c.max.ensures
