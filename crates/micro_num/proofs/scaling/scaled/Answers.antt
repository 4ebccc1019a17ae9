use Rattle.std.proofs.Common.{arith, ap, ◌∙◌, w64}
use Rattle.std.specs.Prelude.{unsigned_abs}
use Rattle.std.proofs.lemmas.Int.{ints, to_z-of_z}
use Rattle.micro_num.proofs.lemmas.Capped.{IsCapped-down, IsCapped-up}
use Rattle.micro_num.proofs.scaling.scaled.Goals as goal

pub returns-then-power-lt0 : goal.returns-then-power-lt0
returns-then-power-lt0 c =
    let same = to_z-of_z w64 c.args.power c.ranges.power in
    IsCapped-down c.args.value c.shrunk.result _ c.args.power (grind (arith, ints)) (c.unsigned_abs.ensures.value ∙ ap unsigned_abs same) c.shrunk.ensures

pub returns-else-power-lt0 : goal.returns-else-power-lt0
returns-else-power-lt0 c =
    let same = to_z-of_z w64 c.args.power c.ranges.power in
    IsCapped-up c.args.value c.grown.result _ c.args.power (grind (arith, ints))
    (c.unsigned_abs-else-power-lt0.ensures.value ∙ ap unsigned_abs same) c.grown.ensures
