use Rattle.std.proofs.Common.{arith, ◌<◌, ◌⊎◌, inl, inr}
use Rattle.micro_num.proofs.lemmas.Capped.{IsCapped_beyond, grown_far}
use Rattle.micro_num.proofs.scaling.grown.Goals as goal
use Rattle.micro_num.specs.declared.limits.TheConstants.{COORDINATE_POWER}
use Rattle.geometry.specs.declared.limits.TheConstants.{COORDINATE_LIMIT}

pub returns-then-value-gt-COORDINATE_LIMIT : goal.returns-then-value-gt-COORDINATE_LIMIT
returns-then-value-gt-COORDINATE_LIMIT c =
    let far : (COORDINATE_POWER < c.args.power) ⊎ (COORDINATE_LIMIT < c.args.value) =
    elim c.if-value-gt-COORDINATE_LIMIT.either [ inl h ↦ inl (omega arith) | inr h ↦ inr h.1 ] in
    IsCapped_beyond _ _ (grown_far c.args.value c.args.power (omega arith) far) (omega arith)
