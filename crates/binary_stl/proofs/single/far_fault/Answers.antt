use Rattle.std.proofs.Common.{◌<◌}
use Rattle.binary_stl.specs.Single.{exponent_field}
use Rattle.binary_stl.proofs.lemmas.Coordinates.{coordinate_far, exponent-masked}
use Rattle.binary_stl.proofs.single.far_fault.Goals as goal

pub returns-then-bits-lt-GREATEST_EXPONENT : goal.returns-then-bits-lt-GREATEST_EXPONENT
returns-then-bits-lt-GREATEST_EXPONENT c = λ unit.
    let less : exponent_field c.args.bits < 255 = rw (← exponent-masked c.args.bits) c.if-bits-lt-GREATEST_EXPONENT.true in
    coordinate_far unit c.args.bits c.requires less
