use Rattle.std.proofs.Common.{◌∙◌, ◌<◌, ◌*◌, ◌^◌, arith}
use Rattle.micro_num.specs.Micrometres.{nearest}
use Rattle.binary_stl.specs.Single.{exponent_field, micrometres_in, multiple}
use Rattle.binary_stl.proofs.lemmas.Coordinates.{coordinate_is, exponent-masked, fraction-masked}
use Rattle.binary_stl.proofs.single.coordinate.Goals as goal

pub returns : goal.returns
returns c =
    let bits = c.args.bits in
    let near : exponent_field bits < 255 = omega (arith, exponent-masked bits, c.if-exponent-ge-WHOLE_EXPONENT.false) in
    c.ok_or.ensures.value
    ∙ coordinate_is c.args.unit bits c.magnitude.result c.signed_coordinate.result near
    (c.magnitude.ensures ∙ (λ i. nearest (multiple (exponent-masked bits i) (fraction-masked bits i) * micrometres_in c.args.unit) (2 ^ 149)))
    c.signed_coordinate.ensures.in_range c.signed_coordinate.ensures.value
