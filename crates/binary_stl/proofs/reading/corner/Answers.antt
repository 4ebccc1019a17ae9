use Rattle.std.proofs.Common.{rules, ℕ}
use Rattle.std.specs.Prelude.{IsOk}
use Rattle.binary_stl.specs.Binary.{coordinate_at, number_from, number_place}
use Rattle.binary_stl.specs.Reading.{IsCornerFault}
use Rattle.binary_stl.specs.declared.binary_fault.Axis.TheVariants.{Y, Z}
use Rattle.binary_stl.proofs.lemmas.Coordinates.{coordinate-within-bits}
use Rattle.binary_stl.proofs.lemmas.Places.{corner_fault, is_ok_at, of_one, of_two}
use Rattle.binary_stl.proofs.reading.corner.Goals as goal

pub returns-in_err-y-clause-fault : goal.returns-in_err-y-clause-fault
returns-in_err-y-clause-fault c =
    let at : ℕ → Type 0 = λ a. IsOk (coordinate_at c.args.unit c.args.bytes.now c.args.facet c.args.corner a) in
    let first : at 0 = is_ok_at _ c.in_ok-x.x c.in_ok-x.ensures.value in
    let is : IsCornerFault c.args.unit c.args.bytes.now c.args.facet c.args.corner c.in_err-y.field-0.0 =
    corner_fault c.args.unit c.args.bytes.now c.args.facet c.args.corner Y c.in_err-y.field-0.0 (of_one at first) c.in_err-y.ensures.fault in
    search rules

pub returns-in_err-z-clause-fault : goal.returns-in_err-z-clause-fault
returns-in_err-z-clause-fault c =
    let at : ℕ → Type 0 = λ a. IsOk (coordinate_at c.args.unit c.args.bytes.now c.args.facet c.args.corner a) in
    let first : at 0 = is_ok_at _ c.in_ok-x.x c.in_ok-x.ensures.value in
    let second : at 1 = is_ok_at _ c.in_ok-y.y c.in_ok-y.ensures.value in
    let is : IsCornerFault c.args.unit c.args.bytes.now c.args.facet c.args.corner c.in_err-z.field-0.0 =
    corner_fault c.args.unit c.args.bytes.now c.args.facet c.args.corner Z c.in_err-z.field-0.0 (of_two at first second) c.in_err-z.ensures.fault in
    search rules

pub unwrap-requires : goal.unwrap-requires
unwrap-requires c =
    let bits : ℕ → ℕ = λ a. number_from c.args.bytes.now (number_place c.args.facet c.args.corner a) in
    c.new.ensures.some.1 (
      coordinate-within-bits c.args.unit (bits 0) c.in_ok-x.x c.in_ok-x.ensures.value,
      coordinate-within-bits c.args.unit (bits 1) c.in_ok-y.y c.in_ok-y.ensures.value,
      coordinate-within-bits c.args.unit (bits 2) c.in_ok-z.z c.in_ok-z.ensures.value,
    )
