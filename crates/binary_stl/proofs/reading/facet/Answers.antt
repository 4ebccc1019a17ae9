use Rattle.std.proofs.Common.{rules, ◌<◌, ℕ, arith}
use Rattle.std.specs.Prelude.{IsOk}
use Rattle.binary_stl.specs.Binary.{coordinate_at}
use Rattle.binary_stl.specs.Reading.{IsFacetFault}
use Rattle.binary_stl.proofs.lemmas.Places.{corner_is_ok, facet_fault, of_one, of_two}
use Rattle.binary_stl.proofs.reading.facet.Goals as goal

pub returns-in_err-corner-clause-fault : goal.returns-in_err-corner-clause-fault
returns-in_err-corner-clause-fault c =
    let is : IsFacetFault c.args.unit c.args.bytes.now c.args.facet c.in_err-corner.field-0.0 =
    facet_fault c.args.unit c.args.bytes.now c.args.facet 0 c.in_err-corner.field-0.0 (omega arith) (λ k none. absurd (omega (arith, none))) c.in_err-corner.ensures.fault in
    search rules

pub returns-in_err-corner-2-clause-fault : goal.returns-in_err-corner-2-clause-fault
returns-in_err-corner-2-clause-fault c =
    let at : ℕ → Type 0 = λ k. (a : ℕ) → a < 3 → IsOk (coordinate_at c.args.unit c.args.bytes.now c.args.facet k a) in
    let first : at 0 = corner_is_ok c.args.unit c.args.bytes.now c.args.facet 0 c.in_ok-corner.field-0 c.in_ok-corner.ensures.corner in
    let is : IsFacetFault c.args.unit c.args.bytes.now c.args.facet c.in_err-corner-2.field-0.0 =
    facet_fault c.args.unit c.args.bytes.now c.args.facet 1 c.in_err-corner-2.field-0.0 (omega arith) (of_one at first) c.in_err-corner-2.ensures.fault in
    search rules

pub returns-in_err-corner-3-clause-fault : goal.returns-in_err-corner-3-clause-fault
returns-in_err-corner-3-clause-fault c =
    let at : ℕ → Type 0 = λ k. (a : ℕ) → a < 3 → IsOk (coordinate_at c.args.unit c.args.bytes.now c.args.facet k a) in
    let first : at 0 = corner_is_ok c.args.unit c.args.bytes.now c.args.facet 0 c.in_ok-corner.field-0 c.in_ok-corner.ensures.corner in
    let second : at 1 = corner_is_ok c.args.unit c.args.bytes.now c.args.facet 1 c.in_ok-corner-2.field-0 c.in_ok-corner-2.ensures.corner in
    let is : IsFacetFault c.args.unit c.args.bytes.now c.args.facet c.in_err-corner-3.field-0.0 =
    facet_fault c.args.unit c.args.bytes.now c.args.facet 2 c.in_err-corner-3.field-0.0 (omega arith) (of_two at first second) c.in_err-corner-3.ensures.fault in
    search rules
