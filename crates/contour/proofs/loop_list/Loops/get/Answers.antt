use Rattle.std.proofs.Common.{◌∙◌, ap}
use Rattle.std.specs.Prelude.{slice_get}
use Rattle.contour.proofs.lemmas.Parts.{IsCutInto, cut-by-inner}
use Rattle.contour.proofs.loop_list.Loops.get.Goals as goal

pub part-requires-clause-count : goal.part-requires-clause-count
part-requires-clause-count g c =
    let cut : IsCutInto c.args.self.now c.as_slice.result.now c.as_slice-ends.result.now c.count.result =
    cut-by-inner _ _ _ _ _ _ c.as_slice.ensures.value c.as_slice-ends.ensures.value c.self.invariant c.self.view_is c.count.ensures in
    cut.few

pub part-requires-clause-ends : goal.part-requires-clause-ends
part-requires-clause-ends g c =
    let cut : IsCutInto c.args.self.now c.as_slice.result.now c.as_slice-ends.result.now c.count.result =
    cut-by-inner _ _ _ _ _ _ c.as_slice.ensures.value c.as_slice-ends.ensures.value c.self.invariant c.self.view_is c.count.ensures in
    cut.ends_are

pub returns : goal.returns
returns g c =
    let cut : IsCutInto c.args.self.now c.as_slice.result.now c.as_slice-ends.result.now c.count.result =
    cut-by-inner _ _ _ _ _ _ c.as_slice.ensures.value c.as_slice-ends.ensures.value c.self.invariant c.self.view_is c.count.ensures in
    c.part.ensures ∙ ap (λ parts. slice_get parts c.args.number) cut.is
