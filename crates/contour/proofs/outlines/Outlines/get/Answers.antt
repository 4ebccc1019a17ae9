use Rattle.std.proofs.Common.{◌∙◌, ap, length}
use Rattle.std.specs.Prelude.{slice_get}
use Rattle.contour.proofs.lemmas.Parts.{IsCutInto, cut-by-all}
use Rattle.contour.proofs.outlines.Outlines.get.Goals as goal

pub part-requires-clause-ends : goal.part-requires-clause-ends
part-requires-clause-ends g c =
    let cut : IsCutInto c.args.self.now c.as_slice.result.now c.as_slice-ends.result.now (length c.as_slice-ends.result.now) =
    cut-by-all _ _ _ _ _ c.as_slice.ensures.value c.as_slice-ends.ensures.value c.self.invariant c.self.view_is in
    cut.ends_are

pub returns : goal.returns
returns g c =
    let cut : IsCutInto c.args.self.now c.as_slice.result.now c.as_slice-ends.result.now (length c.as_slice-ends.result.now) =
    cut-by-all _ _ _ _ _ c.as_slice.ensures.value c.as_slice-ends.ensures.value c.self.invariant c.self.view_is in
    c.part.ensures ∙ ap (λ parts. slice_get parts c.args.number) cut.is
