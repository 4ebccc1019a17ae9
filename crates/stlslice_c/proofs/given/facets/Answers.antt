use Rattle.std.proofs.Common.{ℕ, slice_set, get_or, ap, subst}
use Rattle.stlslice_c.specs.Facets.{IsFacetsAnswer}
use Rattle.stlslice_c.proofs.given.facets.Goals as goal

pub returns-clause-answered : goal.returns-clause-answered
returns-clause-answered c size room line_room x e =
    let a = c.args in let n = c.read_facets.new in (
      n.wanted,
      ap (λ zs. slice_set zs 0 n.wanted) e,
      subst (λ (was : ℕ). IsFacetsAnswer a.unit a.text.now a.facets.now n.facets was n.wanted a.line.now n.line c.read_facets.result)
          (ap (λ zs. get_or zs 0 0) e) c.read_facets.ensures,
    )
