use Rattle.std.proofs.Common.{◌+◌, ◌∙◌, length, ap, arith}
use Rattle.std.proofs.lemmas.List.{length-map}
use Rattle.mesh_weld.specs.Welder.{Welder}
use Rattle.mesh_weld.specs.Solid.{facet_by}
use Rattle.mesh_weld.proofs.lemmas.Naming.{welder_length}
use Rattle.mesh_weld.proofs.welder.Welder.count.Goals as goal

pub returns-clause-whole : goal.returns-clause-whole
returns-clause-whole g c facets e =
    omega (arith, ap (λ (p : Welder). length p.kept + length p.degenerate) (c.self.view_is ∙ e), welder_length facets, length-map c.self.inside.kept.ids (facet_by c.self.inside.names.points.items), c.self.inside.names.degenerate.ok.0)

pub returns-clause-value : goal.returns-clause-value
returns-clause-value g c =
    rw (← c.self.view_is) (omega (arith, length-map c.self.inside.kept.ids (facet_by c.self.inside.names.points.items), c.self.inside.names.degenerate.ok.0))
