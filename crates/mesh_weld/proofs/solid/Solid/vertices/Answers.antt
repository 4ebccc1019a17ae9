use Rattle.std.proofs.Common.{◌≡◌, ◌∙◌}
use Rattle.std.specs.List.{flat_map}
use Rattle.geometry.specs.Facet.{corners}
use Rattle.mesh_weld.specs.Solid.{facets_by, vertices}
use Rattle.mesh_weld.proofs.lemmas.InOrder.{in_order-contains}
use Rattle.mesh_weld.proofs.lemmas.Transfer.{vertices-ascend}
use Rattle.mesh_weld.proofs.solid.Solid.vertices.Goals as goal

pub returns-clause-ascending : goal.returns-clause-ascending
returns-clause-ascending g c =
    let points_are : c.as_slice.result.now ≡ vertices (facets_by c.self.inside.numbering.points.items c.self.inside.numbering.numbers.items) = c.as_slice.ensures.value ∙ c.self.invariant.0.points_are in
    rw points_are (vertices-ascend (facets_by c.self.inside.numbering.points.items c.self.inside.numbering.numbers.items))

pub returns-clause-members : goal.returns-clause-members
returns-clause-members g c p =
    let points_are : c.as_slice.result.now ≡ vertices (facets_by c.self.inside.numbering.points.items c.self.inside.numbering.numbers.items) = c.as_slice.ensures.value ∙ c.self.invariant.0.points_are in
    rw (points_are, ← c.self.view_is) (in_order-contains (flat_map corners (facets_by c.self.inside.numbering.points.items c.self.inside.numbering.numbers.items)) p)

pub returns-clause-value : goal.returns-clause-value
returns-clause-value g c = rw (← c.self.view_is) (c.as_slice.ensures.value ∙ c.self.invariant.0.points_are)
