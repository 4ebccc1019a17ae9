use Rattle.std.proofs.Common.{List, ℕ, ap, ◌∙◌}
use Rattle.mesh_weld.specs.Welder.{welder_by}
use Rattle.mesh_weld.proofs.welder.Welder.without_table.Goals as goal

pub returns-clause-value : goal.returns-clause-value
returns-clause-value g c =
    ap (λ (ids : List (List ℕ)). welder_by c.self.inside.names.points.items ids c.self.inside.names.degenerate.items) c.in_ok-ids.ensures.ids ∙ c.self.view_is

pub returns-clause-named : goal.returns-clause-named
returns-clause-named g c = rw c.in_ok-ids.ensures.ids c.self.invariant.0

pub returns-clause-numbering : goal.returns-clause-numbering
returns-clause-numbering g c = rw c.in_ok-ids.ensures.ids c.in_ok-ids.ensures.numbering

pub returns-clause-small : goal.returns-clause-small
returns-clause-small g c = rw c.in_ok-ids.ensures.ids c.in_ok-ids.ensures.small
