use Rattle.std.proofs.Common.{arith}
use Rattle.std.proofs.lemmas.List.{length-map}
use Rattle.mesh_weld.specs.Solid.{facet_by}
use Rattle.mesh_weld.proofs.solid.Solid.count.Goals as goal

pub returns-clause-closed : goal.returns-clause-closed
returns-clause-closed g c u v = rw (← c.self.view_is) (c.self.invariant.0.closed u v)

pub returns-clause-distinct : goal.returns-clause-distinct
returns-clause-distinct g c = rw (← c.self.view_is) c.self.invariant.2

pub returns-clause-count : goal.returns-clause-count
returns-clause-count g c =
    let own = c.self.inside.numbering in
    rw (← c.self.view_is) (omega (arith, own.numbers.ok.0, length-map own.numbers.items (facet_by own.points.items)))
