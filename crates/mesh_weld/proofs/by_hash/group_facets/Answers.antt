use Rattle.std.proofs.Common.{IfSome, subst}
use Rattle.mesh_weld.specs.Grouping.{AreEdgesOf, AreOrdersOf}
use Rattle.mesh_weld.proofs.by_hash.group_facets.Goals as goal

pub returns-clause-edges : goal.returns-clause-edges
returns-clause-edges g c = subst (λ o. IfSome o (λ own. AreEdgesOf c.args.ids.now own.numbers.items own.count)) c.in-Some-2.is c.in_ok-edges.ensures

pub returns-clause-orders : goal.returns-clause-orders
returns-clause-orders g c = subst (λ o. IfSome o (λ own. AreOrdersOf c.args.points.now c.args.ids.now own)) c.in-Some-3.is c.in_ok-orders.ensures
