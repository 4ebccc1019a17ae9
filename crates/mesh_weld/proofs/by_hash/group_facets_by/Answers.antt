use Rattle.std.proofs.Common.{rules}
use Rattle.mesh_weld.proofs.by_hash.group_facets_by.Goals as goal

pub returns-clause-edges : goal.returns-clause-edges
returns-clause-edges g c = search rules

pub returns-clause-orders : goal.returns-clause-orders
returns-clause-orders g c = search rules
