use Rattle.std.proofs.Common.{rules}
use Rattle.std.proofs.lemmas.List.Sorted.{IsNonDecreasingBy-from_sort_by_key}
use Rattle.mesh_weld.specs.HalfEdge.{pair_key}
use Rattle.mesh_weld.proofs.by_sort.edges.sort_half_edges.Goals as goal

pub returns-clause-ascending : goal.returns-clause-ascending
returns-clause-ascending g c =
    IsNonDecreasingBy-from_sort_by_key pair_key _ c.sort_unstable_by_key.ensures.sorted (λ a r q k. search rules)
