use Rattle.std.proofs.Common.{rules}
use Rattle.std.proofs.lemmas.List.Sorted.{answers_always}
use Rattle.mesh_weld.specs.declared.by_sort.corners.CornerEntry.{CornerEntry}
use Rattle.mesh_weld.proofs.lemmas.Points.{AreAscending-from_sort}
use Rattle.mesh_weld.proofs.by_sort.corners.sort_corners.Goals as goal

pub returns-clause-ascending : goal.returns-clause-ascending
returns-clause-ascending g c =
    AreAscending-from_sort _
    (c.sort_unstable_by_key.ensures.sorted (λ (e : CornerEntry). (e.point.x, e.point.y, e.point.z)) (answers_always _ _ _ (λ f a r g h. search rules)))
