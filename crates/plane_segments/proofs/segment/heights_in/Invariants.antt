use Rattle.std.proofs.Common.{◌≡◌, take}
use Rattle.std.specs.Prelude.{map}
use Rattle.exact_cut.specs.Cut.{corner_heights}
use Rattle.mesh_weld.specs.Solid.{facet_at}
use Rattle.plane_segments.proofs.segment.heights_in.Given as goal

abbrev pub invariant-loop-n : goal.invariant-loop-n
invariant-loop-n g l = l.heights.items ≡ map (λ n. corner_heights (facet_at l.s.facets n)) (take l.n-index l.numbers)
