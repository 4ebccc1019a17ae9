use Rattle.std.proofs.Common.{◌≡◌, flat_map, take}
use Rattle.geometry.specs.Indexed.{indexed_facets}
use Rattle.test_meshes.proofs.meshes.facets_of.Given as goal

abbrev pub invariant-loop-part : goal.invariant-loop-part
invariant-loop-part g l =
    l.list.items ≡ flat_map (λ part. indexed_facets part.0.now part.1.now) (take l.part-index l.parts)
