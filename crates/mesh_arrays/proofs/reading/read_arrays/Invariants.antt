use Rattle.std.proofs.Common.{◌≡◌, ◌≤◌, map, take}
use Rattle.std.specs.Prelude.{All}
use Rattle.geometry.specs.declared.limits.TheConstants.{FACET_LIMIT}
use Rattle.geometry.specs.Indexed.{indexed_facet}
use Rattle.mesh_arrays.specs.Arrays.{IsCorner}
use Rattle.mesh_arrays.proofs.reading.read_arrays.Given as goal

abbrev pub invariant-loop-triangle : goal.invariant-loop-triangle
invariant-loop-triangle g l = record {
  few : l.triangle ≤ FACET_LIMIT;
  corners : All (All (IsCorner l.points)) (take l.triangle l.triangles);
  each : l.facets.items ≡ map (indexed_facet l.points) (take l.triangle l.triangles);
}
