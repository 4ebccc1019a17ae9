-- A mesh as arrays: points by their coordinates, in whole micrometres, and triangles by the indices of their corners among
-- the points. This is which facets arrays are, and which fault they have otherwise.
-- - `IsCorner`: an index names a point in range
-- - `ReadsArrays`: each index names a point in range, and these are the facets of the triangles
-- - `Reaches`: a reader that goes through the triangles in order comes to this index
-- - `IsFaultOfArrays`: the one fault of arrays
use Rattle.std.specs.Prelude.{◌≡◌, ◌<◌, ◌≤◌, ℕ, ℤ, All, List, [], length, slice_index, slice_index_or, take}
use Rattle.geometry.specs.Point.{IsMeshPoint}
use Rattle.geometry.specs.Facet.{Facet}
use Rattle.geometry.specs.Indexed.{indexed_facets, indexed_point}
use Rattle.geometry.specs.declared.limits.TheConstants.{FACET_LIMIT}
use Rattle.mesh_arrays.specs.declared.array_fault.ArrayFault.{ArrayFault}
use Rattle.mesh_arrays.specs.declared.array_fault.ArrayFault.TheVariants as fault

-- the index names one of the points, which is in range
pub record IsCorner (points : List (List ℤ)) (index : ℕ) : Type 0 where
  pub there : index < length points
  pub in_range : IsMeshPoint (indexed_point points index)

-- the triangle with this number
abbrev pub triangle_at : List (List ℕ) → ℕ → List ℕ
triangle_at triangles number = slice_index_or triangles number []

-- Each index of each triangle names a point in range, and these are the facets of the triangles, in order. There are no more
-- than are read.
pub record ReadsArrays (points : List (List ℤ)) (triangles : List (List ℕ)) (facets : List Facet) : Type 0 where
  pub few : length triangles ≤ FACET_LIMIT
  pub corners : All (All (IsCorner points)) triangles
  pub each : facets ≡ indexed_facets points triangles

-- Among the corners of a triangle this index stands, and each index before it names a point in range.
pub record Stands (points : List (List ℤ)) (corners : List ℕ) (index : ℕ) : Type 0 where
  pub corner : ℕ
  pub inside : corner < length corners
  pub before : All (IsCorner points) (take corner corners)
  pub index_is : index ≡ slice_index corners corner

-- This triangle is read, and in it this index. Each index before it, in this triangle and in earlier ones, names a point in
-- range.
pub record Reaches (points : List (List ℤ)) (triangles : List (List ℕ)) (triangle index : ℕ) : Type 0 where
  pub inside : triangle < length triangles
  pub few : triangle < FACET_LIMIT
  pub before : All (All (IsCorner points)) (take triangle triangles)
  pub stands : Stands points (triangle_at triangles triangle) index

-- one triangle more than are read, after those that are facets
pub record IsOneMore (points : List (List ℤ)) (triangles : List (List ℕ)) (triangle : ℕ) : Type 0 where
  pub number : triangle ≡ FACET_LIMIT
  pub inside : triangle < length triangles
  pub before : All (All (IsCorner points)) (take triangle triangles)

-- the one fault of arrays that are no facets
abbrev pub IsFaultOfArrays : List (List ℤ) → List (List ℕ) → ArrayFault → Type 0
IsFaultOfArrays points triangles (fault.Missing triangle point) = Reaches points triangles triangle point × (length points ≤ point)
IsFaultOfArrays points triangles (fault.OutOfRange triangle point) =
    Reaches points triangles triangle point × (point < length points) × (IsMeshPoint (indexed_point points point) → ⊥)
IsFaultOfArrays points triangles (fault.TooMany triangle) = IsOneMore points triangles triangle
IsFaultOfArrays points triangles fault.Memory = ⊥
