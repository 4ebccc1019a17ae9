-- What is returned for arrays, and what is found on the way.
use Rattle.std.specs.Prelude.{◌≡◌, ◌≢◌, ◌<◌, ◌≤◌, ℕ, ℤ, IfErr, IfOk, List, MatchResult, Result, Vec, length}
use Rattle.geometry.specs.Point.{IsMeshPoint}
use Rattle.geometry.specs.Facet.{Facet}
use Rattle.geometry.specs.Indexed.{indexed_point}
use Rattle.mesh_arrays.specs.Arrays.{IsFaultOfArrays, ReadsArrays, Stands}
use Rattle.mesh_arrays.specs.declared.array_fault.ArrayFault.{ArrayFault}
use Rattle.mesh_arrays.specs.declared.array_fault.ArrayFault.TheVariants as fault

-- what is returned for arrays: their facets, their one fault, or out of memory
pub record IsAnswerTo {A : Type 0} (points : List (List ℤ)) (triangles : List (List ℕ)) (result : Result (Vec Facet A) ArrayFault) : Type 0 where
  -- only facets of the arrays are returned
  pub found : IfOk result (λ facets. ReadsArrays points triangles facets.items)
  -- if the arrays are facets, exactly these are returned, unless memory runs out
  pub only : (facets : List Facet) → ReadsArrays points triangles facets
      → MatchResult result (λ found. found.items ≡ facets) (λ cause. cause ≡ fault.Memory)
  -- a fault is the arrays', unless memory runs out
  pub fault : IfErr result (λ cause. cause ≢ fault.Memory → IsFaultOfArrays points triangles cause)

-- why an index of a triangle is no corner
abbrev pub IsCornerFault : List (List ℤ) → ℕ → ℕ → ArrayFault → Type 0
IsCornerFault points triangle index (fault.Missing number point) = (number ≡ triangle) × (point ≡ index) × (length points ≤ index)
IsCornerFault points triangle index (fault.OutOfRange number point) =
    (number ≡ triangle) × (point ≡ index) × (index < length points) × (IsMeshPoint (indexed_point points index) → ⊥)
IsCornerFault points triangle index (fault.TooMany number) = ⊥
IsCornerFault points triangle index fault.Memory = ⊥

-- why a triangle is no facet
abbrev pub IsTriangleFault : List (List ℤ) → ℕ → List ℕ → ArrayFault → Type 0
IsTriangleFault points triangle corners f = (index : ℕ) × Stands points corners index × IsCornerFault points triangle index f
